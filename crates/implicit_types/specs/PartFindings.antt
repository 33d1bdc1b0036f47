-- What is found at the parts of a statement: operands, arguments, subscripts and other parts of a wrong type (X3.9 sections 6, 10,
-- 11, 12 and 15), subscripts that no array of their number has, and arrays without subscripts where elements must stand (X3.9
-- sections 5.4 and 5.6).
use Rattle.std.specs.Prelude.{ℕ, pos, suc, Bool, true, false, not, ◌&&◌, ◌||◌, ◌==◌, List, [], ◌∷◌, ◌++◌, length, flat_map, fold, codes, Option, Some, None, is_some, if◌then◌else◌}
use Rattle.std.specs.Ordering.{int_eq}
use Rattle.text_base.specs.Values.{Kind, integers, logicals, characters}
use Rattle.text_base.specs.Trees.{Expr, int, bool, text, name, call, substring, unary, binary, paren, Exprs, none, more, Bound, absent, at, UnaryOp, plus, minus, negation}
use Rattle.text_base.specs.declared.operation.Op.{Op}
use Rattle.text_base.specs.declared.refusal.Cause.{Cause}
use Rattle.text_base.specs.declared.refusal.Cause.TheVariants as cause
use Rattle.text_base.specs.Operators.{unary_op, binary_op, intrinsic}
use Rattle.tree77.specs.Lexemes.{operator_text}
use Rattle.tree77.specs.Statements as s
use Rattle.tree77.specs.Statements.{Length, Type77, Dimension, Declarator, Equation, Implicit, Block, Range, Listed, Listeds, DataGroup, UnitRef, FormatRef, Control, FileControl, ReadBy, Header, Declared, Simple, Statement}
use Rattle.order77.specs.Names.{is_among}
use Rattle.names77.specs.declared.role.Role.TheVariants as role
use Rattle.names77.specs.declared.role.Allowed.{Allowed}
use Rattle.names77.specs.declared.role.Allowed.TheVariants.{Only}
use Rattle.names77.specs.Notes.{Around, elsewhere, inside}
use Rattle.names77.specs.Rows.{Row, row_in}
use Rattle.names77.specs.RoleTables.{referred_as, is_called}
use Rattle.names77.specs.Known.{Known, kind_in, is_real, is_array}
use Rattle.implicit_types.specs.declared.items.ItemUse.{ItemUse}
use Rattle.implicit_types.specs.declared.items.ItemUse.TheVariants as kind_of_item
use Rattle.implicit_types.specs.Findings.{Finding, finding}
use Rattle.implicit_types.specs.Operands.{may_agree, takes, kind_of, kinds_of, is_apart}

-- what is found of a name, which is nothing where the name is real
abbrev pub of_name : Known → Cause → List ℕ → Bool → List Finding
of_name k c x found = finding c x (found && not (is_real k x))

-- a part of a wrong type, named by an operator or a keyword
abbrev pub mismatch : List ℕ → Bool → List Finding
mismatch word found = finding cause.TypeMismatch word found

-- ---- lists behind names

abbrev pub count : Exprs → ℕ
count none = 0
count (more e es) = suc (count es)

abbrev pub any_apart : Known → Kind → Exprs → Bool
any_apart k kind none = false
any_apart k kind (more e es) = is_apart k kind e || any_apart k kind es

-- the dimensions of an array are another number
abbrev pub has_other_count : Known → List ℕ → Exprs → Bool
has_other_count k x es = has_other (row_in k.table x).shape
  where
    has_other : Option (List Dimension) → Bool
    has_other None = true
    has_other (Some ds) = not (length ds == count es)

-- the subscripts of an array
abbrev pub subscript_findings : Known → List ℕ → Exprs → List Finding
subscript_findings k x es =
    of_name k cause.TypeMismatch x (any_apart k integers es) ++ of_name k cause.SubscriptCount x (has_other_count k x es)

abbrev pub fits_intrinsic : Known → Option Op → Exprs → Bool
fits_intrinsic k None es = true
fits_intrinsic k (Some o) es = takes o (kinds_of k es)

-- the arguments agree with the dummies of a statement function
abbrev pub fits_dummies : Known → List (List ℕ) → Exprs → Bool
fits_dummies k [] none = true
fits_dummies k (d ∷ ds) (more e es) = may_agree (kind_in k d) (kind_of k e) && fits_dummies k ds es
fits_dummies k _ _ = false

abbrev pub fits_function : Known → Option (List (List ℕ)) → Exprs → Bool
fits_function k None es = true
fits_function k (Some ds) es = fits_dummies k ds es

abbrev pub fits_arguments : Known → Allowed → List ℕ → Exprs → Bool
fits_arguments k (Only role.Intrinsic) x es = fits_intrinsic k (intrinsic x) es
fits_arguments k (Only role.StmtFunction) x es = fits_function k (row_in k.table x).dummies es
fits_arguments k _ x es = true

abbrev pub referred_in : Known → List ℕ → Allowed
referred_in k x = referred_as x (row_in k.table x)

-- a name before a list that is no array; in the place of a variable it must be one
abbrev pub other_findings : Known → Bool → List ℕ → Exprs → List Finding
other_findings k is_place x es =
    if is_place then of_name k cause.SubscriptCount x true
    else of_name k cause.TypeMismatch x (not (fits_arguments k (referred_in k x) x es))

abbrev pub list_findings : Known → Bool → List ℕ → Exprs → List Finding
list_findings k is_place x es = if is_array k x then subscript_findings k x es else other_findings k is_place x es

-- whole arrays may stand in a list of arguments
abbrev pub takes_arrays : Known → List ℕ → Bool
takes_arrays k x = not (is_array k x) && is_called (referred_in k x)

-- ---- expressions

-- dummies of a statement function are no arrays
abbrev pub is_array_there : Known → Around → List ℕ → Bool
is_array_there k elsewhere x = is_array k x
is_array_there k (inside g ds) x = is_array k x && not (is_among ds x)

abbrev pub sign_text : UnaryOp → List ℕ
sign_text plus = codes "+"
sign_text minus = codes "-"
sign_text negation = codes ".NOT."

-- the name that has a substring
abbrev pub substring_name : Expr → List ℕ
substring_name (name x) = x
substring_name (call x es) = x
substring_name _ = []

abbrev pub is_apart_bound : Known → Bound → Bool
is_apart_bound k absent = false
is_apart_bound k (at e) = is_apart k integers e

-- what has a substring is no characters, or a bound no integer
abbrev pub is_wrong_substring : Known → Expr → Bound → Bound → Bool
is_wrong_substring k a from to = is_apart k characters a || (is_apart_bound k from || is_apart_bound k to)

-- From left to right; `whole`: a whole array may stand for it; `is_place`: it stands where a variable, an array element or a
-- substring must stand.
abbrev mutual
  pub expr_findings : Known → Around → Bool → Bool → Expr → List Finding
  expr_findings k c whole is_place (int v) = []
  expr_findings k c whole is_place (bool b) = []
  expr_findings k c whole is_place (text t) = []
  expr_findings k c whole is_place (name x) = of_name k cause.SubscriptCount x (not whole && is_array_there k c x)
  expr_findings k c whole is_place (call x es) = list_findings k is_place x es ++ exprs_findings k c (takes_arrays k x) es
  expr_findings k c whole is_place (substring a from to) =
      of_name k cause.TypeMismatch (substring_name a) (is_wrong_substring k a from to)
      ++ (expr_findings k c false true a ++ (bound_findings k c from ++ bound_findings k c to))
  expr_findings k c whole is_place (unary o a) =
      mismatch (sign_text o) (not (takes (unary_op o) (kind_of k a ∷ []))) ++ expr_findings k c false false a
  expr_findings k c whole is_place (binary o a b) =
      expr_findings k c false false a
      ++ (mismatch (operator_text o) (not (takes (binary_op o) (kind_of k a ∷ kind_of k b ∷ []))) ++ expr_findings k c false false b)
  expr_findings k c whole is_place (paren a) = expr_findings k c false false a

  pub exprs_findings : Known → Around → Bool → Exprs → List Finding
  exprs_findings k c whole none = []
  exprs_findings k c whole (more e es) = expr_findings k c whole false e ++ exprs_findings k c whole es

  pub bound_findings : Known → Around → Bound → List Finding
  bound_findings k c absent = []
  bound_findings k c (at e) = expr_findings k c false false e

-- an expression whose value is used, and a variable that is defined
abbrev pub value_findings : Known → Expr → List Finding
value_findings k e = expr_findings k elsewhere false false e

abbrev pub option_findings : Known → Option Expr → List Finding
option_findings k None = []
option_findings k (Some e) = value_findings k e

abbrev pub variable_findings : Known → Expr → List Finding
variable_findings k e = expr_findings k elsewhere false true e

-- ---- parts of statements

abbrev pub is_apart_option : Known → Kind → Option Expr → Bool
is_apart_option k kind None = false
is_apart_option k kind (Some e) = is_apart k kind e

-- a part of this type, and its findings
abbrev pub part_findings : Known → List ℕ → Kind → Expr → List Finding
part_findings k word kind e = mismatch word (is_apart k kind e) ++ value_findings k e

abbrev pub range : List ℕ → Expr → Expr → Option Expr → Range
range x from to by = record { variable = x; from = from; to = to; by = by }

-- the values of a DO variable (X3.9 sections 11.10 and 12.8.2.3)
abbrev pub is_apart_range : Known → Range → Bool
is_apart_range k r = is_apart k integers (name r.variable) || (is_apart k integers r.from || (is_apart k integers r.to || is_apart_option k integers r.by))

abbrev pub range_findings : Known → Range → List Finding
range_findings k r = value_findings k (name r.variable) ++ (value_findings k r.from ++ (value_findings k r.to ++ option_findings k r.by))

-- ---- input and output

abbrev pub is_one : Expr → Bool
is_one (int v) = int_eq v (pos 1)
is_one _ = false

-- a dimension is `*`, or is read as if it were: it is written `1`
abbrev pub is_star : Option Expr → Option Expr → Bool
is_star lower None = true
is_star None (Some e) = is_one e
is_star (Some a) (Some e) = false

-- the last dimension is
abbrev pub has_no_end : List Dimension → Bool
has_no_end ds = fold (λ earlier (d : Dimension). is_star d.lower d.upper) false ds

-- a whole dummy array whose last dimension is `*`
abbrev pub is_endless : Row → Bool
is_endless r = r.is_dummy && is_endless_shape r.shape
  where
    is_endless_shape : Option (List Dimension) → Bool
    is_endless_shape None = false
    is_endless_shape (Some ds) = has_no_end ds

abbrev pub endless_findings : Known → Expr → List Finding
endless_findings k (name x) = of_name k cause.SubscriptCount x (is_endless (row_in k.table x))
endless_findings k _ = []

-- an item of input, of output, or of DATA
abbrev pub item_findings : Known → ItemUse → Expr → List Finding
item_findings k kind_of_item.Read e = endless_findings k e ++ expr_findings k elsewhere true true e
item_findings k kind_of_item.Written e = endless_findings k e ++ expr_findings k elsewhere true false e
item_findings k kind_of_item.Data e = expr_findings k elsewhere true true e

-- the items of a list
abbrev mutual
  pub listed_findings : Known → ItemUse → Listed → List Finding
  listed_findings k as_ (s.item e) = item_findings k as_ e
  listed_findings k as_ (s.loop xs r) = listeds_findings k as_ xs ++ range_findings k r

  pub listeds_findings : Known → ItemUse → Listeds → List Finding
  listeds_findings k as_ s.none = []
  listeds_findings k as_ (s.more x xs) = listed_findings k as_ x ++ listeds_findings k as_ xs

-- the values of a variable in an implied DO list have another type
abbrev mutual
  pub is_apart_listed : Known → Listed → Bool
  is_apart_listed k (s.item e) = false
  is_apart_listed k (s.loop xs r) = are_apart_listeds k xs || is_apart_range k r

  pub are_apart_listeds : Known → Listeds → Bool
  are_apart_listeds k s.none = false
  are_apart_listeds k (s.more x xs) = is_apart_listed k x || are_apart_listeds k xs

-- a variable, an array element or a substring
abbrev pub is_designator : Known → Expr → Bool
is_designator k (name x) = not (is_constant (row_in k.table x))
  where
    is_constant : Row → Bool
    is_constant r = is_some r.value
is_designator k (call x es) = is_array k x
is_designator k (substring a from to) = true
is_designator k _ = false

abbrev pub is_internal : Known → Expr → Bool
is_internal k e = is_text (kind_of k e) && is_designator k e
  where
    is_text : Option Kind → Bool
    is_text (Some characters) = true
    is_text _ = false

-- a unit is an integer, or a variable of characters (X3.9 sections 12.2 and 12.3)
abbrev pub is_wrong_unit : Known → UnitRef → Bool
is_wrong_unit k s.star_unit = false
is_wrong_unit k (s.given_unit e) = is_apart k integers e && not (is_internal k e)

abbrev pub unit_findings : Known → UnitRef → List Finding
unit_findings k s.star_unit = []
unit_findings k (s.given_unit e) = value_findings k e

-- a list-directed transfer of an internal file (X3.9 section 12.9.2)
abbrev pub is_list_directed : FormatRef → Bool
is_list_directed s.star_format = true
is_list_directed _ = false

abbrev pub is_unsupported : Known → UnitRef → FormatRef → Bool
is_unsupported k s.star_unit f = false
is_unsupported k (s.given_unit e) f = is_list_directed f && is_internal k e

abbrev pub is_apart_status : Known → Option (List ℕ) → Bool
is_apart_status k None = false
is_apart_status k (Some x) = is_apart k integers (name x)

abbrev pub status_findings : Known → Option (List ℕ) → List Finding
status_findings k None = []
status_findings k (Some x) = value_findings k (name x)

abbrev pub transfer_findings : Known → List ℕ → ItemUse → Control → Listeds → List Finding
transfer_findings k word as_ c xs =
    finding cause.Unsupported (codes "CONTROL") (is_unsupported k c.unit c.format)
    ++ (mismatch word (is_wrong_unit k c.unit || (is_apart_status k c.iostat || are_apart_listeds k xs))
    ++ (unit_findings k c.unit ++ (status_findings k c.iostat ++ listeds_findings k as_ xs)))

abbrev pub items_findings : Known → List ℕ → ItemUse → Listeds → List Finding
items_findings k word as_ xs = mismatch word (are_apart_listeds k xs) ++ listeds_findings k as_ xs

abbrev pub read_findings : Known → ReadBy → Listeds → List Finding
read_findings k (s.by_control c) xs = transfer_findings k (codes "READ") kind_of_item.Read c xs
read_findings k (s.by_format f) xs = items_findings k (codes "READ") kind_of_item.Read xs

abbrev pub is_wrong_file : Known → FileControl → Bool
is_wrong_file k c =
    is_apart k integers c.unit || (is_apart_option k characters c.file || (is_apart_option k characters c.status || is_apart_status k c.iostat))

abbrev pub file_findings : Known → List ℕ → FileControl → List Finding
file_findings k word c =
    mismatch word (is_wrong_file k c)
    ++ (value_findings k c.unit ++ (option_findings k c.file ++ (option_findings k c.status ++ status_findings k c.iostat)))

-- ---- executable statements

-- both sides have types that differ
abbrev pub are_unlike : Known → Expr → Expr → Bool
are_unlike k d e = not (may_agree (kind_of k d) (kind_of k e))

abbrev pub simple_findings : Known → Simple → List Finding
simple_findings k (s.assign d e) = variable_findings k d ++ (mismatch (codes "=") (are_unlike k d e) ++ value_findings k e)
simple_findings k (s.goto l) = []
simple_findings k (s.computed ls e) = part_findings k (codes "GOTO") integers e
simple_findings k (s.arithmetic e a b c) = part_findings k (codes "IF") integers e
simple_findings k s.continue = []
simple_findings k s.return_ = []
simple_findings k (s.stop c) = []
simple_findings k (s.calling x es) = flat_map (expr_findings k elsewhere true false) es
simple_findings k (s.read b xs) = read_findings k b xs
simple_findings k (s.write c xs) = transfer_findings k (codes "WRITE") kind_of_item.Written c xs
simple_findings k (s.print f xs) = items_findings k (codes "PRINT") kind_of_item.Written xs
simple_findings k (s.open_ c) = file_findings k (codes "OPEN") c
simple_findings k (s.close_ c) = file_findings k (codes "CLOSE") c
simple_findings k (s.rewind c) = file_findings k (codes "REWIND") c

-- ---- declarations

abbrev pub length_findings : Known → Option Length → List Finding
length_findings k None = []
length_findings k (Some s.assumed) = []
length_findings k (Some (s.given e)) = value_findings k e

abbrev pub type_findings : Known → Type77 → List Finding
type_findings k s.integer_type = []
type_findings k s.logical_type = []
type_findings k (s.character_type l) = length_findings k l

abbrev pub dimension_findings : Known → Dimension → List Finding
dimension_findings k d = option_findings k d.lower ++ option_findings k d.upper

abbrev pub declarator_findings : Known → Declarator → List Finding
declarator_findings k d = flat_map (dimension_findings k) d.dimensions ++ length_findings k d.length

abbrev pub block_findings : Known → Block → List Finding
block_findings k b = flat_map (declarator_findings k) b.members

abbrev pub equation_findings : Known → Equation → List Finding
equation_findings k e = mismatch (codes "=") (are_unlike k (name e.name) e.value) ++ value_findings k e.value

abbrev pub group_findings : Known → DataGroup → List Finding
group_findings k g = listeds_findings k kind_of_item.Data g.objects

abbrev pub declared_findings : Known → Declared → List Finding
declared_findings k (s.implicit is) = flat_map (λ (i : Implicit). type_findings k i.type) is
declared_findings k (s.parameter es) = flat_map (equation_findings k) es
declared_findings k (s.typed t ds) = type_findings k t ++ flat_map (declarator_findings k) ds
declared_findings k (s.dimension ds) = flat_map (declarator_findings k) ds
declared_findings k (s.common bs) = flat_map (block_findings k) bs
declared_findings k (s.data_ gs) = flat_map (group_findings k) gs
declared_findings k _ = []

abbrev pub header_findings : Known → Header → List Finding
header_findings k (s.function (Some t) x ds) = type_findings k t
header_findings k _ = []

-- ---- statements

abbrev pub function_findings : Known → List ℕ → List (List ℕ) → Expr → List Finding
function_findings k g ds e = mismatch (codes "=") (are_unlike k (name g) e) ++ expr_findings k (inside g ds) false false e

abbrev pub statement_findings : Known → Statement → List Finding
statement_findings k (s.header h) = header_findings k h
statement_findings k (s.declared d) = declared_findings k d
statement_findings k (s.statement_function g ds e) = function_findings k g ds e
statement_findings k (s.simple a) = simple_findings k a
statement_findings k (s.guarded e a) = part_findings k (codes "IF") logicals e ++ simple_findings k a
statement_findings k (s.if_then e) = part_findings k (codes "IF") logicals e
statement_findings k (s.else_if e) = part_findings k (codes "ELSEIF") logicals e
statement_findings k s.else_ = []
statement_findings k s.end_if = []
statement_findings k (s.do_ l r) = mismatch (codes "DO") (is_apart_range k r) ++ range_findings k r
statement_findings k s.end = []
