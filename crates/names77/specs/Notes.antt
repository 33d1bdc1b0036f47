-- What the statements of a unit say of names: a list of notes in the order of the text.
use Rattle.std.specs.Prelude.{ℕ, Bool, true, List, [], ◌∷◌, ◌++◌, ◌||◌, map, flat_map, Option, Some, None, if◌then◌else◌}
use Rattle.std.specs.Option.{option_or}
use Rattle.std.specs.Str.{bytes_eq}
use Rattle.text_base.specs.Values.{Kind, integers, logicals, characters}
use Rattle.text_base.specs.Trees.{Expr, int, bool, text, name, call, substring, unary, binary, paren, Exprs, none, more, Bound, absent, at}
use Rattle.tree77.specs.Statements as s
use Rattle.tree77.specs.Statements.{Length, Type77, Dimension, Declarator, Equation, Implicit, Block, Saved, Range, Listed, Listeds, Times, Value, DataGroup, UnitRef, Control, FileControl, ReadBy, Header, Declared, Simple, Statement}
use Rattle.order77.specs.Names.{is_among}
use Rattle.unit77.specs.Tree.{Line}
use Rattle.names77.specs.Grouped.{Said}

-- the type that a name is given; a length that is missing is 1 (X3.9 section 8.4)
pub record NameType : Type 0 where
  pub kind : Kind
  pub length : Option Length

-- where a name stands: in the expression of a statement function, with its name and its dummies (X3.9 section 15.4), or not
pub data Around : Type 0 where
  elsewhere : Around
  inside : List ℕ → List (List ℕ) → Around

pub data Fact : Type 0 where
  -- a type, and dimensions
  typed : NameType → Fact
  shaped : List Dimension → Fact
  -- it is the name of the main program or of the BLOCK DATA, of the function, of a subroutine, or one of the unit's dummies
  titled : Fact
  result : Fact
  subroutine : Fact
  dummy : Fact
  -- it stands in COMMON, in EQUIVALENCE, in EXTERNAL, in INTRINSIC, or as an object of DATA
  common : Fact
  equivalent : Fact
  external : Fact
  intrinsic : Fact
  initial : Fact
  -- it is a constant with this value, or a statement function with these dummies
  constant : Expr → Fact
  function : List (List ℕ) → Fact
  -- it is a dummy of a statement function; whether it may not be: its name is an earlier one's or the function's, or stands before
  -- a list
  parameter : Bool → Fact
  -- a list in parentheses follows it
  referred : Around → Fact
  -- its value is used
  valued : Fact
  -- it stands where a variable must stand: it is assigned, read, counted or saved, or has a substring
  variable : Fact
  -- it stands alone as an actual argument of a subroutine, or as an item of the list behind a name
  given : Fact
  given_to : List ℕ → Fact

-- something that is said of a name
abbrev pub Note : Type 0
Note = Said (List ℕ) Fact

abbrev pub note : List ℕ → Fact → Note
note x f = record { key = x; fact = f }

-- ---- expressions

-- a name alone; the dummies of a statement function are none of the unit's names
abbrev pub name_notes : Around → List ℕ → Fact → List Note
name_notes elsewhere x f = note x f ∷ []
name_notes (inside g ds) x f = if is_among ds x then [] else note x f ∷ []

-- what is said of a name before a list, and of one before a substring, where this would be said of it alone
abbrev pub before_list : Around → Fact → Fact
before_list c equivalent = equivalent
before_list c initial = initial
before_list c variable = variable
before_list c _ = referred c

-- a dummy of a statement function has no list
abbrev pub head_notes : Around → List ℕ → Fact → List Note
head_notes elsewhere x f = note x (before_list elsewhere f) ∷ []
head_notes (inside g ds) x f = note x (if is_among ds x then parameter true else before_list (inside g ds) f) ∷ []

abbrev pub before_substring : Fact → Fact
before_substring equivalent = equivalent
before_substring initial = initial
before_substring _ = variable

-- the names of an expression, of which `f` is said where it is a name alone
abbrev mutual
  pub expr_notes : Around → Fact → Expr → List Note
  expr_notes c f (int v) = []
  expr_notes c f (bool b) = []
  expr_notes c f (text t) = []
  expr_notes c f (name x) = name_notes c x f
  expr_notes c f (call x es) = head_notes c x f ++ exprs_notes c (given_to x) es
  expr_notes c f (substring a from to) = expr_notes c (before_substring f) a ++ (bound_notes c from ++ bound_notes c to)
  expr_notes c f (unary op a) = expr_notes c valued a
  expr_notes c f (binary op a b) = expr_notes c valued a ++ expr_notes c valued b
  expr_notes c f (paren a) = expr_notes c valued a

  pub exprs_notes : Around → Fact → Exprs → List Note
  exprs_notes c f none = []
  exprs_notes c f (more e es) = expr_notes c f e ++ exprs_notes c f es

  pub bound_notes : Around → Bound → List Note
  bound_notes c absent = []
  bound_notes c (at e) = expr_notes c valued e

abbrev pub value_notes : Expr → List Note
value_notes e = expr_notes elsewhere valued e

abbrev pub option_notes : Option Expr → List Note
option_notes None = []
option_notes (Some e) = value_notes e

-- ---- lists of items

abbrev pub range_notes : Range → List Note
range_notes r = note r.variable variable ∷ (value_notes r.from ++ (value_notes r.to ++ option_notes r.by))

abbrev mutual
  pub listed_notes : Fact → Listed → List Note
  listed_notes f (s.item e) = expr_notes elsewhere f e
  listed_notes f (s.loop xs r) = listeds_notes f xs ++ range_notes r

  pub listeds_notes : Fact → Listeds → List Note
  listeds_notes f s.none = []
  listeds_notes f (s.more x xs) = listed_notes f x ++ listeds_notes f xs

-- ---- declarations

abbrev pub length_notes : Option Length → List Note
length_notes None = []
length_notes (Some s.assumed) = []
length_notes (Some (s.given e)) = value_notes e

abbrev pub type_notes : Type77 → List Note
type_notes s.integer_type = []
type_notes s.logical_type = []
type_notes (s.character_type l) = length_notes l

-- a name's own length counts before that of its type
abbrev pub type_with : Type77 → Option Length → NameType
type_with s.integer_type own = record { kind = integers; length = None }
type_with s.logical_type own = record { kind = logicals; length = None }
type_with (s.character_type l) own = record { kind = characters; length = option_or own l }

abbrev pub dimension_notes : Dimension → List Note
dimension_notes d = option_notes d.lower ++ option_notes d.upper

abbrev pub shape_notes : List ℕ → List Dimension → List Note
shape_notes x [] = []
shape_notes x (d ∷ ds) = note x (shaped (d ∷ ds)) ∷ flat_map dimension_notes (d ∷ ds)

abbrev pub array_notes : Declarator → List Note
array_notes d = shape_notes d.name d.dimensions

abbrev pub typed_notes : Type77 → Declarator → List Note
typed_notes t d = note d.name (typed (type_with t d.length)) ∷ (array_notes d ++ length_notes d.length)

abbrev pub member_notes : Declarator → List Note
member_notes d = note d.name common ∷ array_notes d

abbrev pub block_notes : Block → List Note
block_notes b = flat_map member_notes b.members

abbrev pub equation_notes : Equation → List Note
equation_notes e = note e.name (constant e.value) ∷ value_notes e.value

abbrev pub saved_notes : Saved → List Note
saved_notes (s.saved_name x) = note x variable ∷ []
saved_notes (s.saved_block x) = []

abbrev pub times_notes : Times → List Note
times_notes s.once = []
times_notes (s.number_times n) = []
times_notes (s.name_times x) = note x valued ∷ []

abbrev pub data_value_notes : Value → List Note
data_value_notes v = times_notes v.times ++ value_notes v.constant

abbrev pub group_notes : DataGroup → List Note
group_notes g = listeds_notes initial g.objects ++ flat_map data_value_notes g.values

abbrev pub names_notes : Fact → List (List ℕ) → List Note
names_notes f xs = map (λ x. note x f) xs

abbrev pub declared_notes : Declared → List Note
declared_notes (s.implicit is) = flat_map (λ (i : Implicit). type_notes i.type) is
declared_notes (s.parameter es) = flat_map equation_notes es
declared_notes (s.typed t ds) = type_notes t ++ flat_map (typed_notes t) ds
declared_notes (s.dimension ds) = flat_map array_notes ds
declared_notes (s.common bs) = flat_map block_notes bs
declared_notes (s.equivalence xs) = flat_map (flat_map (expr_notes elsewhere equivalent)) xs
declared_notes (s.external xs) = names_notes external xs
declared_notes (s.intrinsic xs) = names_notes intrinsic xs
declared_notes (s.save xs) = flat_map saved_notes xs
declared_notes (s.data_ gs) = flat_map group_notes gs
declared_notes (s.format xs) = []

-- ---- headers and statement functions

abbrev pub result_notes : Option Type77 → List ℕ → List Note
result_notes None x = note x result ∷ []
result_notes (Some t) x = type_notes t ++ note x (typed (type_with t None)) ∷ note x result ∷ []

abbrev pub header_notes : Header → List Note
header_notes (s.program x) = note x titled ∷ []
header_notes (s.subroutine x ds) = note x subroutine ∷ names_notes dummy ds
header_notes (s.function t x ds) = result_notes t x ++ names_notes dummy ds
header_notes (s.block_data None) = []
header_notes (s.block_data (Some x)) = note x titled ∷ []

-- the dummies of a statement function, behind these
abbrev pub parameter_notes : List ℕ → List (List ℕ) → List (List ℕ) → List Note
parameter_notes g before [] = []
parameter_notes g before (d ∷ ds) = note d (parameter (bytes_eq g d || is_among before d)) ∷ parameter_notes g (before ++ d ∷ []) ds

abbrev pub function_notes : List ℕ → List (List ℕ) → Expr → List Note
function_notes g ds e = note g (function ds) ∷ (parameter_notes g [] ds ++ expr_notes (inside g ds) valued e)

-- ---- executable statements

abbrev pub variable_notes : Option (List ℕ) → List Note
variable_notes None = []
variable_notes (Some x) = note x variable ∷ []

abbrev pub unit_notes : UnitRef → List Note
unit_notes s.star_unit = []
unit_notes (s.given_unit e) = value_notes e

abbrev pub control_notes : Control → List Note
control_notes c = unit_notes c.unit ++ variable_notes c.iostat

abbrev pub read_notes : ReadBy → List Note
read_notes (s.by_control c) = control_notes c
read_notes (s.by_format f) = []

abbrev pub file_notes : FileControl → List Note
file_notes c = value_notes c.unit ++ (option_notes c.file ++ (option_notes c.status ++ variable_notes c.iostat))

abbrev pub simple_notes : Simple → List Note
simple_notes (s.assign d e) = expr_notes elsewhere variable d ++ value_notes e
simple_notes (s.goto l) = []
simple_notes (s.computed ls e) = value_notes e
simple_notes (s.arithmetic e a b c) = value_notes e
simple_notes s.continue = []
simple_notes s.return_ = []
simple_notes (s.stop c) = []
simple_notes (s.calling x es) = note x subroutine ∷ flat_map (expr_notes elsewhere given) es
simple_notes (s.read b xs) = read_notes b ++ listeds_notes variable xs
simple_notes (s.write c xs) = control_notes c ++ listeds_notes valued xs
simple_notes (s.print f xs) = listeds_notes valued xs
simple_notes (s.open_ c) = file_notes c
simple_notes (s.close_ c) = file_notes c
simple_notes (s.rewind c) = file_notes c

-- ---- statements

abbrev pub statement_notes : Statement → List Note
statement_notes (s.header h) = header_notes h
statement_notes (s.declared d) = declared_notes d
statement_notes (s.statement_function g ds e) = function_notes g ds e
statement_notes (s.simple a) = simple_notes a
statement_notes (s.guarded e a) = value_notes e ++ simple_notes a
statement_notes (s.if_then e) = value_notes e
statement_notes (s.else_if e) = value_notes e
statement_notes s.else_ = []
statement_notes s.end_if = []
statement_notes (s.do_ l r) = range_notes r
statement_notes s.end = []

abbrev pub line_notes : Line → List Note
line_notes l = statement_notes l.statement

abbrev pub notes_of : List Line → List Note
notes_of ls = flat_map line_notes ls
