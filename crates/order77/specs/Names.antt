-- Names and labels in statements: those that jumps name, those that are declared as arrays, and those whose values are used.
use Rattle.std.specs.Prelude.{ℕ, Bool, true, false, not, List, [], ◌∷◌, ◌++◌, map, filter, flat_map, Option, Some, None}
use Rattle.std.specs.List.{list_any}
use Rattle.std.specs.Str.{bytes_eq}
use Rattle.text_base.specs.Names.{expr_names, exprs_names, bound_names}
use Rattle.text_base.specs.Trees as t
use Rattle.text_base.specs.Trees.{Expr}
use Rattle.tree77.specs.Statements as s
use Rattle.tree77.specs.Statements.{Length, Type77, Dimension, Declarator, Equation, Implicit, Block, Listed, Listeds, Range, Value, Times, DataGroup, ReadBy, Header, Declared, Simple, Statement, header, declared, statement_function, guarded}
use Rattle.order77.specs.Counts.{Reading}

abbrev pub is_among : List (List ℕ) → List ℕ → Bool
is_among xs x = list_any (bytes_eq x) xs

abbrev pub as_list : {A : Type 0} → Option A → List A
as_list None = []
as_list (Some x) = x ∷ []

-- ---- labels that jumps name: of X3.9 sections 11.1, 11.2 and 11.4, and of ERR and END (X3.9 sections 12.6 and 12.7)

abbrev pub read_jumps : ReadBy → List ℕ
read_jumps (s.by_control c) = as_list c.error ++ as_list c.ending
read_jumps (s.by_format f) = []

abbrev pub simple_jumps : Simple → List ℕ
simple_jumps (s.goto l) = l ∷ []
simple_jumps (s.computed ls x) = ls
simple_jumps (s.arithmetic x a b c) = a ∷ b ∷ c ∷ []
simple_jumps (s.read b xs) = read_jumps b
simple_jumps (s.write c xs) = as_list c.error ++ as_list c.ending
simple_jumps (s.open_ c) = as_list c.error
simple_jumps (s.close_ c) = as_list c.error
simple_jumps (s.rewind c) = as_list c.error
simple_jumps _ = []

abbrev pub jumps : Statement → List ℕ
jumps (s.simple a) = simple_jumps a
jumps (guarded x a) = simple_jumps a
jumps _ = []

-- ---- arrays: names with dimensions (X3.9 section 5.1)

abbrev pub has_dimensions : Declarator → Bool
has_dimensions d = is_array d.dimensions
  where
    is_array : List Dimension → Bool
    is_array [] = false
    is_array (x ∷ xs) = true

abbrev pub arrays_among : List Declarator → List (List ℕ)
arrays_among ds = map (λ (d : Declarator). d.name) (filter has_dimensions ds)

abbrev pub declared_arrays : Declared → List (List ℕ)
declared_arrays (s.typed t ds) = arrays_among ds
declared_arrays (s.dimension ds) = arrays_among ds
declared_arrays (s.common bs) = flat_map (λ (b : Block). arrays_among b.members) bs
declared_arrays _ = []

abbrev pub arrays : Statement → List (List ℕ)
arrays (declared d) = declared_arrays d
arrays _ = []

-- ---- names whose values a declaration uses: in bounds, lengths, values of constants, DATA and statement functions

abbrev pub option_uses : Option Expr → List (List ℕ)
option_uses None = []
option_uses (Some x) = expr_names x

abbrev pub length_uses : Option Length → List (List ℕ)
length_uses None = []
length_uses (Some s.assumed) = []
length_uses (Some (s.given x)) = expr_names x

abbrev pub type_uses : Type77 → List (List ℕ)
type_uses (s.character_type l) = length_uses l
type_uses _ = []

abbrev pub dimension_uses : Dimension → List (List ℕ)
dimension_uses d = option_uses d.lower ++ option_uses d.upper

abbrev pub declarator_uses : Declarator → List (List ℕ)
declarator_uses d = flat_map dimension_uses d.dimensions ++ length_uses d.length

-- in the subscripts and bounds of a member of EQUIVALENCE
abbrev pub member_uses : Expr → List (List ℕ)
member_uses (t.call f xs) = exprs_names xs
member_uses (t.substring a from to) = member_uses a ++ (bound_names from ++ bound_names to)
member_uses _ = []

abbrev pub range_uses : Range → List (List ℕ)
range_uses r = r.variable ∷ (expr_names r.from ++ (expr_names r.to ++ option_uses r.by))

abbrev mutual
  pub listed_uses : Listed → List (List ℕ)
  listed_uses (s.item x) = expr_names x
  listed_uses (s.loop xs r) = listeds_uses xs ++ range_uses r

  pub listeds_uses : Listeds → List (List ℕ)
  listeds_uses s.none = []
  listeds_uses (s.more x xs) = listed_uses x ++ listeds_uses xs

abbrev pub times_uses : Times → List (List ℕ)
times_uses (s.name_times x) = x ∷ []
times_uses _ = []

abbrev pub value_uses : Value → List (List ℕ)
value_uses v = times_uses v.times ++ expr_names v.constant

abbrev pub group_uses : DataGroup → List (List ℕ)
group_uses g = listeds_uses g.objects ++ flat_map value_uses g.values

abbrev pub declared_uses : Declared → List (List ℕ)
declared_uses (s.implicit is) = flat_map (λ (i : Implicit). type_uses i.type) is
declared_uses (s.parameter es) = flat_map (λ (e : Equation). expr_names e.value) es
declared_uses (s.typed t ds) = type_uses t ++ flat_map declarator_uses ds
declared_uses (s.dimension ds) = flat_map declarator_uses ds
declared_uses (s.common bs) = flat_map (λ (b : Block). flat_map declarator_uses b.members) bs
declared_uses (s.equivalence xs) = flat_map (λ (x : List Expr). flat_map member_uses x) xs
declared_uses (s.data_ gs) = flat_map group_uses gs
declared_uses _ = []

-- the length before FUNCTION
abbrev pub header_uses : Header → List (List ℕ)
header_uses (s.function (Some t) x ds) = type_uses t
header_uses _ = []

abbrev pub uses : Statement → List (List ℕ)
uses (header h) = header_uses h
uses (declared d) = declared_uses d
uses (statement_function f ds x) = filter (λ y. not (is_among ds y)) (expr_names x)
uses _ = []

-- the constants of a PARAMETER (X3.9 section 8.6)
abbrev pub constants : Statement → List (List ℕ)
constants (declared (s.parameter es)) = map (λ (e : Equation). e.name) es
constants _ = []

-- ---- of a statement of a file

-- what the statement has that it spells, nothing where it spells none
abbrev pub within : {A : Type 0} → (Statement → List A) → Reading → List A
within f r = flat_map f (as_list r.statement)
