-- The values of constants and of lengths (X3.9 sections 6.1.3, 6.7, 8.4.2 and 8.6).
use Rattle.std.specs.Prelude.{ℕ, pos, Bool, not, ◌&&◌, ◌||◌, nat_le, List, [], ◌∷◌, ◌++◌, fold, length, take, Option, Some, None, is_some, if◌then◌else◌}
use Rattle.std.specs.Option.{option_map, option_and_then}
use Rattle.std.specs.Str.{bytes_eq}
use Rattle.text_base.specs.Trees.{Expr, int, bool, text, name, call, substring, unary, binary, paren}
use Rattle.text_base.specs.Values.{Value, integer, logical, string, Kind, integers, logicals, characters}
use Rattle.text_base.specs.declared.operation.Op.{Op}
use Rattle.text_base.specs.Operations.{Computed, computes, faults, unfit, outcome, padded}
use Rattle.text_base.specs.Operators.{unary_op, binary_op}
use Rattle.tree77.specs.Statements as s
use Rattle.tree77.specs.Statements.{Length, Equation, Declared, Statement}
use Rattle.unit77.specs.Tree.{Line}
use Rattle.names77.specs.declared.limits.TheConstants.{GREATEST_LENGTH}
use Rattle.names77.specs.Grouped.{Grouped}
use Rattle.names77.specs.Grouped as g
use Rattle.names77.specs.Notes.{NameType}
use Rattle.names77.specs.Rows.{Row, Table, row_in}
use Rattle.names77.specs.Types.{Initial, line_initials, implicit_type, declared_type, are_characters}

-- constants and their values, where they have one
abbrev pub Constants : Type 0
Constants = Grouped (List ℕ) (Option Value)

abbrev pub constant_in : Constants → List ℕ → Option Value
constant_in constants x = g.look_up_or bytes_eq None constants x

-- ---- expressions

abbrev pub value_computed : Computed → Option Value
value_computed (computes v) = Some v
value_computed (faults f) = None
value_computed unfit = None

abbrev pub applied : Op → Option (List Value) → Option Value
applied o None = None
applied o (Some vs) = value_computed (outcome o vs)

abbrev pub both : Option Value → Option Value → Option (List Value)
both a b = option_and_then (λ v. option_map (λ w. v ∷ w ∷ []) b) a

-- The value of an expression, where it is one of constants that doesn't fault. Array elements, functions and substrings are no
-- constants.
abbrev pub evaluated : Constants → Expr → Option Value
evaluated constants (int v) = Some (integer v)
evaluated constants (bool b) = Some (logical b)
evaluated constants (text t) = Some (string t)
evaluated constants (name x) = constant_in constants x
evaluated constants (call f xs) = None
evaluated constants (substring a from to) = None
evaluated constants (unary o a) = applied (unary_op o) (option_map (λ v. v ∷ []) (evaluated constants a))
evaluated constants (binary o a b) = applied (binary_op o) (both (evaluated constants a) (evaluated constants b))
evaluated constants (paren a) = evaluated constants a

-- ---- lengths

abbrev pub is_length : ℕ → Bool
is_length n = nat_le 1 n && nat_le n GREATEST_LENGTH

-- a number that may be a length
abbrev pub as_length : Option Value → Option ℕ
as_length (Some (integer (pos n))) = if is_length n then Some n else None
as_length _ = None

-- the length that is written, 1 where none is, and nothing where it is `*` or none that may be
abbrev pub length_in : Constants → Option Length → Option ℕ
length_in constants None = Some 1
length_in constants (Some s.assumed) = None
length_in constants (Some (s.given e)) = as_length (evaluated constants e)

-- ---- constants

-- characters of a length: those behind it are cut off, and blanks follow where there are too few (X3.9 section 10.4)
abbrev pub fitted : ℕ → List ℕ → List ℕ
fitted n t = padded n (take n t)

abbrev pub whole : List ℕ → Option Value
whole t = if is_length (length t) then Some (string t) else None

-- characters as a constant with a length has them; with the length `*` it has their own
abbrev pub as_characters : Constants → Option Length → List ℕ → Option Value
as_characters constants (Some s.assumed) t = whole t
as_characters constants l t = option_map (λ n. string (fitted n t)) (length_in constants l)

-- a value as a constant of a type has it
abbrev pub as_constant : Constants → Kind → Option Length → Value → Option Value
as_constant constants integers l (integer v) = Some (integer v)
as_constant constants logicals l (logical b) = Some (logical b)
as_constant constants characters l (string t) = as_characters constants l t
as_constant constants _ l _ = None

-- the value of a name that is real by the rules on types is taken as it is
abbrev pub as_typed : Constants → Option NameType → Option Value → Option Value
as_typed constants t None = None
as_typed constants None (Some v) = Some v
as_typed constants (Some t) (Some v) = as_constant constants t.kind t.length v

-- the type that a constant has before its PARAMETER, where these are the first letters' types so far
abbrev pub early_type : List Initial → List ℕ → Row → Option NameType
early_type initials x r = if r.is_late then implicit_type initials x else declared_type initials x r

-- a constant of characters that weren't known to be its type before its PARAMETER (X3.9 section 8.6)
abbrev pub is_untyped : List Initial → List Initial → List ℕ → Row → Bool
is_untyped all_initials initials x r = are_characters (declared_type all_initials x r) && not (are_characters (early_type initials x r))

-- the value that a PARAMETER gives a constant, behind these first letters' types and constants
abbrev pub equation_value : Table → List Initial → List Initial → Constants → Equation → Option Value
equation_value t all_initials initials constants e =
    if is_untyped all_initials initials e.name (row_in t e.name) then None
    else as_typed constants (declared_type all_initials e.name (row_in t e.name)) (evaluated constants e.value)

-- a name that is no constant of the unit gets no value, and of two values of one name the first counts
abbrev pub is_settled : Table → Constants → List ℕ → Bool
is_settled t constants x = g.has_key bytes_eq constants x || not (is_some (row_in t x).value)

abbrev pub with_equation : Table → List Initial → List Initial → Constants → Equation → Constants
with_equation t all_initials initials constants e =
    if is_settled t constants e.name then constants
    else g.put bytes_eq constants e.name (equation_value t all_initials initials constants e)

abbrev pub declared_equations : Declared → List Equation
declared_equations (s.parameter es) = es
declared_equations _ = []

abbrev pub statement_equations : Statement → List Equation
statement_equations (s.declared d) = declared_equations d
statement_equations _ = []

abbrev pub line_equations : Line → List Equation
line_equations l = statement_equations l.statement

-- the types of first letters and the constants behind some statements
pub record Stage : Type 0 where
  pub initials : List Initial
  pub constants : Constants

abbrev pub with_line : Table → List Initial → Stage → Line → Stage
with_line t all_initials s l = record {
  initials = s.initials ++ line_initials l;
  constants = fold (with_equation t all_initials s.initials) s.constants (line_equations l);
}

-- the constants of a unit, by the table of all its notes and the types of all first letters
abbrev pub constants_of : Table → List Initial → List Line → Constants
constants_of t all_initials ls = (fold (with_line t all_initials) (record { initials = []; constants = [] }) ls).constants
