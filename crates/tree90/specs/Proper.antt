-- Programs that can be written, and proper programs.
use Rattle.std.specs.Prelude.{◌≡◌, ℕ, ℤ, pos, negsuc, Bool, true, false, not, ◌&&◌, ◌==◌, nat_le, IsTrue, List, [], ◌∷◌, ◌++◌, length, map, Option, Some, None, if◌then◌else◌}
use Rattle.std.specs.List.{list_all, list_any}
use Rattle.std.specs.Str.{bytes_eq}
use Rattle.text_base.specs.Lines.{cut}
use Rattle.text_base.specs.Trees.{Expr, int, bool, text, name, call, substring, unary, binary, paren, Exprs, none, more, Bound, absent, at, Action, assign, stop}
use Rattle.text_base.specs.ExpressionKinds.{is_typed_action}
use Rattle.text_base.specs.Names.{action_functions}
use Rattle.text_base.specs.Values.{Kind, integers}
use Rattle.text_base.specs.Remarks.{are_writable_remarks}
use Rattle.text_base.specs.declared.limits.TheConstants.{GREATEST_INTEGER, LONGEST_WRITTEN}
use Rattle.tree90.specs.Tree.{Stmt, simple, Code, done, item, Declared, integer_object, FreeUnit, FreeProgram}
use Rattle.tree90.specs.Constants.{is_free_form_name}
use Rattle.tree90.specs.FreeExpressions.{level, left_level, right_level, prefix_level, operand_level}
use Rattle.tree90.specs.Printed.{printed}

-- ---- expressions that can be written

-- an integer constant has no sign, and is no greater than others are read
abbrev pub is_free_constant : ℤ → Bool
is_free_constant (pos v) = nat_le v GREATEST_INTEGER
is_free_constant (negsuc v) = false

-- a character that may stand in a character constant: no control character (ISO/IEC 1539:1991 section 4.3.2.1)
abbrev pub is_graphic : ℕ → Bool
is_graphic c = nat_le 32 c && not (c == 127)

-- what a substring may be of: a variable, or an array element
abbrev pub is_parent : Expr → Bool
is_parent (name x) = true
is_parent (call f (more a xs)) = true
is_parent _ = false

-- the level of an expression: that of the operator which makes it, or of primaries
abbrev pub level_of : Expr → ℕ
level_of (unary o a) = prefix_level o
level_of (binary o a b) = level o
level_of _ = 10

-- An expression that can be written: no operand would be read differently without parentheses, and the constants, the names
-- and the substrings have a form.
abbrev mutual
  pub is_free : Expr → Bool
  is_free (int v) = is_free_constant v
  is_free (bool b) = true
  is_free (text cs) = list_all is_graphic cs
  is_free (name x) = is_free_form_name x
  is_free (call f xs) = is_free_form_name f && are_free xs
  is_free (substring a from to) = is_parent a && is_free a && is_free_bound from && is_free_bound to
  is_free (unary o a) = nat_le (operand_level o) (level_of a) && is_free a
  is_free (binary o a b) = nat_le (left_level o) (level_of a) && nat_le (right_level o) (level_of b) && is_free a && is_free b
  is_free (paren a) = is_free a

  pub are_free : Exprs → Bool
  are_free none = true
  are_free (more a rest) = is_free a && are_free rest

  pub is_free_bound : Bound → Bool
  is_free_bound absent = true
  is_free_bound (at a) = is_free a

-- ---- programs that can be written

pub data IsWritableAction : Action → Type 0 where
  writable_assign : {x : List ℕ} {e : Expr} → IsTrue (is_free_form_name x) → IsTrue (is_free e) → IsWritableAction (assign (name x) e)
  writable_stop : IsWritableAction stop

abbrev pub IsWritableCode : Code → Type 0
IsWritableCode done = Unit {0}
IsWritableCode (item remarks (simple a) rest) = IsTrue (are_writable_remarks remarks) × IsWritableAction a × IsWritableCode rest

abbrev pub declared_name : Declared → List ℕ
declared_name (integer_object x) = x

pub record IsWritableUnit (u : FreeUnit) : Type 0 where
  pub head : IsTrue (are_writable_remarks u.head)
  pub named : IsTrue (is_free_form_name u.name)
  pub inner : IsTrue (are_writable_remarks u.inner)
  pub declared : IsTrue (list_all (λ d. is_free_form_name (declared_name d)) u.declared)
  pub code : IsWritableCode u.code
  pub tail : IsTrue (are_writable_remarks u.tail)

abbrev pub AreWritableUnits : List FreeUnit → Type 0
AreWritableUnits [] = Unit {0}
AreWritableUnits (u ∷ us) = IsWritableUnit u × AreWritableUnits us

-- A program that can be written: each part has a form, and no line of its text is too long.
pub record IsWritable (p : FreeProgram) : Type 0 where
  pub units : AreWritableUnits p.units
  pub tail : IsTrue (are_writable_remarks p.tail)
  pub short : IsTrue (list_all (λ l. nat_le (length l) LONGEST_WRITTEN) (cut (printed p)))

-- ---- proper programs

abbrev pub is_among : List (List ℕ) → List ℕ → Bool
is_among xs x = list_any (bytes_eq x) xs

abbrev pub are_distinct : List (List ℕ) → Bool
are_distinct [] = true
are_distinct (x ∷ xs) = not (is_among xs x) && are_distinct xs

-- the type of an object that is declared (ISO/IEC 1539:1991 section 5.1)
abbrev pub declared_kind : Declared → Kind
declared_kind (integer_object x) = integers

-- the type of the object that has the name
abbrev pub kind_in : List Declared → List ℕ → Option Kind
kind_in [] x = None
kind_in (d ∷ ds) x = if bytes_eq x (declared_name d) then Some (declared_kind d) else kind_in ds x

abbrev pub is_typed_code : (List ℕ → Option Kind) → Code → Bool
is_typed_code kinds done = true
is_typed_code kinds (item remarks (simple a) rest) = is_typed_action kinds a && is_typed_code kinds rest

-- the names that stand before parentheses
abbrev pub code_functions : Code → List (List ℕ)
code_functions done = []
code_functions (item remarks (simple a) rest) = action_functions a ++ code_functions rest

-- A proper program is one main program, whose names are declared once each and aren't its own. Each name of a statement is that
-- of a declared object, or, before parentheses, that of an intrinsic function, and neither of an object nor of the program; it
-- fits its use in type and in the number of arguments, and each part has the type that its place needs.
pub record IsProper (p : FreeProgram) : Type 0 where
  pub unit : FreeUnit
  pub whole : p.units ≡ unit ∷ []
  pub writable : IsWritable p
  pub distinct : IsTrue (are_distinct (unit.name ∷ map declared_name unit.declared))
  pub typed : IsTrue (is_typed_code (kind_in unit.declared) unit.code)
  pub local : IsTrue (list_all (λ f. not (bytes_eq unit.name f)) (code_functions unit.code))
