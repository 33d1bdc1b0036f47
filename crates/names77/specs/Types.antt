-- The types of names: declared, by IMPLICIT, or by their first letters (X3.9 sections 4.1.2, 8.4 and 8.5).
use Rattle.std.specs.Prelude.{ℕ, Bool, true, false, ◌&&◌, nat_le, List, [], map, flat_map, fold, Option, Some, None, slice_index, if◌then◌else◌}
use Rattle.std.specs.Option.{option_map, option_or}
use Rattle.text_base.specs.Values.{Kind, integers, logicals, characters}
use Rattle.text_base.specs.declared.operation.Op.{Op}
use Rattle.text_base.specs.declared.operation.Op.TheVariants as op
use Rattle.text_base.specs.Operations.{is_kind}
use Rattle.text_base.specs.Operators.{intrinsic}
use Rattle.tree77.specs.Statements as s
use Rattle.tree77.specs.Statements.{Letters, Implicit, Declared, Statement}
use Rattle.unit77.specs.Tree.{Line}
use Rattle.names77.specs.declared.role.Role.{Role}
use Rattle.names77.specs.declared.role.Role.TheVariants as role
use Rattle.names77.specs.Notes.{NameType, type_with}
use Rattle.names77.specs.Rows.{Row}

-- ---- by first letters

-- letters from one to another, and the type of names that begin with one of them
pub record Initial : Type 0 where
  pub type : NameType
  pub from : ℕ
  pub to : ℕ

abbrev pub implicit_initials : Implicit → List Initial
implicit_initials i = map (λ (l : Letters). record { type = type_with i.type None; from = l.from; to = l.to }) i.letters

abbrev pub declared_initials : Declared → List Initial
declared_initials (s.implicit is) = flat_map implicit_initials is
declared_initials _ = []

abbrev pub statement_initials : Statement → List Initial
statement_initials (s.declared d) = declared_initials d
statement_initials _ = []

abbrev pub line_initials : Line → List Initial
line_initials l = statement_initials l.statement

abbrev pub initials_of : List Line → List Initial
initials_of ls = flat_map line_initials ls

abbrev pub is_between : ℕ → ℕ → ℕ → Bool
is_between from to c = nat_le from c && nat_le c to

-- without IMPLICIT, names that begin with I to N are those of integers
abbrev pub usual_type : ℕ → Option NameType
usual_type c = if is_between 73 78 c then Some (record { kind = integers; length = None }) else None

abbrev pub with_initial : ℕ → Option NameType → Initial → Option NameType
with_initial c earlier i = if is_between i.from i.to c then Some i.type else earlier

-- the type of names that begin with a letter, where they have one; of two IMPLICITs the later counts
abbrev pub letter_type : List Initial → ℕ → Option NameType
letter_type initials c = fold (with_initial c) (usual_type c) initials

abbrev pub implicit_type : List Initial → List ℕ → Option NameType
implicit_type initials x = letter_type initials (slice_index x 0)

-- ---- of intrinsic functions (X3.9 section 15.10)

abbrev pub given_kind : Op → Kind
given_kind op.Char = characters
given_kind op.Lge = logicals
given_kind op.Lgt = logicals
given_kind op.Lle = logicals
given_kind op.Llt = logicals
given_kind _ = integers

abbrev pub intrinsic_type : List ℕ → Option NameType
intrinsic_type x = option_map (λ o. record { kind = given_kind o; length = None }) (intrinsic x)

-- ---- of names

-- names in these roles have types; a procedure of which no more is known has none
abbrev pub has_type : Role → Bool
has_type role.External = false
has_type role.Subroutine = false
has_type role.Unit = false
has_type _ = true

abbrev pub declared_type : List Initial → List ℕ → Row → Option NameType
declared_type initials x r = option_or r.typed (implicit_type initials x)

abbrev pub are_characters : Option NameType → Bool
are_characters None = false
are_characters (Some t) = is_kind t.kind characters

-- the type of a name by its role, where it has one
abbrev pub type_as : List Initial → List ℕ → Row → Role → Option NameType
type_as initials x r role.External = None
type_as initials x r role.Subroutine = None
type_as initials x r role.Unit = None
type_as initials x r role.Intrinsic = option_or (intrinsic_type x) (declared_type initials x r)
type_as initials x r _ = declared_type initials x r
