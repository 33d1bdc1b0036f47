-- What is found at the names of a statement: real names, names with two types, dimension lists, places in COMMON or roles (X3.9
-- sections 4.1.2 and 18.2), and constants and lengths without a value that they may have.
use Rattle.std.specs.Prelude.{ℕ, Bool, true, false, not, ◌&&◌, ◌||◌, List, [], ◌++◌, fold, Option, Some, None, is_some, if◌then◌else◌}
use Rattle.std.specs.Str.{bytes_eq}
use Rattle.text_base.specs.Values.{characters}
use Rattle.text_base.specs.Operations.{is_kind}
use Rattle.text_base.specs.declared.refusal.Cause.TheVariants as cause
use Rattle.tree77.specs.Statements as s
use Rattle.tree77.specs.Statements.{Length}
use Rattle.unit77.specs.Tree.{Line}
use Rattle.names77.specs.declared.role.Role.{Role}
use Rattle.names77.specs.declared.role.Role.TheVariants as role
use Rattle.names77.specs.Notes as n
use Rattle.names77.specs.Notes.{NameType, Around, elsewhere, inside, Fact, Note, line_notes}
use Rattle.names77.specs.Rows.{Row, Table, row_in, has_name, with_note}
use Rattle.names77.specs.Roles.{agree}
use Rattle.names77.specs.RoleTables.{Roles, allowed_as, allowed_in, role_note, with_role}
use Rattle.names77.specs.Constants.{length_in, constant_in}
use Rattle.names77.specs.Known.{Known, role_in, type_in, is_real}
use Rattle.implicit_types.specs.Findings.{Finding, finding, along}

-- what is said before a place
pub record Before : Type 0 where
  pub table : Table
  pub roles : Roles

abbrev pub nothing : Before
nothing = record { table = []; roles = [] }

abbrev pub noted : Known → Before → Note → Before
noted k before x = record { table = with_note before.table x; roles = with_role before.roles (role_note k.table x) }

-- ---- names that are declared again

-- a statement function's name stands in its own expression, or in that of an earlier one
abbrev pub is_early : Row → Row → Around → List ℕ → Bool
is_early whole before elsewhere x = false
is_early whole before (inside g ds) x = is_some whole.dummies && (bytes_eq g x || not (is_some before.dummies))

-- a name gets what it has
abbrev pub is_repeated : Row → Row → Fact → List ℕ → Bool
is_repeated whole before (n.typed t) x = is_some before.typed
is_repeated whole before (n.shaped ds) x = is_some before.shape
is_repeated whole before (n.constant e) x = is_some before.value
is_repeated whole before (n.function ds) x = is_some before.dummies
is_repeated whole before n.dummy x = before.is_dummy
is_repeated whole before n.common x = before.is_common
is_repeated whole before (n.parameter refused) x = refused
is_repeated whole before (n.referred c) x = is_early whole before c x
is_repeated whole before _ x = false

-- a name gets a role beside the one that it has
abbrev pub is_clashing : Known → Roles → Note → Bool
is_clashing k before x = not (agree (allowed_in before x.key) (allowed_as k.table x.key x.fact))

abbrev pub is_redeclared : Known → Before → Note → Bool
is_redeclared k before x = is_repeated (row_in k.table x.key) (row_in before.table x.key) x.fact x.key || is_clashing k before.roles x

-- ---- constants and lengths

-- the length `*` is that of a dummy or a constant (X3.9 section 8.4.2)
abbrev pub may_be_assumed : Role → Bool
may_be_assumed role.Dummy = true
may_be_assumed role.Constant = true
may_be_assumed _ = false

abbrev pub is_bad_length : Known → List ℕ → Option Length → Bool
is_bad_length k x (Some s.assumed) = not (may_be_assumed (role_in k x))
is_bad_length k x l = not (is_some (length_in k.constants l))

abbrev pub is_badly_typed : Known → List ℕ → Option NameType → Bool
is_badly_typed k x None = false
is_badly_typed k x (Some t) = is_kind t.kind characters && is_bad_length k x t.length

-- its length is given by IMPLICIT, and it stands here first
abbrev pub is_badly_initialed : Known → Before → List ℕ → Bool
is_badly_initialed k before x = not (has_name before.table x) && (not (is_some (row_in k.table x).typed) && is_badly_typed k x (type_in k x))

-- a type with a bad length, or a constant without a value
abbrev pub is_bad_fact : Known → Fact → List ℕ → Bool
is_bad_fact k (n.typed t) x = is_badly_typed k x (Some t)
is_bad_fact k (n.constant e) x = not (is_some (constant_in k.constants x))
is_bad_fact k _ x = false

abbrev pub is_bad_constant : Known → Before → Note → Bool
is_bad_constant k before x = is_bad_fact k x.fact x.key || is_badly_initialed k before x.key

-- ---- what is found

-- a real name is refused once, where it stands first, and for nothing else
abbrev pub note_findings : Known → Before → Note → List Finding
note_findings k before x =
    if is_real k x.key then finding cause.RealType x.key (not (has_name before.table x.key))
    else finding cause.Redeclared x.key (is_redeclared k before x) ++ finding cause.BadConstant x.key (is_bad_constant k before x)

abbrev pub notes_findings : Known → Before → List Note → List Finding
notes_findings k before notes = along (noted k) (note_findings k) before notes

-- what is said before the next statement
abbrev pub with_line : Known → Before → Line → Before
with_line k before l = fold (noted k) before (line_notes l)
