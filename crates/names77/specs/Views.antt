-- The borrowed lines, notes and tables of the code as plain ones.
use Rattle.std.specs.Prelude.{ℕ, List, map, Option}
use Rattle.std.specs.Option.{option_map}
use Rattle.std.specs.Borrow.{Bor}
use Rattle.text_base.specs.Values as v
use Rattle.text_base.specs.Values.{Kind, integers, logicals, characters}
use Rattle.text_base.specs.declared.operation.Value.{Value}
use Rattle.expr_tree.specs.Plain.{expr_of}
use Rattle.expr_tree.specs.declared.tree.Expr.{Expr}
use Rattle.tree77.specs.Statements as s
use Rattle.tree77.specs.StatementPlain.{header_of, declared_of, simple_of, dimension_of, length_of}
use Rattle.tree77.specs.declared.statement.Dimension77.{Dimension77}
use Rattle.tree77.specs.declared.statement.Length77.{Length77}
use Rattle.unit77.specs.Tree as u
use Rattle.unit77.specs.Views.{line, do_statement}
use Rattle.names77.specs.Notes as n
use Rattle.names77.specs.Rows as rows
use Rattle.names77.specs.RoleTables as roles
use Rattle.names77.specs.Types as types
use Rattle.names77.specs.Constants as constants
use Rattle.names77.specs.Known as known
use Rattle.names77.specs.declared.lines.Part.{Part}
use Rattle.names77.specs.declared.lines.Part.TheVariants as part
use Rattle.names77.specs.declared.lines.Line.{Line}
use Rattle.names77.specs.declared.types.Scalar.{Scalar}
use Rattle.names77.specs.declared.types.Scalar.TheVariants as scalar
use Rattle.names77.specs.declared.types.NameType.{NameType}
use Rattle.names77.specs.declared.types.Initial.{Initial}
use Rattle.names77.specs.declared.notes.Around.{Around}
use Rattle.names77.specs.declared.notes.Around.TheVariants as around
use Rattle.names77.specs.declared.notes.Fact.{Fact}
use Rattle.names77.specs.declared.notes.Fact.TheVariants as fact
use Rattle.names77.specs.declared.notes.Note.{Note}
use Rattle.names77.specs.declared.table.Row.{Row}
use Rattle.names77.specs.declared.table.Table.{Table}
use Rattle.names77.specs.declared.role.Allowed.{Allowed}
use Rattle.names77.specs.declared.roles.Roles.{Roles}
use Rattle.names77.specs.declared.constants.Constants.{Constants}
use Rattle.names77.specs.declared.known.Known.{Known}

-- ---- statements

abbrev pub shown_part : Part → s.Statement
shown_part (part.Header h) = s.header (header_of h.now)
shown_part (part.Declared d) = s.declared (declared_of d.now)
shown_part (part.Function f) = s.statement_function f.now.name f.now.dummies (expr_of f.now.value)
shown_part (part.Simple a) = s.simple (simple_of a.now)
shown_part (part.Guarded e a) = s.guarded (expr_of e.now) (simple_of a.now)
shown_part (part.IfThen e) = s.if_then (expr_of e.now)
shown_part (part.ElseIf e) = s.else_if (expr_of e.now)
shown_part part.Else = s.else_
shown_part part.EndIf = s.end_if
shown_part (part.Do h) = do_statement h.now

abbrev pub shown_line : Line → u.Line
shown_line l = line l.number l.label l.place (shown_part l.part)

abbrev pub shown_lines : List Line → List u.Line
shown_lines ls = map shown_line ls

-- ---- types

abbrev pub kind_shown : Scalar → Kind
kind_shown scalar.Integer = integers
kind_shown scalar.Logical = logicals
kind_shown scalar.Text = characters

abbrev pub lent_length : Option (Bor Length77) → Option s.Length
lent_length l = option_map (λ (b : Bor Length77). length_of b.now) l

abbrev pub shown_type : NameType → n.NameType
shown_type t = record { kind = kind_shown t.scalar; length = lent_length t.length }

abbrev pub shown_initial : Initial → types.Initial
shown_initial i = record { type = shown_type i.of; from = i.from; to = i.to }

abbrev pub shown_initials : List Initial → List types.Initial
shown_initials is = map shown_initial is

-- ---- notes

abbrev pub shown_around : Around → n.Around
shown_around around.Elsewhere = n.elsewhere
shown_around (around.Inside g ds) = n.inside g.now ds.now

abbrev pub shown_fact : Fact → n.Fact
shown_fact (fact.Typed t) = n.typed (shown_type t)
shown_fact (fact.Shaped ds) = n.shaped (map dimension_of ds.now)
shown_fact fact.Titled = n.titled
shown_fact fact.Result = n.result
shown_fact fact.Subroutine = n.subroutine
shown_fact fact.Dummy = n.dummy
shown_fact fact.Common = n.common
shown_fact fact.Equivalent = n.equivalent
shown_fact fact.External = n.external
shown_fact fact.Intrinsic = n.intrinsic
shown_fact fact.Initial = n.initial
shown_fact (fact.Constant e) = n.constant (expr_of e.now)
shown_fact (fact.Function ds) = n.function ds.now
shown_fact (fact.Parameter repeated) = n.parameter repeated
shown_fact (fact.Referred c) = n.referred (shown_around c)
shown_fact fact.Valued = n.valued
shown_fact fact.Variable = n.variable
shown_fact fact.Given = n.given
shown_fact (fact.GivenTo x) = n.given_to x.now

abbrev pub shown_note : Note → n.Note
shown_note x = n.note x.key.now (shown_fact x.fact)

abbrev pub shown_notes : List Note → List n.Note
shown_notes ns = map shown_note ns

-- ---- tables

abbrev pub shown_row : Row → rows.Row
shown_row r = record {
  typed = option_map shown_type r.typed;
  shape = option_map (λ (b : Bor (List Dimension77)). map dimension_of b.now) r.shape;
  value = option_map (λ (b : Bor Expr). expr_of b.now) r.value;
  dummies = option_map (λ (b : Bor (List (List ℕ))). b.now) r.dummies;
  is_result = r.is_result;
  is_dummy = r.is_dummy;
  is_common = r.is_common;
  is_external = r.is_external;
  is_intrinsic = r.is_intrinsic;
  is_late = r.is_late;
  stands = r.stands;
  allowed = r.allowed;
}

abbrev pub shown_entry : Bor (List ℕ) × Row → List ℕ × rows.Row
shown_entry e = (e.0.now, shown_row e.1)

abbrev pub shown_table : Table → rows.Table
shown_table t = map shown_entry t.map.entries

abbrev pub shown_roles : Roles → roles.Roles
shown_roles t = map (λ (e : Bor (List ℕ) × Allowed). (e.0.now, e.1)) t.map.entries

abbrev pub shown_constants : Constants → constants.Constants
shown_constants t = map (λ (e : Bor (List ℕ) × Option Value). (e.0.now, option_map v.value_of e.1)) t.map.entries

abbrev pub shown_known : Known → known.Known
shown_known k = record { table = shown_table k.table; roles = shown_roles k.roles; initials = shown_initials k.initials; constants = shown_constants k.constants }
