-- The declared trees of statements as the plain ones.
use Rattle.std.specs.Prelude.{List, map}
use Rattle.std.specs.Option.{option_map}
use Rattle.expr_tree.specs.Plain.{expr_of}
use Rattle.expr_tree.specs.declared.tree.Expr.{Expr}
use Rattle.text_base.specs.FormatPlain.{format_items}
use Rattle.tree77.specs.Statements as s
use Rattle.tree77.specs.Statements.{listeds_of}
use Rattle.tree77.specs.declared.statement.Length77.{Length77}
use Rattle.tree77.specs.declared.statement.Length77.TheVariants as lengths
use Rattle.tree77.specs.declared.statement.Type77.{Type77}
use Rattle.tree77.specs.declared.statement.Type77.TheVariants as type
use Rattle.tree77.specs.declared.statement.Dimension77.{Dimension77}
use Rattle.tree77.specs.declared.statement.Declarator77.{Declarator77}
use Rattle.tree77.specs.declared.statement.Equation77.{Equation77}
use Rattle.tree77.specs.declared.statement.Letters77.{Letters77}
use Rattle.tree77.specs.declared.statement.Implicit77.{Implicit77}
use Rattle.tree77.specs.declared.statement.Block77.{Block77}
use Rattle.tree77.specs.declared.statement.Saved77.{Saved77}
use Rattle.tree77.specs.declared.statement.Saved77.TheVariants as saved
use Rattle.tree77.specs.declared.statement.Range77.{Range77}
use Rattle.tree77.specs.declared.statement.Listed77.{Listed77, fold-Listed77}
use Rattle.tree77.specs.declared.statement.Listed77.TheOpen.{Listed77-F}
use Rattle.tree77.specs.declared.statement.Times77.{Times77}
use Rattle.tree77.specs.declared.statement.Times77.TheVariants as times
use Rattle.tree77.specs.declared.statement.DataValue77.{DataValue77}
use Rattle.tree77.specs.declared.statement.DataGroup77.{DataGroup77}
use Rattle.tree77.specs.declared.statement.UnitRef77.{UnitRef77}
use Rattle.tree77.specs.declared.statement.UnitRef77.TheVariants as unit
use Rattle.tree77.specs.declared.statement.FormatRef77.{FormatRef77}
use Rattle.tree77.specs.declared.statement.FormatRef77.TheVariants as format
use Rattle.tree77.specs.declared.statement.Control77.{Control77}
use Rattle.tree77.specs.declared.statement.FileControl77.{FileControl77}
use Rattle.tree77.specs.declared.statement.ReadBy77.{ReadBy77}
use Rattle.tree77.specs.declared.statement.ReadBy77.TheVariants as by
use Rattle.tree77.specs.declared.statement.Header77.{Header77}
use Rattle.tree77.specs.declared.statement.Header77.TheVariants as header
use Rattle.tree77.specs.declared.statement.Declared77.{Declared77}
use Rattle.tree77.specs.declared.statement.Declared77.TheVariants as declared
use Rattle.tree77.specs.declared.statement.Stmt77.{Stmt77}
use Rattle.tree77.specs.declared.statement.Stmt77.TheVariants as stmt
use Rattle.tree77.specs.declared.statement.Statement77.{Statement77}
use Rattle.tree77.specs.declared.statement.Statement77.TheVariants as statement

abbrev pub length_of : Length77 → s.Length
length_of lengths.Assumed = s.assumed
length_of (lengths.Given e) = s.given (expr_of e)

abbrev pub type_of : Type77 → s.Type77
type_of type.Integer = s.integer_type
type_of type.Logical = s.logical_type
type_of (type.Character l) = s.character_type (option_map length_of l)

abbrev pub dimension_of : Dimension77 → s.Dimension
dimension_of d = record { lower = option_map expr_of d.lower; upper = option_map expr_of d.upper }

abbrev pub declarator_of : Declarator77 → s.Declarator
declarator_of d = record { name = d.name; dimensions = map dimension_of d.dimensions; length = option_map length_of d.length }

abbrev pub equation_of : Equation77 → s.Equation
equation_of e = record { name = e.name; value = expr_of e.value }

abbrev pub letters_of : Letters77 → s.Letters
letters_of l = record { from = l.from; to = l.to }

abbrev pub implicit_of : Implicit77 → s.Implicit
implicit_of i = record { type = type_of i.of; letters = map letters_of i.letters }

abbrev pub block_of : Block77 → s.Block
block_of b = record { name = b.name; members = map declarator_of b.members }

abbrev pub saved_of : Saved77 → s.Saved
saved_of (saved.Name x) = s.saved_name x
saved_of (saved.Block x) = s.saved_block x

abbrev pub range_of : Range77 → s.Range
range_of r = record { variable = r.variable; from = expr_of r.from; to = expr_of r.to; by = option_map expr_of r.by }

abbrev pub listed_step : Listed77-F s.Listed → s.Listed
listed_step (Listed77-F.Item e) = s.item (expr_of e)
listed_step (Listed77-F.Loop xs r) = s.loop (listeds_of xs) (range_of r)

unfoldable pub listed_of : Listed77 → s.Listed
listed_of = fold-Listed77 s.Listed listed_step

-- the items of a list
abbrev pub listed_items : List Listed77 → s.Listeds
listed_items xs = listeds_of (map listed_of xs)

abbrev pub times_of : Times77 → s.Times
times_of times.Once = s.once
times_of (times.Number n) = s.number_times n
times_of (times.Name x) = s.name_times x

abbrev pub value_of : DataValue77 → s.Value
value_of v = record { times = times_of v.times; constant = expr_of v.constant }

abbrev pub data_group_of : DataGroup77 → s.DataGroup
data_group_of g = record { objects = listed_items g.objects; values = map value_of g.values }

abbrev pub unit_ref_of : UnitRef77 → s.UnitRef
unit_ref_of unit.Star = s.star_unit
unit_ref_of (unit.Given e) = s.given_unit (expr_of e)

abbrev pub format_ref_of : FormatRef77 → s.FormatRef
format_ref_of format.Star = s.star_format
format_ref_of (format.Label l) = s.label_format l
format_ref_of (format.Text t xs) = s.text_format t (format_items xs)

abbrev pub control_of : Control77 → s.Control
control_of c = record { unit = unit_ref_of c.unit; format = format_ref_of c.format; iostat = c.iostat; error = c.error; ending = c.ending }

abbrev pub file_control_of : FileControl77 → s.FileControl
file_control_of c = record { unit = expr_of c.unit; file = option_map expr_of c.file; status = option_map expr_of c.status; iostat = c.iostat; error = c.error }

abbrev pub read_by_of : ReadBy77 → s.ReadBy
read_by_of (by.Control c) = s.by_control (control_of c)
read_by_of (by.Format f) = s.by_format (format_ref_of f)

abbrev pub header_of : Header77 → s.Header
header_of (header.Program x) = s.program x
header_of (header.Subroutine x ds) = s.subroutine x ds
header_of (header.Function t x ds) = s.function (option_map type_of t) x ds
header_of (header.BlockData x) = s.block_data x

abbrev pub declared_of : Declared77 → s.Declared
declared_of (declared.Implicit is) = s.implicit (map implicit_of is)
declared_of (declared.Parameter es) = s.parameter (map equation_of es)
declared_of (declared.Typed t ds) = s.typed (type_of t) (map declarator_of ds)
declared_of (declared.Dimension ds) = s.dimension (map declarator_of ds)
declared_of (declared.Common bs) = s.common (map block_of bs)
declared_of (declared.Equivalence xs) = s.equivalence (map (λ (x : List Expr). map expr_of x) xs)
declared_of (declared.External xs) = s.external xs
declared_of (declared.Intrinsic xs) = s.intrinsic xs
declared_of (declared.Save xs) = s.save (map saved_of xs)
declared_of (declared.Data gs) = s.data_ (map data_group_of gs)
declared_of (declared.Format xs) = s.format (format_items xs)

abbrev pub simple_of : Stmt77 → s.Simple
simple_of (stmt.Assign d e) = s.assign (expr_of d) (expr_of e)
simple_of (stmt.Goto l) = s.goto l
simple_of (stmt.Computed ls e) = s.computed ls (expr_of e)
simple_of (stmt.Arithmetic e a b c) = s.arithmetic (expr_of e) a b c
simple_of stmt.Continue = s.continue
simple_of stmt.Return = s.return_
simple_of (stmt.Stop c) = s.stop c
simple_of (stmt.Call x es) = s.calling x (map expr_of es)
simple_of (stmt.Read b xs) = s.read (read_by_of b) (listed_items xs)
simple_of (stmt.Write c xs) = s.write (control_of c) (listed_items xs)
simple_of (stmt.Print f xs) = s.print (format_ref_of f) (listed_items xs)
simple_of (stmt.Open c) = s.open_ (file_control_of c)
simple_of (stmt.Close c) = s.close_ (file_control_of c)
simple_of (stmt.Rewind c) = s.rewind (file_control_of c)

abbrev pub statement_of : Statement77 → s.Statement
statement_of (statement.Header h) = s.header (header_of h)
statement_of (statement.Declared d) = s.declared (declared_of d)
statement_of (statement.StmtFunction f ds e) = s.statement_function f ds (expr_of e)
statement_of (statement.Simple a) = s.simple (simple_of a)
statement_of (statement.Guarded e a) = s.guarded (expr_of e) (simple_of a)
statement_of (statement.IfThen e) = s.if_then (expr_of e)
statement_of (statement.ElseIf e) = s.else_if (expr_of e)
statement_of statement.Else = s.else_
statement_of statement.EndIf = s.end_if
statement_of (statement.Do l r) = s.do_ l (range_of r)
statement_of statement.End = s.end
