-- What is converted of a unit, as the plain tree of it.
use Rattle.std.specs.Prelude.{◌&&◌, ◌==◌, Bool, true, false, List, [], ◌∷◌, Option, Some, None, flat_map, if◌then◌else◌}
use Rattle.text_base.specs.Trees as t
use Rattle.tree77.specs.Statements as s
use Rattle.tree77.specs.Statements.{Statement}
use Rattle.order77.specs.Naming.{own_names, name_or_main}
use Rattle.unit77.specs.Programs.{ProgramUnit}
use Rattle.unit77.specs.Tree as u
use Rattle.unit77.specs.Tree.{Line, Items, first_line}
use Rattle.unit77.specs.UnitViews.{unit_of}
use Rattle.unit77.specs.declared.tree.Unit77.{Unit77}
use Rattle.names77.specs.Known.{known}
use Rattle.names77.specs.Text.{text_of}
use Rattle.implicit_types.specs.Typing.{entities_of}
use Rattle.program77.specs.Built.{Built, built_of, program, action, continue}
use Rattle.program77.specs.Tree as tree
use Rattle.program77.specs.Tree.{Stmt, simple, Code, done, item, SourceUnit}

-- ---- which units are converted

abbrev pub is_program : Option Built → Bool
is_program (Some (program x)) = true
is_program _ = false

abbrev pub is_step : Option Built → Bool
is_step (Some (action a)) = true
is_step (Some continue) = true
is_step _ = false

-- a PROGRAM statement without a label
abbrev pub is_converted_header : List Line → Bool
is_converted_header (l ∷ []) = (l.label == 0) && is_program (built_of l.statement)
is_converted_header _ = false

abbrev pub is_converted_line : Line → Bool
is_converted_line l = (l.label == 0) && is_step (built_of l.statement)

abbrev pub are_converted : Items → Bool
are_converted u.done = true
are_converted (u.simple l is) = is_converted_line l && are_converted is
are_converted (u.loop l inside is) = false
are_converted (u.block arms e is) = false

abbrev pub is_none : List Line → Bool
is_none [] = true
is_none (l ∷ ls) = false

-- A main program with PROGRAM, without declarations and statement functions, all of whose statements are converted, and without
-- labels.
abbrev pub is_converted : ProgramUnit → Bool
is_converted unit = is_converted_header unit.headers && (is_none unit.declared && (is_none unit.functions && (are_converted unit.items && (unit.last.label == 0))))

-- ---- what is converted of them; what isn't converted stands as CONTINUE, which no unit has that is converted

abbrev pub stmt_of : Statement → Stmt
stmt_of (s.simple (s.assign d x)) = simple (t.assign d x)
stmt_of (s.simple (s.stop c)) = simple t.stop
stmt_of _ = tree.continue

abbrev pub code_of : Items → Code
code_of u.done = done
code_of (u.simple l is) = item l.label l.place (stmt_of l.statement) (code_of is)
code_of (u.loop l inside is) = item l.label l.place tree.continue (code_of is)
code_of (u.block arms e is) = item (first_line arms).label (first_line arms).place tree.continue (code_of is)

-- the statement that a list begins with
abbrev pub first_stmt : Items → Stmt
first_stmt (u.simple l is) = stmt_of l.statement
first_stmt _ = tree.continue

abbrev pub source_unit : ProgramUnit → SourceUnit
source_unit unit = record {
  name = name_or_main (flat_map (λ (l : Line). own_names l.statement) unit.headers);
  place = unit.place;
  entities = entities_of (known (text_of unit));
  code = code_of unit.items;
  end = unit.last.place;
}

-- the one unit of a file, where it is converted
abbrev pub one_converted : List ProgramUnit → Option SourceUnit
one_converted (unit ∷ []) = if is_converted unit then Some (source_unit unit) else None
one_converted _ = None

-- a unit of the code
abbrev pub source_of : Unit77 → SourceUnit
source_of unit = source_unit (unit_of unit)
