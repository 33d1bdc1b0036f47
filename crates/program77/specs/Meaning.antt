-- The FORTRAN 77 meaning: a machine on a flat list of labelled statements, over tagged places.
use Rattle.std.specs.Prelude.{ℕ, zero, suc, ℤ, List, [], ◌∷◌, replicate, slice_get, slice_index_or, slice_set, sum_by, Option, Some, None}
use Rattle.text_base.specs.Trees.{Action}
use Rattle.text_base.specs.Values.{Value, Held, undefined, held, integer_in, no_meaning}
use Rattle.text_base.specs.Runs.{Final, ended, fault, Out, gives, over, bind, close, tick, How, normal}
use Rattle.text_base.specs.Evaluation.{Storage, Call}
use Rattle.text_base.specs.Evaluation as e
use Rattle.text_base.specs.declared.refusal.Place.{Place}
use Rattle.program77.specs.Tree.{Stmt, simple, continue, Code, done, item, SourceUnit, SourceProgram}
use Rattle.program77.specs.Layout.{Layout, Entity, layout_of, numeric_count, text_count, numeric_place, entity_named}

-- the numeric places and the character places of all sequences
pub record Store : Type 0 where
  pub numbers : List Held
  pub texts : List (Option ℕ)

abbrev pub read_at : Layout → Store → Option Entity → Option Value
read_at layout w None = None
read_at layout w (Some x) = integer_in (slice_index_or w.numbers (numeric_place layout x.sequence x.offset) undefined)

abbrev pub write_at : Layout → Store → Option Entity → Value → Store
write_at layout w None v = w
write_at layout w (Some x) v = record w { numbers = slice_set w.numbers (numeric_place layout x.sequence x.offset) (held v) }

-- the store as a unit sees it
abbrev pub tagged : Layout → ℕ → Storage Store
tagged layout unit = record {
  read = λ w x. read_at layout w (entity_named layout.entities unit x);
  write = λ w x v. write_at layout w (entity_named layout.entities unit x) v;
}

-- what one line of the list does
pub data Op : Type 0 where
  act : Action → Op
  -- a line that is no step
  pass : Op

-- one line, with its label, the number of loops that it stands in, and its place
pub data Line : Type 0 where
  line : ℕ → ℕ → Place → Op → Line

-- the lines of a list, before the lines that follow it
abbrev pub stmt_lines : Stmt → ℕ → Place → ℕ → List Line → List Line
stmt_lines (simple a) label here depth rest = line label depth here (act a) ∷ rest
stmt_lines continue label here depth rest = line label depth here pass ∷ rest

abbrev pub lines : Code → ℕ → List Line → List Line
lines done depth rest = rest
lines (item label here s more) depth rest = stmt_lines s label here depth (lines more depth rest)

-- an open DO loop: the lines of its turn and after, its variable, the turns that are left, its increment
pub record Open : Type 0 where
  pub back : List Line
  pub variable : List ℕ
  pub left : ℕ
  pub by : ℤ

-- goes on past some of the lines that follow
abbrev pub Go : Type 0
Go = ℕ → List Open → ℕ → Store → Out Store (Unit {0})

abbrev pub proceed : Go → List Open → ℕ → Store → How → Out Store (Unit {0})
proceed go loops n w normal = go 0 loops n w

module _ (storage : Storage Store) (call : Call Store) where
  -- one line
  abbrev pub perform : Op → Place → Go → List Open → ℕ → Store → Out Store (Unit {0})
  perform (act a) here go loops n w = bind (e.action storage call here a n w) (proceed go loops)
  perform pass here go loops n w = go 0 loops n w

  -- The lines from here on, of which the first may be passed over. The END of the unit is counted.
  abbrev pub from : List Line → ℕ → List Open → ℕ → Store → Out Store (Unit {0})
  from [] passed loops n w = tick n w (λ n. gives n w tt)
  from (line label depth here op ∷ rest) (suc k) loops n w = from rest k loops n w
  from (line label depth here op ∷ rest) zero loops n w = perform op here (from rest) loops n w

-- no function is referred to but intrinsic ones
abbrev pub no_function : Call Store
no_function f values n w = over (fault (record { file = 0; line = 0 }) no_meaning)

-- the store before the first statement: without DATA every place is undefined
abbrev pub start77 : Layout → Store
start77 layout = record {
  numbers = replicate (sum_by numeric_count layout.sequences) undefined;
  texts = replicate (sum_by text_count layout.sequences) None;
}

-- the END of a main program is a STOP without code (X3.9 section 11.14)
abbrev pub stop_at_end : ℕ → Store → Unit {0} → Final Store
stop_at_end n w e = ended w None

abbrev pub run_main : Layout → Option SourceUnit → ℕ → Final Store
run_main layout None n = ended (start77 layout) None
run_main layout (Some unit) n = close (from (tagged layout 0) no_function (lines unit.code 0 []) 0 [] n (start77 layout)) stop_at_end

-- The program after n statements: the store as the next statement finds it, or as the run has ended or
-- faulted. The main program is the first unit.
abbrev pub run77 : SourceProgram → ℕ → Final Store
run77 p n = run_main (layout_of p) (slice_get p.units 0) n
