-- A FORTRAN 77 program as a plain tree.
use Rattle.std.specs.Prelude.{ℕ, List}
use Rattle.text_base.specs.Trees.{Action}
use Rattle.text_base.specs.declared.refusal.Place.{Place}
use Rattle.implicit_types.specs.Typing.{Entity}

-- an executable statement
pub data Stmt : Type 0 where
  simple : Action → Stmt
  -- CONTINUE
  continue : Stmt

-- a list of executable statements, each with its label, 0 where it has none, and its place
pub data Code : Type 0 where
  done : Code
  item : ℕ → Place → Stmt → Code → Code

-- a main program: its name, the places of its first statement and of its END, its entities by first appearance, and its statements
pub record SourceUnit : Type 0 where
  pub name : List ℕ
  pub place : Place
  pub entities : List Entity
  pub code : Code
  pub end : Place

-- the units of all files in order
pub record SourceProgram : Type 0 where
  pub units : List SourceUnit
