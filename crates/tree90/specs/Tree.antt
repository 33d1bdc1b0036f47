-- A Fortran 90 program as a plain tree.
use Rattle.std.specs.Prelude.{ℕ, List}
use Rattle.text_base.specs.Trees.{Action}
use Rattle.text_base.specs.Remarks.{Remark}

-- an executable statement
pub data Stmt : Type 0 where
  simple : Action → Stmt

-- a list of executable statements, each with the comments before it
pub data Code : Type 0 where
  done : Code
  item : List Remark → Stmt → Code → Code

pub data Declared : Type 0 where
  -- a scalar integer
  integer_object : List ℕ → Declared

-- a main program, with the comments before its header line, right after it, and before its END line
pub record FreeUnit : Type 0 where
  pub head : List Remark
  pub name : List ℕ
  pub inner : List Remark
  pub declared : List Declared
  pub code : Code
  pub tail : List Remark

-- the units, and the comments after the last of them
pub record FreeProgram : Type 0 where
  pub units : List FreeUnit
  pub tail : List Remark
