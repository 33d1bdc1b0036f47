-- What a computation from a budget of statements gives.
use Rattle.std.specs.Prelude.{ℕ, zero, suc, Option, Some, None}
use Rattle.text_base.specs.Values.{Value, Fault, run_fault, no_meaning}
use Rattle.text_base.specs.Operations.{Computed, computes, faults, unfit}
use Rattle.text_base.specs.declared.refusal.Place.{Place}
use Rattle.text_base.specs.declared.stop_code.StopCode.{StopCode}

-- How a run is after its statements: it goes on, it has ended with the code of a STOP or none, or it
-- has faulted at a statement.
pub data Final (W : Type 0) : Type 0 where
  going : W → Final W
  ended : W → Option StopCode → Final W
  fault : Place → Fault → Final W

-- a value with what is left of the budget, or the end of the run
pub data Out (W A : Type 0) : Type 0 where
  gives : ℕ → W → A → Out W A
  over : Final W → Out W A

abbrev pub bind : {W A B : Type 0} → Out W A → (ℕ → W → A → Out W B) → Out W B
bind (gives n w a) k = k n w a
bind (over f) k = over f

abbrev pub close : {W A : Type 0} → Out W A → (ℕ → W → A → Final W) → Final W
close (gives n w a) k = k n w a
close (over f) k = f

-- one statement is counted, or the budget ends before it
abbrev pub tick : {W A : Type 0} → ℕ → W → (ℕ → Out W A) → Out W A
tick zero w k = over (going w)
tick (suc n) w k = k n

-- a value that is there, or the fault
abbrev pub known : {W A : Type 0} → Place → Fault → Option A → ℕ → W → Out W A
known here kind None n w = over (fault here kind)
known here kind (Some a) n w = gives n w a

-- what an operation gives, or its fault; an operation that the values don't fit has no meaning
abbrev pub computed : {W : Type 0} → Place → Computed → ℕ → W → Out W Value
computed here (computes v) n w = gives n w v
computed here (faults kind) n w = over (fault here (run_fault kind))
computed here unfit n w = over (fault here no_meaning)

-- how a statement ends, as far as the list that it stands in may see it
pub data How : Type 0 where
  normal : How
