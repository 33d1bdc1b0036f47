-- From what was answered, and how the sink took it, to what the program says of its status.
use Rattle.std.proofs.Common.{◌≡◌, ◌⊎◌, inl, inr, ℕ, List, Option, Some, None, IfSome, refl, sym, ◌∙◌, subst, arith}
use Rattle.text_base.specs.Files.{Files}
use Rattle.project_set.specs.Conversion.{IsRefused}
use Rattle.command.specs.Words.{Command}
use Rattle.command.specs.FromFile.{FromFile, LacksName, IsAccepted, Converts}
use Rattle.command.specs.Answers.{Answers, IsMain, IsOrMemory}
use Rattle.command.specs.Print.{SinkCounts, HasFailed, WasDenied, Says, Prints}
use Rattle.command.specs.declared.status.Status.{Status}
use Rattle.command.specs.declared.status.Status.TheVariants.{Done, Refused, Usage, ReadFault, Missing, WriteFault, Memory}
use Rattle.command.proofs.FileLemmas.{from_more, lacks_none, accepted_not_refused}
use Rattle.command.proofs.SayLemmas.{prints}

-- how the wanted status turns into the one that comes
data Turns (failed denied : Type 0) (wanted status : Status) : Type 0 where
  stays : status ≡ wanted → Turns failed denied wanted status
  fails : IsMain wanted → status ≡ WriteFault → failed → Turns failed denied wanted status
  wants : IsMain wanted → status ≡ Memory → denied → Turns failed denied wanted status

-- what the printing says of the status
turns_of : (before now : SinkCounts) (wanted : Status) (whole : List ℕ) (status : Status) (text : List ℕ) → Says before now wanted whole status text
    → Turns (HasFailed before now) (WasDenied before now) wanted status
turns_of before now wanted whole status text (inl (same, all)) = stays same
turns_of before now wanted whole status text (inr (inl (same, line, trouble, part))) = stays same
turns_of before now wanted whole status text (inr (inr (inl (main, turned, cut)))) = fails main turned (omega (arith, cut.cause, cut.since_cut))
turns_of before now wanted whole status text (inr (inr (inr (main, turned, cut)))) = wants main turned (omega (arith, cut.cause, cut.since_cut))

-- on a sink that hasn't failed the status is the one that is wanted, or `Memory`
wanted_or_memory : (failed denied : Type 0) (wanted status : Status) → (failed → ⊥) → Turns failed denied wanted status → IsOrMemory status wanted
wanted_or_memory failed denied wanted status sound (stays same) = inl same
wanted_or_memory failed denied wanted status sound (fails main turned fault) = absurd (sound fault)
wanted_or_memory failed denied wanted status sound (wants main turned want) = inr turned

-- `Missing` and `Memory` aren't turned
plainly : (failed wanting : Type 0) (wanted status : Status) → Turns failed wanting wanted status → IsOrMemory wanted Missing → IsOrMemory status Missing
plainly failed wanting wanted status (stays same) is = subst (λ s. IsOrMemory s Missing) (sym same) is
plainly failed wanting wanted status (fails main turned fault) (inl missing) = absurd (subst IsMain missing main)
plainly failed wanting wanted status (fails main turned fault) (inr memory) = absurd (subst IsMain memory main)
plainly failed wanting wanted status (wants main turned want) is = inr turned

-- the status is `Memory` either way
memory_is : (status : Status) → IsOrMemory status Memory → status ≡ Memory
memory_is status (inl memory) = memory
memory_is status (inr memory) = memory

module _ (command : Option Command) (old new : Option Files) (unread absent unwritten denied : Type 0) (whole : List ℕ) where
  -- what is answered at a status
  abbrev At : Status → Type 0
  At s = Answers s command old new unread absent unwritten denied whole

  -- what is held once the text of a main status was to be put
  held_at : (wanted : Status) → At wanted → IsMain wanted → (FromFile command old (λ _ bytes. IsRefused bytes) × (new ≡ old)) ⊎ FromFile command old (Converts old new)
  held_at Done answers main = inr (from_more command old _ (Converts old new) (λ c bytes p. (p.0, p.1, p.2)) answers)
  held_at Refused answers main = inl (from_more command old _ (λ _ bytes. IsRefused bytes) (λ c bytes p. p.0) answers.1, answers.0)
  held_at Usage answers main = absurd main
  held_at ReadFault answers main = absurd main
  held_at Missing answers main = absurd main
  held_at WriteFault answers main = absurd main
  held_at Memory answers main = absurd main

  -- what is held where the sink has failed
  sink_fault : (failed wanting : Type 0) (wanted status : Status) → At wanted → Turns failed wanting wanted status → status ≡ WriteFault → (unwritten → ⊥)
      → (FromFile command old (λ _ bytes. IsRefused bytes) × (new ≡ old)) ⊎ FromFile command old (Converts old new)
  sink_fault failed wanting wanted status answers (stays same) is sound = absurd (sound (subst At (sym same ∙ is) answers).0)
  sink_fault failed wanting wanted status answers (fails main turned fault) is sound = held_at wanted answers main
  sink_fault failed wanting wanted status answers (wants main turned want) is sound = held_at wanted answers main

-- where the contents are told
module _ (command : Option Command) (files : Files) (new : Option Files) (unread absent unwritten denied : Type 0) (whole : List ℕ) where
  -- what is answered at a status
  abbrev AtTold : Status → Type 0
  AtTold s = Answers s command (Some files) new unread absent unwritten denied whole

  -- what comes for a file of which something is refused
  refused_by : (wanted status : Status) → AtTold wanted → (unread → ⊥) → FromFile command (Some files) (λ _ bytes. IsRefused bytes) → IsOrMemory status wanted → IsOrMemory status Refused
  refused_by Done status answers readable is comes =
      absurd (accepted_not_refused command files (from_more command (Some files) _ (λ _ bytes. IsAccepted bytes) (λ c bytes p. p.1.accepted) answers) is)
  refused_by Refused status answers readable is comes = comes
  refused_by Usage status answers readable is comes = absurd (subst (λ c. FromFile c (Some files) (λ _ bytes. IsRefused bytes)) answers.1 is)
  refused_by ReadFault status answers readable is comes = absurd (readable answers.1)
  refused_by Missing status answers readable is comes = absurd (lacks_none command files _ answers.2 is)
  refused_by WriteFault status answers readable is comes = absurd (accepted_not_refused command files (from_more command (Some files) _ (λ _ bytes. IsAccepted bytes) (λ c bytes p. p.1.accepted) answers.1) is)
  refused_by Memory status answers readable is comes = inr (memory_is status comes)

  -- what is wanted for a name that isn't held
  missing_by : (wanted : Status) → AtTold wanted → (unread → ⊥) → LacksName command (Some files) → IsOrMemory wanted Missing
  missing_by Done answers readable lacks = absurd (lacks_none command files _ lacks answers)
  missing_by Refused answers readable lacks = absurd (lacks_none command files _ lacks answers.1)
  missing_by Usage answers readable lacks = absurd (subst (λ c. LacksName c (Some files)) answers.1 lacks)
  missing_by ReadFault answers readable lacks = absurd (readable answers.1)
  missing_by Missing answers readable lacks = inl refl
  missing_by WriteFault answers readable lacks = absurd (lacks_none command files _ lacks answers.1)
  missing_by Memory answers readable lacks = inr refl

-- what the program says of a status that comes
pub record Ends (command : Option Command) (old new : Option Files) (unread unwritten : Type 0) (before now : SinkCounts) (status : Status) (text : List ℕ) : Type 0 where
  pub missing_always : (unread → ⊥) → IfSome old (λ files. LacksName command (Some files) → IsOrMemory status Missing)
  pub refused_always : (unread → ⊥) → (HasFailed before now → ⊥) → IfSome old (λ files. FromFile command (Some files) (λ _ bytes. IsRefused bytes) → IsOrMemory status Refused)
  pub sink_fault : status ≡ WriteFault → (unwritten → ⊥) → (FromFile command old (λ _ bytes. IsRefused bytes) × (new ≡ old)) ⊎ FromFile command old (Converts old new)
  pub printed : Prints status command old new unwritten before now text

module _ (command : Option Command) (unread absent unwritten denied : Type 0) (before now : SinkCounts) (whole text : List ℕ) (wanted status : Status) where
  -- a name that isn't held is missing
  missing_always : (old new : Option Files) → Answers wanted command old new unread absent unwritten denied whole → Turns (HasFailed before now) (WasDenied before now) wanted status
      → (unread → ⊥) → IfSome old (λ files. LacksName command (Some files) → IsOrMemory status Missing)
  missing_always None new answers turns readable = tt
  missing_always (Some files) new answers turns readable = λ lacks. plainly (HasFailed before now) (WasDenied before now) wanted status turns
      (missing_by command files new unread absent unwritten denied whole wanted answers readable lacks)

  -- a file of which something is refused is refused
  refused_always : (old new : Option Files) → Answers wanted command old new unread absent unwritten denied whole → Turns (HasFailed before now) (WasDenied before now) wanted status
      → (unread → ⊥) → (HasFailed before now → ⊥) → IfSome old (λ files. FromFile command (Some files) (λ _ bytes. IsRefused bytes) → IsOrMemory status Refused)
  refused_always None new answers turns readable sound = tt
  refused_always (Some files) new answers turns readable sound =
      λ is. refused_by command files new unread absent unwritten denied whole wanted status answers readable is (wanted_or_memory (HasFailed before now) (WasDenied before now) wanted status sound turns)

  -- all of it, from what was answered and how it was printed
  pub ends : (old new : Option Files) → Answers wanted command old new unread absent unwritten denied whole → Says before now wanted whole status text → Ends command old new unread unwritten before now status text
  ends old new answers says =
      let turns = turns_of before now wanted whole status text says in
      record {
        missing_always = missing_always old new answers turns;
        refused_always = refused_always old new answers turns;
        sink_fault = sink_fault command old new unread absent unwritten denied whole (HasFailed before now) (WasDenied before now) wanted status answers turns;
        printed = prints command old new unread absent unwritten denied before now whole text wanted status answers says;
      }
