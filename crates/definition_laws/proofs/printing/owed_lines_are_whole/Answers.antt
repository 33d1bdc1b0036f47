use Rattle.std.proofs.Common.{ℕ, ◌+◌, ◌-◌, ◌^◌, ◌<◌, List, ◌++◌, ap, ◌∙◌, ⊎_elim, min, ◌≤◌, arith}
use Rattle.command.specs.Print.{SinkCounts, HasFailed, WasDenied, IsTroubled, PrintsCut}
use Rattle.definition_laws.specs.Printing.{HasWholeLine}
use Rattle.definition_laws.proofs.printing.owed_lines_are_whole.Goals as goal

-- the line is whole where the sink was in no trouble since the cut
whole : (Cause : SinkCounts → SinkCounts → Type 0) (before now : SinkCounts) (main line text : List ℕ) (cut : PrintsCut Cause before now main line text) → (IsTroubled cut.cut now → ⊥) → HasWholeLine main line text
whole Cause before now main line text cut calm =
    ⊎_elim (λ is. (cut.part, cut.first, cut.all ∙ ap (λ rest. cut.part ++ rest) is)) (λ t. absurd (calm t.0)) cut.line_after

-- a count that stands still didn't rise
still : (a b : ℕ) → b ≤ a → b < 2 ^ 64 - 1 → min (a + 1) (2 ^ 64 - 1) ≤ b → ⊥
still a b le room rose = omega (arith, le, room, rose)

pub returns-clause-failed : goal.returns-clause-failed
returns-clause-failed c before now main line text faults denials few_faults few_denials cut =
    whole HasFailed before now main line text cut
    (⊎_elim (λ f. still cut.cut.faults now.faults (omega (arith, cut.cause, faults, few_faults)) few_faults f) (λ d. still cut.cut.denials now.denials (omega (arith, cut.until_cut, denials)) few_denials d))

pub returns-clause-denied : goal.returns-clause-denied
returns-clause-denied c before now main line text faults denials few_faults few_denials cut =
    whole WasDenied before now main line text cut
    (⊎_elim (λ f. still cut.cut.faults now.faults (omega (arith, cut.until_cut, faults)) few_faults f) (λ d. still cut.cut.denials now.denials (omega (arith, cut.cause, denials, few_denials)) few_denials d))
