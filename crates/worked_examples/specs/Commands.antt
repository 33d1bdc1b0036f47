-- Words of the command line, statuses and refusals, with what they give.
use Rattle.std.specs.Prelude.{ℕ, List, [], ◌∷◌, codes, Option, Some, None}
use Rattle.text_base.specs.declared.refusal.Cause.TheVariants.{BadLabelField, NotBuilt}
use Rattle.text_base.specs.declared.refusal.Refusal.{Refusal}
use Rattle.command.specs.Words.{Command}
use Rattle.command.specs.declared.status.Status.{Status}
use Rattle.command.specs.declared.status.Status.TheVariants.{Done, Refused, Usage, ReadFault, Missing, WriteFault, Memory}
use Rattle.worked_examples.specs.Refused.{at}

abbrev pub three_words : List ℕ → List ℕ → List ℕ → List (List ℕ)
three_words mode file out = mode ∷ file ∷ out ∷ []

-- the one form, and words that don't have it
abbrev pub command_words : List (List (List ℕ) × Option Command)
command_words =
    (three_words (codes "one") (codes "t.f") (codes "o"), Some (record { file = codes "t.f"; out = codes "o" }))
    ∷ (three_words (codes "one") (codes "t.f") (codes "t.f90"), Some (record { file = codes "t.f"; out = codes "t.f90" }))
    ∷ (three_words (codes "two") (codes "t.f") (codes "o"), None)
    ∷ (three_words (codes "one") (codes "") (codes "o"), None)
    ∷ (three_words (codes "one") (codes "t.f") (codes "-o"), None)
    ∷ (three_words (codes "one") (codes "t.f") (codes "t.f"), None)
    ∷ (three_words (codes "one") (codes "o.map") (codes "o"), None)
    ∷ (three_words (codes "one") (codes "o.report") (codes "o"), None)
    ∷ (codes "one" ∷ codes "t.f" ∷ [], None)
    ∷ (codes "one" ∷ codes "t.f" ∷ codes "o" ∷ codes "p" ∷ [], None)
    ∷ ([], None)
    ∷ []

abbrev pub status_codes : List (Status × ℕ)
status_codes = (Done, 0) ∷ (Refused, 1) ∷ (Usage, 2) ∷ (ReadFault, 3) ∷ (Missing, 4) ∷ (WriteFault, 6) ∷ (Memory, 7) ∷ []

-- two refusals, and the lines that are printed of them
abbrev pub two_refusals : List Refusal
two_refusals = at 12 BadLabelField (codes "3") ∷ at 0 NotBuilt (codes "0") ∷ []

abbrev pub two_lines : List ℕ
two_lines = codes "t.f:12: 3 BadLabelField 3\nt.f:0: 99 NotBuilt 0\n"
