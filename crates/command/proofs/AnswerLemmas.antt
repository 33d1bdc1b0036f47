-- From what was written of a conversion to what is answered for its file.
use Rattle.std.proofs.Common.{◌≡◌, inr, ℕ, List, [], ◌∷◌, Option, Some, IfSome, sym, ap, ◌∙◌, subst}
use Rattle.text_base.specs.Files.{Files, HasFile}
use Rattle.project_set.specs.Conversion.{IsConversion}
use Rattle.project_set.specs.Laws.{IsFaithful}
use Rattle.command.specs.Words.{Command, map_name, report_name}
use Rattle.command.specs.Outputs.{with_files, PartlyWritten, named_texts, outputs}
use Rattle.command.specs.FromFile.{Headline}
use Rattle.command.specs.Lines.{StoppedLine}
use Rattle.command.specs.Answers.{Answers, IsPartly}
use Rattle.command.specs.Store.{Wrote}
use Rattle.command.specs.declared.status.Status.{Status}
use Rattle.command.specs.declared.status.Status.TheVariants.{Done, Refused, Usage, ReadFault, Missing, WriteFault, Memory}
use Rattle.command.proofs.HeadingLemmas.{headline}

-- the texts of a conversion are what the command writes for its program
texts_are : (command : Command) (bytes text map report : List ℕ) (made : IsConversion bytes text map report) → named_texts command.out text map report ≡ outputs command bytes made.program
texts_are command bytes text map report made =
    λ i. (command.out, made.is_text i) ∷ (map_name command.out, made.is_map i) ∷ (report_name command.out, made.is_report i) ∷ []

-- what was written of a conversion is some part of the program's outputs
pub partly_wrote : (command : Command) (old new : Option Files) (bytes text map report : List ℕ) → HasFile old command.file bytes → IsConversion bytes text map report
    → PartlyWritten (named_texts command.out text map report) old new → IsPartly (Some command) old new
partly_wrote command old new bytes text map report has made partly =
    inr (bytes, has, (made.program, made.is_converted, subst (λ texts. PartlyWritten texts old new) (texts_are command bytes text map report made) partly))

-- what is answered, from what was written of a conversion
pub answered : (status : Status) (command : Command) (old new : Option Files) (bytes text map report : List ℕ) (unwritten denied : Type 0) (said : List ℕ) → HasFile old command.file bytes
    → IsConversion bytes text map report → IsFaithful bytes text map → Wrote status (named_texts command.out text map report) report old new unwritten denied said
    → Answers status (Some command) old new ⊥ ⊥ unwritten denied said
answered Done command old new bytes text map report unwritten denied said has made faithful wrote = (
  bytes,
  has,
  (
    made.program,
    made.is_converted,
    wrote.0 ∙ ap (λ texts. with_files texts old) (texts_are command bytes text map report made),
    wrote.1 ∙ made.is_report,
    subst (λ held. IfSome held (Headline command bytes)) (sym wrote.0) (headline command bytes text map report faithful old),
  ),
)
answered Refused command old new bytes text map report unwritten denied said has made faithful wrote = absurd wrote
answered Usage command old new bytes text map report unwritten denied said has made faithful wrote = absurd wrote
answered ReadFault command old new bytes text map report unwritten denied said has made faithful wrote = absurd wrote
answered Missing command old new bytes text map report unwritten denied said has made faithful wrote = absurd wrote
answered WriteFault command old new bytes text map report unwritten denied said has made faithful wrote =
    (wrote.0, (bytes, has, (made.program, made.is_converted, subst (λ texts. StoppedLine texts old new said) (texts_are command bytes text map report made) wrote.1)))
answered Memory command old new bytes text map report unwritten denied said has made faithful wrote = wrote
