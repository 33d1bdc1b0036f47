-- From what is wanted to what is printed.
use Rattle.std.proofs.Common.{◌≡◌, inl, inr, ℕ, List, Option, sym, subst}
use Rattle.text_base.specs.Files.{Files}
use Rattle.program77.specs.Tree.{SourceProgram}
use Rattle.project_set.specs.Conversion.{program_report, IsConvertible}
use Rattle.command.specs.Words.{Command}
use Rattle.command.specs.Outputs.{with_files, outputs}
use Rattle.command.specs.FromFile.{FromFile}
use Rattle.command.specs.Lines.{IsReport, IsRefusalText}
use Rattle.command.specs.Answers.{Answers, IsMain}
use Rattle.command.specs.Print.{SinkCounts, IsMainText, Prints, PrintsLine, Says}
use Rattle.command.specs.declared.status.Status.{Status}
use Rattle.command.specs.declared.status.Status.TheVariants.{Done, Refused, Usage, ReadFault, Missing, WriteFault, Memory}
use Rattle.command.proofs.FileLemmas.{from_more}

module _ (command : Option Command) (old new : Option Files) (unread absent unwritten denied : Type 0) (before now : SinkCounts) (whole text : List ℕ) where
  -- what is answered at a status
  abbrev At : Status → Type 0
  At s = Answers s command old new unread absent unwritten denied whole

  -- what is printed at a status
  abbrev Printed : Status → Type 0
  Printed s = Prints s command old new unwritten before now text

  -- what is answered at `Done`, without the headline
  main_of : At Done → FromFile command old (λ c bytes. (p : SourceProgram) × IsConvertible bytes p × (new ≡ with_files (outputs c bytes p) old) × (whole ≡ program_report bytes p))
  main_of answers = from_more command old _ _ (λ c bytes p. (p.0, p.1, p.2, p.3)) answers

  -- the text of a conversion is a report
  report_of : At Done → IsReport command old whole
  report_of answers = from_more command old _ (λ c bytes. (p : SourceProgram) × IsConvertible bytes p × (whole ≡ program_report bytes p)) (λ c bytes p. (p.0, p.1, p.3)) (main_of answers)

  -- the text is that of an answer, whole or in part
  put : (wanted : Status) → At wanted → (IsMain wanted → text ≡ whole) → PrintsLine before now whole text → Printed wanted
  put Done answers all line = subst (IsReport command old) (sym (all tt)) (report_of answers)
  put Refused answers all line = subst (IsRefusalText command old) (sym (all tt)) answers.1
  put Usage answers all line = subst (λ l. PrintsLine before now l text) answers.2 line
  put ReadFault answers all line = (whole, answers.2, line)
  put Missing answers all line = (whole, answers.3, line)
  put WriteFault answers all line = inl (answers.0, (whole, answers.1, line))
  put Memory answers all line = inl (subst (λ l. PrintsLine before now l text) answers.1 line)

  -- the whole text of a status that isn't printed by a line
  main_text_of : (wanted : Status) → At wanted → IsMain wanted → IsMainText command old new whole
  main_text_of Done answers main = inl (main_of answers)
  main_text_of Refused answers main = inr answers
  main_text_of Usage answers main = absurd main
  main_text_of ReadFault answers main = absurd main
  main_text_of Missing answers main = absurd main
  main_text_of WriteFault answers main = absurd main
  main_text_of Memory answers main = absurd main

  -- what is printed for an answer
  pub prints : (wanted status : Status) → At wanted → Says before now wanted whole status text → Printed status
  prints wanted status answers (inl (same, all)) = subst Printed (sym same) (put wanted answers (λ main. all) (inl all))
  prints wanted status answers (inr (inl (same, line, trouble, part))) = subst Printed (sym same) (put wanted answers (λ main. absurd (line main)) (inr (trouble, part)))
  prints wanted status answers (inr (inr (inl (main, turned, cut)))) = subst Printed (sym turned) (inr (whole, main_text_of wanted answers main, cut))
  prints wanted status answers (inr (inr (inr (main, turned, cut)))) = subst Printed (sym turned) (inr (whole, main_text_of wanted answers main, cut))
