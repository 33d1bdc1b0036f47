-- The text of a conversion has one reading, which does what the source does.
use Rattle.std.proofs.Common.{◌≡◌, ℕ, List, refl}
use Rattle.text_base.specs.Cards.{comments}
use Rattle.tree90.specs.Tree.{FreeProgram}
use Rattle.tree90.specs.FreeText.{SpellsText}
use Rattle.tree90.specs.Printed.{printed}
use Rattle.tree90.specs.Proper.{IsWritable}
use Rattle.project_set.specs.Conversion.{program_text}
use Rattle.project_set.specs.Laws.{WrittenIsProper, ConversionsDoTheSame}
use Rattle.project_set.specs.MapText.{map_lines}
use Rattle.project_set.specs.Rewrite.{written}
use Rattle.project_set.specs.Typed.{SourcesAreTyped}
use Rattle.project_set.proofs.Carrying.{does_the_same}
use Rattle.project_set.proofs.PositionLemmas.{comments_kept}
use Rattle.project_set.proofs.ProperLemmas.{typed_unit, distinct_variables}
use Rattle.project_set.proofs.SkeletonLemmas.{skeletons_kept}

-- what the laws on texts say
abbrev pub OneRead : Type 0
OneRead = (text : List ℕ) (p q : FreeProgram) → SpellsText text p → SpellsText text q → p ≡ q

abbrev pub PrintedRead : Type 0
PrintedRead = (p : FreeProgram) → IsWritable p → SpellsText (printed p) p

pub conversions_do_the_same : SourcesAreTyped → WrittenIsProper → OneRead → PrintedRead → ConversionsDoTheSame
conversions_do_the_same typed proper one read bytes p converted =
    let program = written (comments bytes) p in
    let is = proper bytes p converted in
    let spelled = read program is.writable in
    record {
      program = program;
      one_reading = record { is_read = spelled; only = λ other r. one (program_text bytes p) other program r spelled; proper = is };
      lines = map_lines p;
      is_map = refl;
      does_the_same = does_the_same bytes p converted.is_source (distinct_variables _ (typed_unit typed bytes p converted));
      skeletons = skeletons_kept bytes p converted.is_source;
      comments = comments_kept bytes p converted.is_source;
    }
