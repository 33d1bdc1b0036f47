use Rattle.std.proofs.Common.{◌≡◌, ℕ, ◌≤◌, Bool, true, false, List, [], ◌∷◌, length, refl, ap, arith}
use Rattle.std.specs.Prelude.{nat_lt, if◌then◌else◌}
use Rattle.std.proofs.lemmas.Bool.{ltb-false}
use Rattle.text_base.specs.Lines.{lines}
use Rattle.text_base.specs.LineRefusals.{card_refusals, too_large, line_refusals}
use Rattle.text_base.specs.declared.limits.TheConstants.{LARGEST_FILE}
use Rattle.text_base.specs.declared.refusal.Refusal.{Refusal}
use Rattle.std.proofs.Common.{None}
use Rattle.program77.specs.Tree.{SourceProgram}
use Rattle.definition_laws.proofs.TextLemmas.{one_report, cut_count}
use Rattle.definition_laws.proofs.texts.report_texts_tell_counts.Goals as goal

pub returns-clause-counts : goal.returns-clause-counts
returns-clause-counts c = one_report

-- a file that isn't refused has at most its limit
within_limit : (bytes : List ℕ) → card_refusals 0 bytes ≡ [] → length bytes ≤ LARGEST_FILE
within_limit bytes e = go (nat_lt LARGEST_FILE (length bytes)) refl e
  where
    go : (b : Bool) → nat_lt LARGEST_FILE (length bytes) ≡ b → ◌≡◌ {A = List Refusal} (if b then too_large 0 (length bytes) ∷ [] else line_refusals 0 1 None (lines bytes)) [] → length bytes ≤ LARGEST_FILE
    go true is f = absurd cc
    go false is f = ltb-false LARGEST_FILE (length bytes) is

pub returns-clause-small : goal.returns-clause-small
returns-clause-small c bytes p is =
    let one_unit = ap (λ (q : SourceProgram). length q.units) is.is_source.whole in
    record {
      units = omega (arith, one_unit);
      webs = omega arith;
      kept = omega arith;
      arrays = omega arith;
      cut = omega (arith, cut_count bytes, within_limit bytes is.is_source.accepted);
    }
