-- What is written for a source has its skeleton.
use Rattle.std.proofs.Common.{◌≡◌, ℕ, ◌+◌, List, [], ◌∷◌, ◌++◌, refl, sym, ap, subst}
use Rattle.text_base.specs.Cards.{Comment, comments}
use Rattle.text_base.specs.Remarks.{Remark}
use Rattle.program77.specs.Tree as source
use Rattle.program77.specs.Tree.{SourceUnit, SourceProgram}
use Rattle.program77.specs.Plain.{source_unit}
use Rattle.program77.specs.Source.{IsSource}
use Rattle.project_set.specs.Rewrite.{comments_from, remarks_at, written_list, written}
use Rattle.project_set.specs.Skeleton.{Entry, ended, action_entry, code_entries, free_entries, source_skeletons, written_skeletons}
use Rattle.project_set.proofs.Placing.{one_unit}

list_entries : (cs : List Comment) (k : ℕ) (left : List Remark) (c : source.Code) → code_entries c ≡ free_entries (written_list cs k left c).0
list_entries cs k left source.done = refl
list_entries cs k left (source.item label here (source.simple a) rest) = ap (λ (es : List Entry). action_entry a ∷ es) (list_entries cs (k + 1) [] rest)
list_entries cs k left (source.item label here source.continue rest) = list_entries cs (k + 1) (left ++ remarks_at cs k) rest

unit_skeletons : (cs : List Comment) (u : SourceUnit) → source_skeletons (one_unit u) ≡ written_skeletons (written cs (one_unit u))
unit_skeletons cs u = ap (λ (es : List Entry). (es ++ ended ∷ []) ∷ []) (list_entries (comments_from cs 2) 1 [] u.code)

pub skeletons_kept : (bytes : List ℕ) (p : SourceProgram) → IsSource 0 bytes p → source_skeletons p ≡ written_skeletons (written (comments bytes) p)
skeletons_kept bytes p s =
    subst (λ (q : SourceProgram). source_skeletons q ≡ written_skeletons (written (comments bytes) q)) (sym s.whole) (unit_skeletons (comments bytes) (source_unit s.unit))
