use Rattle.std.proofs.Common.{◌≡◌, ℕ, ◌+◌, List, ◌++◌, length, drop, reverse}
use Rattle.text_base.specs.Cards.{Comment}
use Rattle.program77.specs.Plain as source
use Rattle.unit77.specs.Views.{items_of}
use Rattle.project_set.specs.Comments.{groups_at}
use Rattle.project_set.specs.Rewrite.{remarks_at}
use Rattle.project_set.proofs.RewriteLemmas.{IsWritten}
use Rattle.project_set.proofs.rewrite.rewritten_items.Given as goal

-- the items that are left, each with its comments, stand before those that were taken, and what is made of these is what is
-- written for them
abbrev pub invariant-loop-item : goal.invariant-loop-item
invariant-loop-item l = record {
  counted : length l.comments ≡ length l.items;
  all : l.items ++ drop (length l.items) l.fn.items ≡ l.fn.items;
  before : (cs : List Comment) (k : ℕ) → l.fn.comments ≡ groups_at cs k (length l.fn.items) → l.comments ≡ groups_at cs k (length l.items);
  written : (cs : List Comment) (k : ℕ) → l.fn.comments ≡ groups_at cs k (length l.fn.items)
      → IsWritten cs (k + length l.items) (reverse l.made.items) (remarks_at cs (k + length l.fn.items)) (source.code_of (items_of (drop (length l.items) l.fn.items)));
}

abbrev pub decreases-loop-item : goal.decreases-loop-item
decreases-loop-item l = length l.items
