-- The comments of a file, by where they are written.
use Rattle.std.specs.Prelude.{◌≡◌, ℕ, zero, suc, ◌+◌, List, [], ◌∷◌, map}
use Rattle.text_base.specs.Cards.{Comment}
use Rattle.text_base.specs.Remarks.{Remark}
use Rattle.project_set.specs.Rewrite.{remark_of, comments_from, remarks_at}
use Rattle.project_set.specs.declared.comments.Comments.{Comments}

-- the comments before each of so many statements, of which the first has this number
abbrev pub groups_at : List Comment → ℕ → ℕ → List (List Remark)
groups_at cs k zero = []
groups_at cs k (suc count) = remarks_at cs k ∷ groups_at cs (k + 1) count

-- These are the comments of a unit with so many statements behind its header: before the header, right after it, before
-- each later statement, and after the last.
pub record ArePlaced (cs : List Comment) (count : ℕ) (placed : Comments) : Type 0 where
  pub head : placed.head ≡ remarks_at cs 0
  pub inner : placed.inner ≡ remarks_at cs 1
  pub before : placed.before ≡ groups_at (comments_from cs 2) 1 count
  pub tail : placed.tail ≡ map remark_of (comments_from cs (count + 1))
