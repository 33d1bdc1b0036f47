-- The comments of a file between its statements, over the numbers of its lines.
use Rattle.std.specs.Prelude.{ℕ, nat_lt, List, [], ◌∷◌, map, filter}
use Rattle.std.specs.List.{count_by, enumerate_from}
use Rattle.text_base.specs.Lines.{lines, is_comment}
use Rattle.text_base.specs.Cards.{statement_lines, grouped, Comment, comment_of}

-- the number of the last of some lines after a line with this number
abbrev pub last_of : ℕ → List (ℕ × List ℕ) → ℕ
last_of n [] = n
last_of n (p ∷ ps) = last_of p.0 ps

-- the number of the last line of a statement
abbrev pub last_line : (ℕ × List ℕ) × List (ℕ × List ℕ) → ℕ
last_line group = last_of group.0.0 group.1

-- each comment of a file with the number of statements whose last line stands before it
abbrev pub comments_by_lines : List ℕ → List Comment
comments_by_lines bytes = map (λ p. comment_of (count_by (λ g. nat_lt (last_line g) p.0) (grouped (statement_lines 1 (lines bytes)))) p.1) (filter (λ p. is_comment p.1) (enumerate_from 1 (lines bytes)))
