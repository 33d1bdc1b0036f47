-- The statements and the comments of a file, over the whole list of its lines (X3.9 section 3).
use Rattle.std.specs.Prelude.{ℕ, ◌+◌, ◌-◌, Bool, true, false, not, ◌||◌, List, [], ◌∷◌, ◌++◌, drop, map, filter, if◌then◌else◌}
use Rattle.std.specs.List.{enumerate_from, take_while, flat_map}
use Rattle.text_base.specs.Lines.{lines, is_blank, is_marked, is_comment, is_initial, label_of, statement_field}
use Rattle.text_base.specs.Kept.{kept}
use Rattle.text_base.specs.declared.refusal.Place.{Place}

-- ---- statements

-- a statement: its label, its characters with their marks, and its place
pub record Card : Type 0 where
  pub label : ℕ
  pub text : List ℕ
  pub kept : List ℕ
  pub place : Place

-- the lines that are no comments, each with its number, of which the first line has this one
abbrev pub statement_lines : ℕ → List (List ℕ) → List (ℕ × List ℕ)
statement_lines first ls = filter (λ p. not (is_comment p.1)) (enumerate_from first ls)

-- the lines of statements are grouped: each initial line with the continuation lines after it
abbrev pub grouped : List (ℕ × List ℕ) → List ((ℕ × List ℕ) × List (ℕ × List ℕ))
grouped [] = []
grouped (p ∷ ps) = if is_initial p.1 then (p, take_while (λ q. not (is_initial q.1)) ps) ∷ grouped ps else grouped ps

-- columns 7 to 72 of some lines
abbrev pub fields : List (ℕ × List ℕ) → List ℕ
fields ps = flat_map (λ p. statement_field p.1) ps

-- the statement of an initial line and its continuation lines
abbrev pub card_of : ℕ → (ℕ × List ℕ) × List (ℕ × List ℕ) → Card
card_of file group =
    let label = label_of group.0.1 in
    let text = statement_field group.0.1 ++ fields group.1 in
    record { label = label; text = text; kept = kept label text; place = record { file = file; line = group.0.0 } }

-- the statements among the lines, of which the first has this number
abbrev pub cards_of : ℕ → ℕ → List (List ℕ) → List Card
cards_of file first ls = map (card_of file) (grouped (statement_lines first ls))

-- the statements of a file in order
abbrev pub cards : ℕ → List ℕ → List Card
cards file bytes = cards_of file 1 (lines bytes)

-- ---- comments

-- a comment: whether it is marked, its text, and how many statements of the file stand before it, to their last lines
pub record Comment : Type 0 where
  pub marked : Bool
  pub text : List ℕ
  pub before : ℕ

-- A comment is marked where it has a mark in column 1 or something after column 72; its text is then what stands after
-- column 1. The text of a blank comment is the whole line.
abbrev pub comment_of : ℕ → List ℕ → Comment
comment_of before l = if is_marked l || not (is_blank l) then record { marked = true; text = drop 1 l; before = before } else record { marked = false; text = l; before = before }

-- the statement that was begun last goes on among the lines: their first line that is no comment is a continuation line
abbrev pub goes_on : List (List ℕ) → Bool
goes_on [] = false
goes_on (l ∷ ls) = if is_comment l then goes_on ls else not (is_initial l)

-- how many of the begun statements stand whole before the lines
abbrev pub whole_before : ℕ → List (List ℕ) → ℕ
whole_before begun ls = if goes_on ls then begun - 1 else begun

-- the comments among the lines, before which so many statements have begun
abbrev pub comments_of : ℕ → List (List ℕ) → List Comment
comments_of begun [] = []
comments_of begun (l ∷ ls) =
    if is_comment l then comment_of (whole_before begun ls) l ∷ comments_of begun ls
    else comments_of (if is_initial l then begun + 1 else begun) ls

-- the comments of a file in order
abbrev pub comments : List ℕ → List Comment
comments bytes = comments_of 0 (lines bytes)
