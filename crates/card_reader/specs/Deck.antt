-- What a file was read into: its statements and comments as the definitions list them, and what each line adds.
use Rattle.std.specs.Prelude.{ℕ, ◌+◌, true, false, not, ◌||◌, List, [], ◌∷◌, ◌++◌, drop, map, if◌then◌else◌}
use Rattle.text_base.specs.Lines.{is_comment, is_blank, is_marked, is_cut, is_initial, label_of, statement_field}
use Rattle.text_base.specs.Cards as source
use Rattle.text_base.specs.Kept.{kept}
use Rattle.text_base.specs.Remarks.{Remark}
use Rattle.text_base.specs.declared.refusal.Place.{Place}
use Rattle.card_reader.specs.declared.card.Card.{Card}

-- ---- what was read

-- the statements in order, each with the comments before its last line; the comments behind the last statement; and how
-- many lines are cut off at column 72
pub record Contents : Type 0 where
  pub statements : List Card
  pub tail : List Remark
  pub cut : ℕ

-- a statement with the marks of its characters, and without its comments
abbrev pub card_of : Card → source.Card
card_of card = record { label = card.label; text = card.text; kept = kept card.label card.text; place = card.place }

-- comments, each with the number of statements before it
abbrev pub numbered : ℕ → List Remark → List source.Comment
numbered before remarks = map (λ r. record { marked = r.marked; text = r.text; before = before }) remarks

-- the comments of some statements, before which so many others stand, and those behind them
abbrev pub card_comments : ℕ → List Card → List Remark → List source.Comment
card_comments before [] tail = numbered before tail
card_comments before (card ∷ cards) tail = numbered before card.comments ++ card_comments (before + 1) cards tail

-- the comments in order
abbrev pub deck_comments : Contents → List source.Comment
deck_comments deck = card_comments 0 deck.statements deck.tail

-- ---- what each line adds

-- nothing was read yet
abbrev pub empty_deck : Contents
empty_deck = record { statements = []; tail = []; cut = 0 }

-- A line as a comment: marked where it has a mark in column 1 or something after column 72, and then without its column 1.
abbrev pub line_remark_of : List ℕ → Remark
line_remark_of l = if is_marked l || not (is_blank l) then record { marked = true; text = drop 1 l } else record { marked = false; text = l }

-- the comment waits behind the statements, since it isn't known yet whether the last one goes on
abbrev pub with_comment : List ℕ → Contents → Contents
with_comment l deck = record deck { tail = deck.tail ++ line_remark_of l ∷ [] }

-- a statement begins, with the comments that wait
abbrev pub with_initial : Place → List ℕ → Contents → Contents
with_initial place l deck =
    record deck { statements = deck.statements ++ record { comments = deck.tail; label = label_of l; text = statement_field l; place = place } ∷ []; tail = [] }

-- a statement with one more line, and with the comments that wait
abbrev pub with_field : List Remark → List ℕ → Card → Card
with_field comments l card = record card { comments = card.comments ++ comments; text = card.text ++ statement_field l }

-- the last of some statements goes on
abbrev pub longer : List Remark → List ℕ → List Card → List Card
longer comments l [] = []
longer comments l (card ∷ []) = with_field comments l card ∷ []
longer comments l (card ∷ (next ∷ cards)) = card ∷ longer comments l (next ∷ cards)

-- the comments that still wait: all, where no statement has begun
abbrev pub waiting : List Card → List Remark → List Remark
waiting [] tail = tail
waiting (card ∷ cards) tail = []

-- the statement that was begun last goes on
abbrev pub with_continuation : List ℕ → Contents → Contents
with_continuation l deck = record deck { statements = longer deck.tail l deck.statements; tail = waiting deck.statements deck.tail }

-- a line of a statement is counted where it is cut off
abbrev pub with_cut : List ℕ → Contents → Contents
with_cut l deck = record deck { cut = deck.cut + (if is_cut l then 1 else 0) }

-- what was read after one more line
abbrev pub with_line : Place → List ℕ → Contents → Contents
with_line place l deck =
    if is_comment l then with_comment l deck
    else with_cut l (if is_initial l then with_initial place l deck else with_continuation l deck)

-- what was read after some more lines, of which the first has this number
abbrev pub with_lines : ℕ → ℕ → List (List ℕ) → Contents → Contents
with_lines file number [] deck = deck
with_lines file number (l ∷ ls) deck = with_lines file (number + 1) ls (with_line (record { file = file; line = number }) l deck)
