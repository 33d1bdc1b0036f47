-- When nothing is refused of the lines of a file, over the whole list of its lines and statements (X3.9 section 3).
use Rattle.std.specs.Prelude.{◌≡◌, ◌≢◌, ◌↔◌, ℕ, ◌+◌, ◌*◌, ◌<◌, ◌≤◌, true, false, ◌||◌, ◌==◌, IsTrue, List, [], ◌∷◌, length}
use Rattle.std.specs.List.{All, list_all, zip}
use Rattle.text_base.specs.Chars.{is_digit}
use Rattle.text_base.specs.Lines.{lines, is_blank, column_6, is_initial, label_field, label_of}
use Rattle.text_base.specs.Cards.{Card, statement_lines, grouped, cards}
use Rattle.text_base.specs.LineRefusals.{card_refusals}
use Rattle.text_base.specs.declared.limits.TheConstants.{LONGEST_LINE, MOST_CONTINUED, LARGEST_FILE}

-- a character that can stand in a statement: one from 32 to 126, or from 128 on in kept text
abbrev pub CanStand : ℕ → ℕ → Type 0
CanStand c mark = (32 ≤ c) × (c ≢ 127) × (127 < c → mark ≢ 0)

-- columns 1 to 5 of an initial line have digits and blanks alone, and blanks alone where the label is 0
abbrev pub HasLabel : List ℕ → Type 0
HasLabel l = IsTrue (list_all (λ c. c == 32 || is_digit c) (label_field l)) × (label_of l ≡ 0 → IsTrue (is_blank (label_field l)))

-- the first of some lines is an initial line
abbrev pub BeginInitial : List (ℕ × List ℕ) → Type 0
BeginInitial [] = Unit {0}
BeginInitial (p ∷ ps) = IsTrue (is_initial p.1)

-- the lines of the statements of a file, each with its number
abbrev pub lines_of_statements : List ℕ → List (ℕ × List ℕ)
lines_of_statements bytes = statement_lines 1 (lines bytes)

-- the lines of a file can be read
pub record AreAccepted (bytes : List ℕ) : Type 0 where
  -- the file isn't too large, and no line is too long
  pub size : length bytes ≤ LARGEST_FILE
  pub lengths : All (λ l. length l ≤ LONGEST_LINE) (lines bytes)
  -- each initial line has a label or blanks in columns 1 to 5, and each continuation line has blanks there
  pub labels : All (λ p. is_initial p.1 ≡ true → HasLabel p.1) (lines_of_statements bytes)
  pub blanks : All (λ p. is_initial p.1 ≡ false → IsTrue (is_blank (label_field p.1))) (lines_of_statements bytes)
  -- the first line of a statement is an initial line, and no statement has more than 99 continuation lines
  pub begun : BeginInitial (lines_of_statements bytes)
  pub continued : All (λ group. length group.1 ≤ MOST_CONTINUED) (grouped (lines_of_statements bytes))
  -- column 6 of each line, and each character of each statement, can stand there
  pub sixth : All (λ p. CanStand (column_6 p.1) 0) (lines_of_statements bytes)
  pub text : All (λ card. All (λ p. CanStand p.0 p.1) (zip card.text card.kept)) (cards 0 bytes)

-- Nothing is refused of the lines of a file exactly where they are accepted.
abbrev pub LinesAreAccepted : Type 0
LinesAreAccepted = (file : ℕ) (bytes : List ℕ) → (card_refusals file bytes ≡ []) ↔ AreAccepted bytes

-- a statement that can come from accepted lines: its label has five digits at most, its characters are from 32 on and not
-- 127, and it has 66 for each of at most 100 lines
pub record IsReadable (card : Card) : Type 0 where
  pub label : card.label ≤ 99999
  pub text : All (λ c. (32 ≤ c) × (c ≢ 127)) card.text
  pub size : length card.text ≤ (MOST_CONTINUED + 1) * 66

-- Where nothing is refused of the lines of a file, all its statements are such.
abbrev pub CardsAreReadable : Type 0
CardsAreReadable = (file : ℕ) (bytes : List ℕ) → card_refusals file bytes ≡ [] → All IsReadable (cards file bytes)
