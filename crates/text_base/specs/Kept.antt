-- Kept text: the characters of a statement that are read as they stand. They are those of character constants (X3.9
-- section 4.8) and, in a FORMAT, those of the nH edit descriptor (X3.9 section 13.5.2).
use Rattle.std.specs.Prelude.{◌≡◌, ◌≢◌, ◌⊎◌, ℕ, ◌+◌, ◌*◌, ◌-◌, ◌≤◌, Bool, true, false, not, ◌&&◌, ◌||◌, ◌==◌, min, nat_lt, List, [], ◌∷◌, ◌++◌, length, take, map, filter, replicate, reverse, slice_index, codes, Option, Some, None, if◌then◌else◌}
use Rattle.std.specs.List.{list_all, take_while, zip}
use Rattle.std.specs.Str.{bytes_eq}
use Rattle.std.specs.Str.Parse.{digits_value}
use Rattle.text_base.specs.Chars.{is_digit, to_upper, without_blanks, characters}
use Rattle.text_base.specs.declared.limits.TheConstants.{GREATEST_COUNT}

-- ---- by pieces

-- a statement is a FORMAT where it has a label and its characters begin with `FORMAT(` (X3.9 section 13.1)
abbrev pub is_format : ℕ → List ℕ → Bool
is_format label text = not (label == 0) && bytes_eq (take 7 (characters text)) (codes "FORMAT(")

-- H, in either case
abbrev pub is_h : ℕ → Bool
is_h c = c == 72 || c == 104

-- the digits that stand last in a text, blanks left out
abbrev pub last_digits : List ℕ → List ℕ
last_digits text = reverse (take_while is_digit (reverse (without_blanks text)))

-- how many characters an nH text has: what the digits before its H stand for, and no more than the greatest count
abbrev pub count_before : List ℕ → ℕ
count_before text = min (digits_value 10 (last_digits text)) GREATEST_COUNT

-- Text in which no kept text begins: it has no apostrophe and, in a FORMAT, no H right after a digit, blanks left out.
pub record IsPlain (format : Bool) (text : List ℕ) : Type 0 where
  pub no_apostrophe : list_all (λ c. not (c == 39)) text ≡ true
  pub no_count : (before after : List ℕ) (h : ℕ) → format ≡ true → is_h h ≡ true → text ≡ before ++ h ∷ after → last_digits before ≡ []

-- what stands between the apostrophes of a constant: an apostrophe in it is doubled
pub data IsInside : List ℕ → Type 0 where
  inside_nothing : {text : List ℕ} → text ≡ [] → IsInside text
  inside_other : {text : List ℕ} {c : ℕ} {more : List ℕ} → text ≡ c ∷ more → c ≢ 39 → IsInside more → IsInside text
  inside_doubled : {text : List ℕ} {more : List ℕ} → text ≡ 39 ∷ 39 ∷ more → IsInside more → IsInside text

abbrev pub nothing_kept : List ℕ → List ℕ
nothing_kept text = replicate (length text) 0

abbrev pub all_kept : List ℕ → List ℕ
all_kept text = replicate (length text) 1

-- A text with its marks, 1 for each character of kept text and 0 for each other. It is cut into plain text and kept
-- text in turn.
pub data IsMarked (format : Bool) : List ℕ → List ℕ → Type 0 where
  -- plain text to the end
  marked_plain : {text marks : List ℕ} → IsPlain format text → marks ≡ nothing_kept text → IsMarked format text marks
  -- plain text, and a character constant that ends at the next apostrophe that isn't doubled
  marked_constant : {text marks rest more : List ℕ} (plain inside : List ℕ) → IsPlain format plain → IsInside inside → slice_index rest 0 ≢ 39
      → text ≡ plain ++ 39 ∷ (inside ++ 39 ∷ rest) → IsMarked format rest more
      → marks ≡ nothing_kept plain ++ 1 ∷ (all_kept inside ++ 1 ∷ more) → IsMarked format text marks
  -- plain text, and a character constant that doesn't end
  marked_open : {text marks : List ℕ} (plain inside : List ℕ) → IsPlain format plain → IsInside inside
      → text ≡ plain ++ 39 ∷ inside → marks ≡ nothing_kept plain ++ 1 ∷ all_kept inside → IsMarked format text marks
  -- in a FORMAT, plain text that ends with digits, H, and as many characters as the digits say, or as there are
  marked_count : {text marks rest more : List ℕ} (plain : List ℕ) (h : ℕ) (inside : List ℕ) → format ≡ true → IsPlain format plain → last_digits plain ≢ [] → is_h h ≡ true
      → (length inside ≡ count_before plain) ⊎ ((length inside ≤ count_before plain) × (rest ≡ []))
      → text ≡ plain ++ h ∷ (inside ++ rest) → IsMarked format rest more
      → marks ≡ nothing_kept plain ++ 0 ∷ (all_kept inside ++ more) → IsMarked format text marks

-- ---- as a function

-- What the characters of a statement so far say of those that follow: how many of the characters of `FORMAT(` it begins
-- with, 8 where it begins otherwise or has no label; whether a character constant is open; how many characters of an nH
-- text are still to come; and the number that stands last, if there is one.
pub record Scan : Type 0 where
  pub matched : ℕ
  pub inside : Bool
  pub left : ℕ
  pub count : Option ℕ

-- before the first character of a statement with this label
abbrev pub scan_start : ℕ → Scan
scan_start label = record { matched = if label == 0 then 8 else 0; inside = false; left = 0; count = None }

-- a number with one more digit; a statement has fewer characters than the greatest number here
abbrev pub more_count : Option ℕ → ℕ → Option ℕ
more_count None c = Some (c - 48)
more_count (Some n) c = Some (min (10 * n + (c - 48)) GREATEST_COUNT)

-- how many characters of `FORMAT(` the statement begins with, after one more that isn't blank
abbrev pub more_matched : ℕ → ℕ → ℕ
more_matched k c = if nat_lt k 7 && slice_index (codes "FORMAT(") k == to_upper c then k + 1 else (if k == 7 then 7 else 8)

-- the characters that the H after a number keeps
abbrev pub count_or_none : Option ℕ → ℕ
count_or_none None = 0
count_or_none (Some n) = n

-- after a character of plain text that is no apostrophe and no blank
abbrev pub scan_plain : Scan → ℕ → Scan
scan_plain s c =
    if is_digit c then record s { matched = more_matched s.matched c; count = more_count s.count c }
    else (if s.matched == 7 && is_h c then record s { left = count_or_none s.count; count = None }
    else record s { matched = more_matched s.matched c; count = None })

-- the mark of a character: 1 where it belongs to kept text
abbrev pub mark_of : Scan → ℕ → ℕ
mark_of s c = if s.inside || (not (s.left == 0) || c == 39) then 1 else 0

-- after one more character
abbrev pub scan_after : Scan → ℕ → Scan
scan_after s c =
    if s.inside then record s { inside = not (c == 39) }
    else (if not (s.left == 0) then record s { left = s.left - 1 }
    else (if c == 39 then record s { matched = more_matched s.matched c; inside = true; count = None }
    else (if c == 32 then s else scan_plain s c)))

-- the marks of more characters, and what they say of those that follow
abbrev pub marks_from : Scan → List ℕ → List ℕ
marks_from s [] = []
marks_from s (c ∷ t) = mark_of s c ∷ marks_from (scan_after s c) t

abbrev pub scan_all : Scan → List ℕ → Scan
scan_all s [] = s
scan_all s (c ∷ t) = scan_all (scan_after s c) t

-- the marks of a statement with this label
abbrev pub kept : ℕ → List ℕ → List ℕ
kept label text = marks_from (scan_start label) text

-- ---- characters

-- The characters of a statement as they are read: blanks outside kept text don't count, and lower-case letters outside
-- it are read as upper case (X3.9 section 3.1.6).
abbrev pub read_characters : List ℕ → List ℕ → List ℕ
read_characters text marks = map (λ p. if p.1 == 1 then p.0 else to_upper p.0) (filter (λ p. p.1 == 1 || not (p.0 == 32)) (zip text marks))
