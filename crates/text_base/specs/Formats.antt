-- Formats (X3.9 section 13): their trees, and the texts that spell them.
use Rattle.std.specs.Prelude.{◌≡◌, ◌≢◌, ◌⊎◌, ℕ, ◌+◌, ◌-◌, ◌≤◌, Bool, true, false, not, ◌&&◌, ◌||◌, ◌==◌, nat_lt, List, [], ◌∷◌, ◌++◌, length, map, filter, codes, Option, Some, None, if◌then◌else◌, slice_get}
use Rattle.std.specs.List.{list_all}
use Rattle.std.specs.Str.Parse.{digits_value}
use Rattle.text_base.specs.Chars.{is_digit}
use Rattle.text_base.specs.Pieces.{Piece, plain, whole, IsPieces}
use Rattle.text_base.specs.declared.limits.TheConstants.{DEEPEST_NESTING}

-- ---- trees

-- a descriptor or a text; a number that says how often it stands is 1 where none is written
pub data FormatEdit : Type 0 where
  -- rIw and rIw.m (X3.9 section 13.5.9.1): how often, the width, and the least number of digits where it is written
  integers : ℕ → ℕ → Option ℕ → FormatEdit
  -- rLw (X3.9 section 13.5.10): how often, and the width
  logicals : ℕ → ℕ → FormatEdit
  -- rA and rAw (X3.9 section 13.5.11): how often, and the width where it is written
  texts : ℕ → Option ℕ → FormatEdit
  -- nX (X3.9 section 13.5.3.2): how many
  blanks : ℕ → FormatEdit
  -- an apostrophe text or an nH text (X3.9 sections 13.5.1 and 13.5.2): the characters that it stands for
  text : List ℕ → FormatEdit

mutual
  -- an item of a format (X3.9 section 13.2)
  pub data FormatItem : Type 0 where
    edit : FormatEdit → FormatItem
    -- `/` (X3.9 section 13.5.4)
    record_end : FormatItem
    -- items in parentheses, and how often they stand (X3.9 section 13.3)
    group : ℕ → FormatItems → FormatItem

  pub data FormatItems : Type 0 where
    none : FormatItems
    more : FormatItem → FormatItems → FormatItems

-- a list of items as a tree
abbrev pub items_of : List FormatItem → FormatItems
items_of [] = none
items_of (x ∷ xs) = more x (items_of xs)

-- ---- lexemes

pub data FormatLexeme : Type 0 where
  -- a descriptor or a text
  descriptor : FormatEdit → FormatLexeme
  slash : FormatLexeme
  -- a parenthesis that opens, and how often its group stands
  opening : ℕ → FormatLexeme
  closing : FormatLexeme
  comma : FormatLexeme
  -- a colon (X3.9 section 13.5.5), a scale factor kP (X3.9 section 13.5.7) and other descriptors, which are refused
  colon : FormatLexeme
  scale : FormatLexeme
  other : FormatLexeme

-- digits, at least one
abbrev pub is_unsigned : List ℕ → Bool
is_unsigned [] = false
is_unsigned (c ∷ t) = list_all is_digit (c ∷ t)

-- a number of a format has a greatest value
abbrev pub GREATEST_IN_FORMAT : ℕ
GREATEST_IN_FORMAT = 9999

-- digits that stand for a number from a least one on; zeros before it don't count
pub record IsNumber (least : ℕ) (digits : List ℕ) (n : ℕ) : Type 0 where
  pub numeric : is_unsigned digits ≡ true
  pub value : n ≡ digits_value 10 digits
  pub from : least ≤ n
  pub to : n ≤ GREATEST_IN_FORMAT

-- how often an item stands: once where no number is written
abbrev pub IsCount : List ℕ → ℕ → Type 0
IsCount digits n = ((digits ≡ []) × (n ≡ 1)) ⊎ IsNumber 1 digits n

-- characters with each apostrophe doubled (X3.9 section 4.8.1)
abbrev pub doubled : List ℕ → List ℕ
doubled [] = []
doubled (c ∷ t) = if c == 39 then 39 ∷ 39 ∷ doubled t else c ∷ doubled t

-- the characters with their apostrophes
abbrev pub quoted : List ℕ → List ℕ
quoted value = 39 ∷ (doubled value ++ 39 ∷ [])

-- ---- descriptors that are refused

-- nothing, or digits, which may have a sign
pub data IsScale : List ℕ → Type 0 where
  scale_none : {text : List ℕ} → text ≡ [] → IsScale text
  scale_digits : {text : List ℕ} → is_unsigned text ≡ true → IsScale text
  scale_signed : {text digits : List ℕ} (sign : ℕ) → text ≡ sign ∷ digits → (sign ≡ 43) ⊎ (sign ≡ 45) → is_unsigned digits ≡ true → IsScale text

-- nothing, or digits, behind which a point and digits may stand, and behind these E and digits
pub data IsWidths : List ℕ → Type 0 where
  widths_none : {text : List ℕ} → text ≡ [] → IsWidths text
  widths_width : {text : List ℕ} → is_unsigned text ≡ true → IsWidths text
  widths_point : {text : List ℕ} (width digits : List ℕ) → text ≡ width ++ 46 ∷ digits → is_unsigned width ≡ true → is_unsigned digits ≡ true → IsWidths text
  widths_exponent : {text : List ℕ} (width digits exponent : List ℕ) → text ≡ width ++ 46 ∷ (digits ++ 69 ∷ exponent) → is_unsigned width ≡ true → is_unsigned digits ≡ true
      → is_unsigned exponent ≡ true → IsWidths text

-- a descriptor of these letters
pub record IsOther (letters : List ℕ) (text : List ℕ) : Type 0 where
  pub before : List ℕ
  pub behind : List ℕ
  pub whole : text ≡ before ++ (letters ++ behind)
  pub scaled : IsScale before
  pub sized : IsWidths behind

-- E, F, D, G (X3.9 section 13.5.9.2), T, TL, TR (X3.9 section 13.5.3.1), S, SP, SS (X3.9 section 13.5.6), BN, BZ (X3.9 section
-- 13.5.8)
pub data AreLetters : List ℕ → Type 0 where
  letters_e : {text : List ℕ} → text ≡ codes "E" → AreLetters text
  letters_f : {text : List ℕ} → text ≡ codes "F" → AreLetters text
  letters_d : {text : List ℕ} → text ≡ codes "D" → AreLetters text
  letters_g : {text : List ℕ} → text ≡ codes "G" → AreLetters text
  letters_t : {text : List ℕ} → text ≡ codes "T" → AreLetters text
  letters_tl : {text : List ℕ} → text ≡ codes "TL" → AreLetters text
  letters_tr : {text : List ℕ} → text ≡ codes "TR" → AreLetters text
  letters_s : {text : List ℕ} → text ≡ codes "S" → AreLetters text
  letters_sp : {text : List ℕ} → text ≡ codes "SP" → AreLetters text
  letters_ss : {text : List ℕ} → text ≡ codes "SS" → AreLetters text
  letters_bn : {text : List ℕ} → text ≡ codes "BN" → AreLetters text
  letters_bz : {text : List ℕ} → text ≡ codes "BZ" → AreLetters text

-- ---- the spelling of lexemes

-- characters outside kept text, or one kept text
pub data IsFormatLexeme : List Piece → FormatLexeme → Type 0 where
  lexeme_integers : {pieces : List Piece} {i : FormatLexeme} (count width : List ℕ) (r w : ℕ) → pieces ≡ map plain (count ++ 73 ∷ width) → IsCount count r → IsNumber 1 width w
      → i ≡ descriptor (integers r w None) → IsFormatLexeme pieces i
  lexeme_least : {pieces : List Piece} {i : FormatLexeme} (count width digits : List ℕ) (r w m : ℕ) → pieces ≡ map plain (count ++ 73 ∷ (width ++ 46 ∷ digits)) → IsCount count r → IsNumber 1 width w
      → IsNumber 0 digits m → m ≤ w → i ≡ descriptor (integers r w (Some m)) → IsFormatLexeme pieces i
  lexeme_logicals : {pieces : List Piece} {i : FormatLexeme} (count width : List ℕ) (r w : ℕ) → pieces ≡ map plain (count ++ 76 ∷ width) → IsCount count r → IsNumber 1 width w
      → i ≡ descriptor (logicals r w) → IsFormatLexeme pieces i
  lexeme_texts : {pieces : List Piece} {i : FormatLexeme} (count : List ℕ) (r : ℕ) → pieces ≡ map plain (count ++ 65 ∷ []) → IsCount count r → i ≡ descriptor (texts r None) → IsFormatLexeme pieces i
  lexeme_width : {pieces : List Piece} {i : FormatLexeme} (count width : List ℕ) (r w : ℕ) → pieces ≡ map plain (count ++ 65 ∷ width) → IsCount count r → IsNumber 1 width w
      → i ≡ descriptor (texts r (Some w)) → IsFormatLexeme pieces i
  lexeme_blanks : {pieces : List Piece} {i : FormatLexeme} (count : List ℕ) (n : ℕ) → pieces ≡ map plain (count ++ 88 ∷ []) → IsNumber 1 count n → i ≡ descriptor (blanks n) → IsFormatLexeme pieces i
  lexeme_quoted : {pieces : List Piece} {i : FormatLexeme} (value : List ℕ) → pieces ≡ whole (quoted value) ∷ [] → value ≢ [] → i ≡ descriptor (text value) → IsFormatLexeme pieces i
  lexeme_counted : {pieces : List Piece} {i : FormatLexeme} (count value : List ℕ) → pieces ≡ map plain (count ++ 72 ∷ []) ++ whole value ∷ [] → IsNumber 1 count (length value) → i ≡ descriptor (text value)
      → IsFormatLexeme pieces i
  lexeme_slash : {pieces : List Piece} {i : FormatLexeme} → pieces ≡ map plain (codes "/") → i ≡ slash → IsFormatLexeme pieces i
  lexeme_opening : {pieces : List Piece} {i : FormatLexeme} (count : List ℕ) (r : ℕ) → pieces ≡ map plain (count ++ 40 ∷ []) → IsCount count r → i ≡ opening r → IsFormatLexeme pieces i
  lexeme_closing : {pieces : List Piece} {i : FormatLexeme} → pieces ≡ map plain (codes ")") → i ≡ closing → IsFormatLexeme pieces i
  lexeme_comma : {pieces : List Piece} {i : FormatLexeme} → pieces ≡ map plain (codes ",") → i ≡ comma → IsFormatLexeme pieces i
  lexeme_colon : {pieces : List Piece} {i : FormatLexeme} → pieces ≡ map plain (codes ":") → i ≡ colon → IsFormatLexeme pieces i
  lexeme_scale : {pieces : List Piece} {i : FormatLexeme} (written : List ℕ) → pieces ≡ map plain written → IsOther (codes "P") written → i ≡ scale → IsFormatLexeme pieces i
  lexeme_other : {pieces : List Piece} {i : FormatLexeme} (letters written : List ℕ) → pieces ≡ map plain written → AreLetters letters → IsOther letters written → i ≡ other → IsFormatLexeme pieces i

-- a digit begins the pieces, or ends them
abbrev pub is_digit_piece : Piece → Bool
is_digit_piece (plain c) = is_digit c
is_digit_piece _ = false

abbrev pub begins_in_digit : List Piece → Bool
begins_in_digit [] = false
begins_in_digit (p ∷ ps) = is_digit_piece p

abbrev pub ends_in_digit : List Piece → Bool
ends_in_digit [] = false
ends_in_digit (p ∷ []) = is_digit_piece p
ends_in_digit (p ∷ q ∷ ps) = ends_in_digit (q ∷ ps)

-- no number is cut between the pieces and those behind them: it has all digits that stand together
pub record IsUncut (first rest : List Piece) : Type 0 where
  pub apart : (ends_in_digit first && begins_in_digit rest) ≡ false

-- the pieces spell the lexemes, one after another
pub data AreFormatLexemes : List Piece → List FormatLexeme → Type 0 where
  lexemes_none : {pieces : List Piece} {lexemes : List FormatLexeme} → pieces ≡ [] → lexemes ≡ [] → AreFormatLexemes pieces lexemes
  lexemes_more : {pieces : List Piece} {lexemes : List FormatLexeme} (first rest : List Piece) (i : FormatLexeme) (others : List FormatLexeme) → pieces ≡ first ++ rest → IsFormatLexeme first i → IsUncut first rest
      → AreFormatLexemes rest others → lexemes ≡ i ∷ others → AreFormatLexemes pieces lexemes

-- ---- commas

-- an item begins with it
abbrev pub begins_item : FormatLexeme → Bool
begins_item closing = false
begins_item comma = false
begins_item _ = true

-- an item ends with it
abbrev pub ends_item : FormatLexeme → Bool
ends_item (opening n) = false
ends_item comma = false
ends_item _ = true

-- a comma before it may be left out
abbrev pub is_free_before : FormatLexeme → Bool
is_free_before slash = true
is_free_before colon = true
is_free_before _ = false

-- a comma behind it may be left out
abbrev pub is_free_behind : FormatLexeme → Bool
is_free_behind scale = true
is_free_behind i = is_free_before i

-- One lexeme may stand behind another: behind an item a comma, a closing parenthesis, or an item where the comma between them
-- may be left out; behind a comma or an opening parenthesis an item.
abbrev pub may_follow : FormatLexeme → FormatLexeme → Bool
may_follow i j = if ends_item i then not (begins_item j) || (is_free_behind i || is_free_before j) else begins_item j

-- each lexeme may stand behind the one before it, and an item ends with the last
abbrev pub are_separated : FormatLexeme → List FormatLexeme → Bool
are_separated i [] = ends_item i
are_separated i (j ∷ js) = may_follow i j && are_separated j js

-- a list of items between parentheses, which may be empty
abbrev pub is_list : List FormatLexeme → Bool
is_list [] = true
is_list (i ∷ is) = are_separated (opening 1) (i ∷ is)

-- ---- the tree

-- the lexemes of items, without commas
abbrev mutual
  pub item_lexemes : FormatItem → List FormatLexeme
  item_lexemes record_end = slash ∷ []
  item_lexemes (group r items) = opening r ∷ (items_lexemes items ++ closing ∷ [])
  item_lexemes (edit d) = descriptor d ∷ []

  pub items_lexemes : FormatItems → List FormatLexeme
  items_lexemes none = []
  items_lexemes (more item items) = item_lexemes item ++ items_lexemes items

-- what a lexeme stands for in the tree: a refused one for `/`, which is an item wherever it stands
abbrev pub in_tree : FormatLexeme → FormatLexeme
in_tree colon = slash
in_tree scale = slash
in_tree other = slash
in_tree i = i

abbrev pub is_comma : FormatLexeme → Bool
is_comma comma = true
is_comma _ = false

-- what the lexemes stand for, without commas
abbrev pub in_trees : List FormatLexeme → List FormatLexeme
in_trees lexemes = map in_tree (filter (λ i. not (is_comma i)) lexemes)

-- ---- parts that are refused

-- the word that the refusal of a lexeme shows, where so many parentheses are open before it
abbrev pub refused_word : ℕ → FormatLexeme → List (List ℕ)
refused_word depth (opening r) = if nat_lt depth DEEPEST_NESTING then [] else codes "DEPTH" ∷ []
refused_word depth colon = codes "EDIT" ∷ []
refused_word depth scale = codes "EDIT" ∷ []
refused_word depth other = codes "EDIT" ∷ []
refused_word depth _ = []

-- how many parentheses are open behind a lexeme
abbrev pub depth_behind : ℕ → FormatLexeme → ℕ
depth_behind depth (opening r) = depth + 1
depth_behind depth closing = depth - 1
depth_behind depth _ = depth

-- the words from left to right
abbrev pub refused_words : ℕ → List FormatLexeme → List (List ℕ)
refused_words depth [] = []
refused_words depth (i ∷ is) = refused_word depth i ++ refused_words (depth_behind depth i) is

-- ---- formats

-- The pieces spell a format, in which each refused part stands for an item.
pub record IsWideFormat (pieces : List Piece) (lexemes : List FormatLexeme) (items : FormatItems) : Type 0 where
  pub inside : List Piece
  pub enclosed : pieces ≡ plain 40 ∷ (inside ++ plain 41 ∷ [])
  pub spelled : AreFormatLexemes inside lexemes
  pub separated : is_list lexemes ≡ true
  pub nested : items_lexemes items ≡ in_trees lexemes

-- the pieces spell the format, where so many parentheses are open before them, and no part of it is refused
pub record SpellsFormat (depth : ℕ) (pieces : List Piece) (items : FormatItems) : Type 0 where
  pub lexemes : List FormatLexeme
  pub wide : IsWideFormat pieces lexemes items
  pub accepted : refused_words depth (opening 1 ∷ lexemes) ≡ []

-- A part of the format is refused, with this word. All such parts have one cause, so the first counts.
pub record IsRefusedFormat (depth : ℕ) (pieces : List Piece) (word : List ℕ) : Type 0 where
  pub lexemes : List FormatLexeme
  pub items : FormatItems
  pub wide : IsWideFormat pieces lexemes items
  pub first : slice_get (refused_words depth (opening 1 ∷ lexemes)) 0 ≡ Some word

-- the pieces spell no format, refused or not
abbrev pub SpellsNoFormat : List Piece → Type 0
SpellsNoFormat pieces = (lexemes : List FormatLexeme) (items : FormatItems) → IsWideFormat pieces lexemes items → ⊥

-- the characters of a character constant are a format (X3.9 section 13.1.2): they are cut into pieces as a FORMAT's
abbrev pub SpellsFormatText : ℕ → List ℕ → FormatItems → Type 0
SpellsFormatText depth characters items = (pieces : List Piece) × IsPieces true characters pieces × SpellsFormat depth pieces items

abbrev pub IsRefusedFormatText : ℕ → List ℕ → List ℕ → Type 0
IsRefusedFormatText depth characters word = (pieces : List Piece) × IsPieces true characters pieces × IsRefusedFormat depth pieces word

-- the characters are no format, refused or not
abbrev pub SpellsNoFormatText : List ℕ → Type 0
SpellsNoFormatText characters = (pieces : List Piece) → IsPieces true characters pieces → SpellsNoFormat pieces
