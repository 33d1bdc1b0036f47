-- Forms of statements, and the pieces that have such a form: a form is a value, and one relation says what it means.
use Rattle.std.specs.Prelude.{◌≡◌, ◌≢◌, ◌⊎◌, ℕ, ◌+◌, ◌==◌, Bool, true, false, ◌&&◌, ◌||◌, List, [], ◌∷◌, ◌++◌, map, take, Option, Some, None, if◌then◌else◌}
use Rattle.std.specs.List.{list_any}
use Rattle.std.specs.Str.{bytes_eq}
use Rattle.text_base.specs.Chars.{is_upper, is_digit, is_name_byte}
use Rattle.text_base.specs.Formats as format
use Rattle.text_base.specs.Formats.{FormatItems, SpellsFormatText, IsRefusedFormat, IsRefusedFormatText, quoted}
use Rattle.text_base.specs.Pieces.{Piece, plain, whole, broken}
use Rattle.text_base.specs.Trees.{Expr}
use Rattle.text_base.specs.declared.limits.TheConstants.{LONGEST_NAME}
use Rattle.text_base.specs.declared.refusal.Cause.TheVariants.{Unsupported}
use Rattle.tree77.specs.Kinds.{is_word, is_number, open_after}
use Rattle.tree77.specs.Tokens.{is_mark}
use Rattle.tree77.specs.Lexemes as lexeme
use Rattle.tree77.specs.Lexemes.{Lexeme, Part, part_of, parts_from, decimal, is_small, is_label, IsWideExpression}

-- ---- what stands first

-- The sort of a character: 65 for letters, 48 for digits, 39 for kept text, a mark itself, 1 for others; 0 is the end.
abbrev pub sort_of : ℕ → ℕ
sort_of c = if is_upper c then 65 else (if is_digit c then 48 else (if is_mark c then c else 1))

abbrev pub first_sort : List Piece → ℕ
first_sort [] = 0
first_sort (plain c ∷ rest) = sort_of c
first_sort (whole t ∷ rest) = 39
first_sort (broken t ∷ rest) = 1

abbrev pub is_in : List ℕ → ℕ → Bool
is_in ks k = list_any (λ n. k == n) ks

-- the first characters outside kept text that pass, and what is left behind them
abbrev pub passing : (ℕ → Bool) → List Piece → List ℕ × List Piece
passing test [] = ([], [])
passing test (plain c ∷ rest) = if test c then (c ∷ (passing test rest).0, (passing test rest).1) else ([], plain c ∷ rest)
passing test (whole t ∷ rest) = ([], whole t ∷ rest)
passing test (broken t ∷ rest) = ([], broken t ∷ rest)

-- the letters, digits and underscores that stand first, where the first is a letter
abbrev pub first_text : List Piece → List ℕ
first_text [] = []
first_text (plain c ∷ rest) = if is_upper c then c ∷ (passing is_name_byte rest).0 else []
first_text (whole t ∷ rest) = []
first_text (broken t ∷ rest) = []

-- what is left behind these, behind the digits, the kept text or the single character that stand first
abbrev pub behind_first : List Piece → List Piece
behind_first [] = []
behind_first (plain c ∷ rest) = if is_upper c then (passing is_name_byte rest).1 else (if is_digit c then (passing is_digit rest).1 else rest)
behind_first (whole t ∷ rest) = rest
behind_first (broken t ∷ rest) = rest

-- what is left behind the parenthesis with which none of so many is open any more
abbrev pub behind_group : ℕ → List Piece → List Piece
behind_group n [] = []
behind_group n (plain c ∷ rest) = if open_after n c == 0 then rest else behind_group (open_after n c) rest
behind_group n (whole t ∷ rest) = behind_group n rest
behind_group n (broken t ∷ rest) = behind_group n rest

-- an equals sign stands in the first parentheses and in no inner ones, where so many are open
abbrev pub equals_inside : ℕ → List Piece → Bool
equals_inside n [] = false
equals_inside n (plain c ∷ rest) = if open_after n c == 0 then false else ((n == 1 && c == 61) || equals_inside (open_after n c) rest)
equals_inside n (whole t ∷ rest) = equals_inside n rest
equals_inside n (broken t ∷ rest) = equals_inside n rest

-- a look at what is left, by which two forms are told
pub data Look : Type 0 where
  -- one of these sorts stands first
  one : List ℕ → Look
  -- this sort stands first, and one of these stands behind
  two : ℕ → List ℕ → Look
  -- these three sorts stand first
  three : ℕ → ℕ → ℕ → Look
  -- these letters stand first, and one of these sorts behind
  text : List ℕ → List ℕ → Look
  -- parentheses stand first, and one of these sorts behind the partner of the first
  group : List ℕ → Look
  -- parentheses stand first, and an equals sign in them and in no inner ones
  equated : Look

abbrev pub ahead : Look → List Piece → Bool
ahead (one ks) u = is_in ks (first_sort u)
ahead (two k ks) u = first_sort u == k && is_in ks (first_sort (behind_first u))
ahead (three a b c) u = first_sort u == a && (first_sort (behind_first u) == b && first_sort (behind_first (behind_first u)) == c)
ahead (text w ks) u = bytes_eq (first_text u) w && is_in ks (first_sort (behind_first u))
ahead (group ks) u = first_sort u == 40 && is_in ks (first_sort (behind_group 0 u))
ahead equated u = first_sort u == 40 && equals_inside 0 u

-- ---- forms

-- what a statement or a part of one consists of; A is what it stands for
pub data Form : Type 0 → Type 1 where
  -- no characters
  nothing : {A : Type 0} → A → Form A
  mark : ℕ → Form (Unit {0})
  -- these letters, behind which no other stand
  word : List ℕ → Form (Unit {0})
  -- a name of any length
  name : Form (List ℕ)
  label : Form ℕ
  -- digits as they are written
  numeral : Form (List ℕ)
  -- an integer constant of any length
  number : Form ℕ
  -- a character constant that is a format, with its characters
  format_text : Form (List ℕ × FormatItems)
  -- An expression that none of these marks stands in, but in parentheses. True: what stands in its outermost parentheses is no
  -- `*label`, since these are of subscripts.
  portion : Bool → List ℕ → Form Expr
  -- in parentheses
  inside : {A : Type 0} → Form A → Form A
  -- one behind the other
  both : {A B : Type 0} → Form A → Form B → Form (A × B)
  -- either of two: the first begins with one of these sorts of characters, the second with none of them
  choice : {A : Type 0} → List ℕ → Form A → Form A → Form A
  -- either of two, told by a look at what is left
  told : {A : Type 0} → Look → Form A → Form A → Form A
  -- a mark and a form behind it, or nothing
  perhaps : {A : Type 0} → ℕ → Form A → Form (Option A)
  -- none, one or more, one behind the other, each of which begins with one of these sorts
  repeated : {A : Type 0} → List ℕ → Form A → Form (List A)
  -- what such a form stands for, seen as something else, where it can be
  seen : {A B : Type 0} → (A → Option B) → Form A → Form B
  -- the same, where what it stands for may be refused as a whole
  judged : {A B : Type 0} → (A → Option (B × List Part)) → Form A → Form B
  -- a form that is refused, and why
  refused : {A : Type 0} → Part → Form A → Form A

-- the value of digits, 0 where it is too great
abbrev pub small_or_0 : List ℕ → ℕ
small_or_0 w = if is_small w then decimal w else 0

-- where so many parentheses are open: none of the marks stands outside parentheses, and none is open at the end
abbrev pub stays : List ℕ → ℕ → List Piece → Bool
stays marks n [] = n == 0
stays marks n (plain c ∷ rest) = if n == 0 && is_in marks c then false else stays marks (open_after n c) rest
stays marks n (whole t ∷ rest) = stays marks n rest
stays marks n (broken t ∷ rest) = stays marks n rest

-- where so many parentheses are open: a star stands in the outermost ones, behind the one that opens them or a comma, one of which
-- may stand before the pieces
abbrev pub is_starred : Bool → ℕ → List Piece → Bool
is_starred after n [] = false
is_starred after n (plain c ∷ rest) = (after && (n == 1 && c == 42)) || is_starred (c == 40 || c == 44) (open_after n c) rest
is_starred after n (whole t ∷ rest) = is_starred false n rest
is_starred after n (broken t ∷ rest) = is_starred false n rest

-- The characters of a constant are a format; where a part of it is refused, nothing stands for it in the tree, and the first
-- such part counts.
pub data IsFormatText (characters : List ℕ) (items : FormatItems) (ps : List Part) : Type 0 where
  text_spelled : SpellsFormatText 0 characters items → ps ≡ [] → IsFormatText characters items ps
  text_refused : {shown : List ℕ} → IsRefusedFormatText 0 characters shown → items ≡ format.none → ps ≡ record { cause = Unsupported; shown = shown } ∷ [] → IsFormatText characters items ps

-- pieces one behind the other
pub data Repeats {A : Type 0} (One : List Piece → A → List Part → Type 0) : List Piece → List A → List Part → Type 0 where
  repeats_none : {u : List Piece} {xs : List A} {ps : List Part} → u ≡ [] → xs ≡ [] → ps ≡ [] → Repeats One u xs ps
  repeats_more : {u v w : List Piece} {xs ys : List A} {ps qs rs : List Part} {x : A} → u ≡ v ++ w → One v x qs → Repeats One w ys rs → xs ≡ x ∷ ys → ps ≡ qs ++ rs → Repeats One u xs ps

-- The pieces have the form and stand for x, where so many parentheses are open; ps are the parts of them that are refused.
abbrev pub Matches : {A : Type 0} → Form A → ℕ → List Piece → A → List Part → Type 0
Matches (nothing y) d u x ps = (u ≡ []) × (x ≡ y) × (ps ≡ [])
Matches (mark c) d u x ps = (u ≡ plain c ∷ []) × (ps ≡ [])
Matches (word w) d u x ps = (u ≡ map plain w) × (ps ≡ [])
Matches name d u x ps = (w : List ℕ) × (u ≡ map plain w) × (is_word w ≡ true) × (x ≡ take LONGEST_NAME w) × (ps ≡ part_of d (lexeme.name w))
Matches label d u x ps = (w : List ℕ) × (u ≡ map plain w) × (is_label w ≡ true) × (x ≡ decimal w) × (ps ≡ [])
Matches numeral d u x ps = (u ≡ map plain x) × (is_number x ≡ true) × (ps ≡ [])
Matches number d u x ps = (w : List ℕ) × (u ≡ map plain w) × (is_number w ≡ true) × (x ≡ small_or_0 w) × (ps ≡ part_of d (lexeme.integer w))
Matches format_text d u x ps = (u ≡ whole (quoted x.0) ∷ []) × (x.0 ≢ []) × IsFormatText x.0 x.1 ps
Matches (portion strict marks) d u x ps = (lexemes : List Lexeme) × IsWideExpression u lexemes x × (stays marks 0 u ≡ true) × ((strict && is_starred false 0 u) ≡ false) × (ps ≡ parts_from d lexemes)
Matches (inside f) d u x ps = (v : List Piece) × (qs : List Part) × (u ≡ plain 40 ∷ (v ++ plain 41 ∷ [])) × Matches f (d + 1) v x qs × (ps ≡ part_of d lexeme.opening ++ qs)
Matches (both f g) d u x ps =
    (v : List Piece) × (w : List Piece) × (qs : List Part) × (rs : List Part) × (u ≡ v ++ w) × Matches f d v x.0 qs × Matches g d w x.1 rs × (ps ≡ qs ++ rs)
Matches (choice ks f g) d u x ps = Matches f d u x ps ⊎ Matches g d u x ps
Matches (told look f g) d u x ps = ((ahead look u ≡ true) × Matches f d u x ps) ⊎ ((ahead look u ≡ false) × Matches g d u x ps)
Matches (perhaps c f) d u x ps = ((u ≡ []) × (x ≡ None) × (ps ≡ [])) ⊎ ((v : List Piece) × (y : _) × (u ≡ plain c ∷ v) × Matches f d v y ps × (x ≡ Some y))
Matches (repeated ks f) d u x ps = Repeats (Matches f d) u x ps
Matches (seen view f) d u x ps = (y : _) × Matches f d u y ps × (view y ≡ Some x)
Matches (judged view f) d u x ps = (y : _) × (qs : List Part) × (js : List Part) × Matches f d u y qs × (view y ≡ Some (x, js)) × (ps ≡ js ++ qs)
Matches (refused p f) d u x ps = (qs : List Part) × Matches f d u x qs × (ps ≡ p ∷ qs)
