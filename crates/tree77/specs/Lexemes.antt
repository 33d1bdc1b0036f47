-- The lexemes of an expression, its syntactic items (X3.9 section 2.2), as they are spelled, and its parts that are refused.
use Rattle.std.specs.Prelude.{pos, ◌≡◌, ◌≢◌, ◌⊎◌, ℕ, ◌+◌, ◌*◌, ◌-◌, Bool, true, false, not, ◌&&◌, ◌==◌, nat_le, nat_lt, List, [], ◌∷◌, ◌++◌, length, map, take, codes, Option, Some, None, flat_map, if◌then◌else◌}
use Rattle.std.specs.List.{list_all, list_any}
use Rattle.text_base.specs.Chars.{is_digit, is_name_byte}
use Rattle.text_base.specs.Causes.{cause_number}
use Rattle.text_base.specs.Pieces.{Piece, plain, whole, piece_text}
use Rattle.text_base.specs.declared.refusal.Cause.{Cause}
use Rattle.text_base.specs.declared.refusal.Cause.TheVariants.{NotAStatement, Unsupported, ConstantRange, NameTooLong}
use Rattle.text_base.specs.declared.limits.TheConstants.{GREATEST_INTEGER, LONGEST_NAME, DEEPEST_NESTING, MOST_SHOWN}
use Rattle.tree77.specs.Kinds.{is_word, is_number}
use Rattle.text_base.specs.Trees as e
use Rattle.text_base.specs.Trees.{BinaryOp, power, times, over, add, subtract, concat, less, less_equal, equal, not_equal, greater, greater_equal, conjunction, disjunction, equivalence, nonequivalence, Expr}
use Rattle.tree77.specs.Expressions as symbol
use Rattle.tree77.specs.Expressions.{Symbol, IsExpression}

pub data Lexeme : Type 0 where
  -- an integer constant of any length (X3.9 section 4.3.1)
  integer : List ℕ → Lexeme
  -- a real, complex or Hollerith constant, which is refused
  constant : Lexeme
  -- a logical constant (X3.9 section 4.7.1), and the characters that a character constant stands for (X3.9 section 4.8.1)
  logical : Bool → Lexeme
  characters : List ℕ → Lexeme
  -- a name of any length
  name : List ℕ → Lexeme
  -- `*label` (X3.9 section 15.8.3), which is refused
  alternate : Lexeme
  operator : BinaryOp → Lexeme
  not_sign : Lexeme
  opening : Lexeme
  closing : Lexeme
  comma : Lexeme
  colon : Lexeme

-- ---- constants that are refused

-- nothing, or a sign
abbrev pub IsSign : List ℕ → Type 0
IsSign text = (text ≡ []) ⊎ ((text ≡ codes "+") ⊎ (text ≡ codes "-"))

-- E or D, and a number that may have a sign (X3.9 sections 4.4.1 and 4.5.1)
pub record IsExponent (text : List ℕ) : Type 0 where
  pub letter : ℕ
  pub sign : List ℕ
  pub digits : List ℕ
  pub whole : text ≡ letter ∷ (sign ++ digits)
  pub lettered : (letter ≡ 69) ⊎ (letter ≡ 68)
  pub signed : IsSign sign
  pub numbered : is_number digits ≡ true

-- a real or double precision constant (X3.9 sections 4.4 and 4.5)
pub data IsReal : List ℕ → Type 0 where
  -- digits with a point, and an exponent or none
  real_point : {text : List ℕ} (before after exponent : List ℕ) → text ≡ before ++ 46 ∷ (after ++ exponent) → list_all is_digit before ≡ true → list_all is_digit after ≡ true
      → before ++ after ≢ [] → (exponent ≡ []) ⊎ IsExponent exponent → IsReal text
  -- digits and an exponent
  real_exponent : {text : List ℕ} (before exponent : List ℕ) → text ≡ before ++ exponent → is_number before ≡ true → IsExponent exponent → IsReal text

-- an integer or real constant that may have a sign
pub record IsPart (text : List ℕ) : Type 0 where
  pub sign : List ℕ
  pub number : List ℕ
  pub whole : text ≡ sign ++ number
  pub signed : IsSign sign
  pub numeric : (is_number number ≡ true) ⊎ IsReal number

-- a complex constant (X3.9 section 4.6.1)
pub record IsComplex (text : List ℕ) : Type 0 where
  pub real : List ℕ
  pub imaginary : List ℕ
  pub whole : text ≡ 40 ∷ (real ++ 44 ∷ (imaginary ++ 41 ∷ []))
  pub real_part : IsPart real
  pub imaginary_part : IsPart imaginary

-- A Hollerith constant (X3.9 appendix C): digits, H, and letters, digits and underscores. In an expression these are all
-- that follow, since no operand stands behind another.
pub record IsHollerith (text : List ℕ) : Type 0 where
  pub count : List ℕ
  pub kept : List ℕ
  pub whole : text ≡ count ++ 72 ∷ kept
  pub numbered : is_number count ≡ true
  pub word : list_all is_name_byte kept ≡ true

abbrev pub IsConstant : List ℕ → Type 0
IsConstant text = IsReal text ⊎ (IsComplex text ⊎ IsHollerith text)

-- ---- other lexemes

-- what stands between apostrophes, and what it stands for: an apostrophe in it is doubled (X3.9 section 4.8.1)
pub data IsQuoted : List ℕ → List ℕ → Type 0 where
  quoted_nothing : {text value : List ℕ} → text ≡ [] → value ≡ [] → IsQuoted text value
  quoted_other : {text value more rest : List ℕ} (c : ℕ) → text ≡ c ∷ more → c ≢ 39 → IsQuoted more rest → value ≡ c ∷ rest → IsQuoted text value
  quoted_apostrophe : {text value more rest : List ℕ} → text ≡ 39 ∷ 39 ∷ more → IsQuoted more rest → value ≡ 39 ∷ rest → IsQuoted text value

-- a statement label (X3.9 section 3.4): one to five digits, of which one isn't zero
abbrev pub is_label : List ℕ → Bool
is_label text = list_all is_digit text && (nat_le (length text) 5 && list_any (λ c. not (c == 48)) text)

-- how an operator is written (X3.9 sections 6.1.1, 6.2.1, 6.3.1 and 6.4.1)
abbrev pub operator_text : BinaryOp → List ℕ
operator_text power = codes "**"
operator_text times = codes "*"
operator_text over = codes "/"
operator_text add = codes "+"
operator_text subtract = codes "-"
operator_text concat = codes "//"
operator_text less = codes ".LT."
operator_text less_equal = codes ".LE."
operator_text equal = codes ".EQ."
operator_text not_equal = codes ".NE."
operator_text greater = codes ".GT."
operator_text greater_equal = codes ".GE."
operator_text conjunction = codes ".AND."
operator_text disjunction = codes ".OR."
operator_text equivalence = codes ".EQV."
operator_text nonequivalence = codes ".NEQV."

abbrev pub logical_text : Bool → List ℕ
logical_text true = codes ".TRUE."
logical_text false = codes ".FALSE."

-- the pieces spell the lexeme: characters outside kept text, or one kept text
pub data IsLexeme : List Piece → Lexeme → Type 0 where
  lexeme_integer : {pieces : List Piece} {i : Lexeme} (digits : List ℕ) → pieces ≡ map plain digits → is_number digits ≡ true → i ≡ integer digits → IsLexeme pieces i
  lexeme_constant : {pieces : List Piece} {i : Lexeme} (text : List ℕ) → pieces ≡ map plain text → IsConstant text → i ≡ constant → IsLexeme pieces i
  lexeme_logical : {pieces : List Piece} {i : Lexeme} (b : Bool) → pieces ≡ map plain (logical_text b) → i ≡ logical b → IsLexeme pieces i
  lexeme_characters : {pieces : List Piece} {i : Lexeme} (inside value : List ℕ) → pieces ≡ whole (39 ∷ (inside ++ 39 ∷ [])) ∷ [] → IsQuoted inside value → value ≢ [] → i ≡ characters value → IsLexeme pieces i
  lexeme_name : {pieces : List Piece} {i : Lexeme} (word : List ℕ) → pieces ≡ map plain word → is_word word ≡ true → i ≡ name word → IsLexeme pieces i
  lexeme_alternate : {pieces : List Piece} {i : Lexeme} (label : List ℕ) → pieces ≡ map plain (42 ∷ label) → is_label label ≡ true → i ≡ alternate → IsLexeme pieces i
  lexeme_operator : {pieces : List Piece} {i : Lexeme} (o : BinaryOp) → pieces ≡ map plain (operator_text o) → i ≡ operator o → IsLexeme pieces i
  lexeme_not : {pieces : List Piece} {i : Lexeme} → pieces ≡ map plain (codes ".NOT.") → i ≡ not_sign → IsLexeme pieces i
  lexeme_open : {pieces : List Piece} {i : Lexeme} → pieces ≡ map plain (codes "(") → i ≡ opening → IsLexeme pieces i
  lexeme_close : {pieces : List Piece} {i : Lexeme} → pieces ≡ map plain (codes ")") → i ≡ closing → IsLexeme pieces i
  lexeme_comma : {pieces : List Piece} {i : Lexeme} → pieces ≡ map plain (codes ",") → i ≡ comma → IsLexeme pieces i
  lexeme_colon : {pieces : List Piece} {i : Lexeme} → pieces ≡ map plain (codes ":") → i ≡ colon → IsLexeme pieces i

-- the pieces spell the lexemes, one after another
pub data AreLexemes : List Piece → List Lexeme → Type 0 where
  lexemes_none : {pieces : List Piece} {lexemes : List Lexeme} → pieces ≡ [] → lexemes ≡ [] → AreLexemes pieces lexemes
  lexemes_more : {pieces first rest : List Piece} {lexemes others : List Lexeme} {i : Lexeme} → pieces ≡ first ++ rest → IsLexeme first i → AreLexemes rest others → lexemes ≡ i ∷ others → AreLexemes pieces lexemes

-- ---- what a lexeme stands for in the grammar

-- the number that digits stand for, in base ten, behind others
abbrev pub decimal_from : ℕ → List ℕ → ℕ
decimal_from n [] = n
decimal_from n (c ∷ t) = decimal_from (10 * n + (c - 48)) t

abbrev pub decimal : List ℕ → ℕ
decimal digits = decimal_from 0 digits

abbrev pub is_small : List ℕ → Bool
is_small digits = nat_le (decimal digits) GREATEST_INTEGER

-- The symbol of a lexeme. A part that is refused stands where an accepted one may stand: 0 for a constant, and the first
-- 31 characters for a longer name.
abbrev pub symbol_of : Lexeme → Symbol
symbol_of (integer digits) = symbol.operand (e.int (pos (if is_small digits then decimal digits else 0)))
symbol_of constant = symbol.operand (e.int (pos 0))
symbol_of (logical b) = symbol.operand (e.bool b)
symbol_of (characters text) = symbol.operand (e.text text)
symbol_of (name word) = symbol.operand (e.name (take LONGEST_NAME word))
symbol_of alternate = symbol.alternate
symbol_of (operator o) = symbol.operator o
symbol_of not_sign = symbol.not_sign
symbol_of opening = symbol.opening
symbol_of closing = symbol.closing
symbol_of comma = symbol.comma
symbol_of colon = symbol.colon

-- ---- parts that are refused

-- why, and the name that the refusal shows
pub record Part : Type 0 where
  pub cause : Cause
  pub shown : List ℕ

-- the refused part that a lexeme is, where so many parentheses are open before it
abbrev pub part_of : ℕ → Lexeme → List Part
part_of depth (integer digits) = if is_small digits then [] else record { cause = ConstantRange; shown = take MOST_SHOWN digits } ∷ []
part_of depth constant = record { cause = Unsupported; shown = codes "CONSTANT" } ∷ []
part_of depth (name word) = if nat_le (length word) LONGEST_NAME then [] else record { cause = NameTooLong; shown = take LONGEST_NAME word } ∷ []
part_of depth alternate = record { cause = Unsupported; shown = codes "RETURN" } ∷ []
part_of depth opening = if nat_lt depth DEEPEST_NESTING then [] else record { cause = Unsupported; shown = codes "DEPTH" } ∷ []
part_of depth _ = []

-- how many parentheses are open behind a lexeme
abbrev pub depth_behind : ℕ → Lexeme → ℕ
depth_behind depth opening = depth + 1
depth_behind depth closing = depth - 1
depth_behind depth _ = depth

-- the refused parts of lexemes, from left to right
abbrev pub parts_from : ℕ → List Lexeme → List Part
parts_from depth [] = []
parts_from depth (i ∷ is) = part_of depth i ++ parts_from (depth_behind depth i) is

-- the part of the lowest cause; among equal ones the first
abbrev pub is_lower : Part → Part → Bool
is_lower p q = nat_lt (cause_number p.cause) (cause_number q.cause)

abbrev pub first_lowest : List Part → Option Part
first_lowest [] = None
first_lowest (p ∷ ps) = if list_any (λ q. is_lower q p) ps then first_lowest ps else Some p

-- ---- expressions of a statement

-- The pieces spell the lexemes of an expression, in which each refused part stands for what may stand in its place: names,
-- integer constants and parentheses may have any length and depth, and constants of other types and alternate return
-- specifiers may stand in it.
pub record IsWideExpression (pieces : List Piece) (lexemes : List Lexeme) (x : Expr) : Type 0 where
  pub spelled : AreLexemes pieces lexemes
  pub formed : IsExpression (map symbol_of lexemes) x

-- the pieces spell the expression, and no part of it is refused
pub record SpellsExpression (pieces : List Piece) (x : Expr) : Type 0 where
  pub lexemes : List Lexeme
  pub wide : IsWideExpression pieces lexemes x
  pub accepted : parts_from 0 lexemes ≡ []

-- the pieces are refused: they spell no expression, or a part of one is refused
pub data IsRefusedExpression (pieces : List Piece) (p : Part) : Type 0 where
  refused_whole : ((lexemes : List Lexeme) (x : Expr) → IsWideExpression pieces lexemes x → ⊥) → p ≡ record { cause = NotAStatement; shown = take MOST_SHOWN (flat_map piece_text pieces) } → IsRefusedExpression pieces p
  refused_part : (lexemes : List Lexeme) (x : Expr) → IsWideExpression pieces lexemes x → first_lowest (parts_from 0 lexemes) ≡ Some p → IsRefusedExpression pieces p
