-- The lexemes of an accepted expression are those that its tokens are read as: the tokens are put together lexeme by lexeme, from the right.
use Rattle.std.proofs.Common.{◌≡◌, ◌≢◌, inl, inr, ℕ, zero, suc, ◌<◌, ◌≤◌, ◌==◌, Bool, true, false, List, [], ◌∷◌, ◌++◌, map, length, codes, Option, Some, None, refl, sym, ap, ◌∙◌, subst, arith}
use Rattle.std.specs.Prelude.{if◌then◌else◌}
use Rattle.std.specs.List.{list_all}
use Rattle.std.specs.Option.{option_map, option_and_then}
use Rattle.std.proofs.lemmas.Bool.{and_parts, ne_eqb}
use Rattle.std.proofs.lemmas.Option.{same_Some}
use Rattle.text_base.specs.Chars.{is_digit, is_name_byte}
use Rattle.text_base.specs.Pieces.{Piece, plain, whole as kept_text}
use Rattle.tree77.specs.Kinds.{is_word, is_number}
use Rattle.text_base.specs.Trees.{BinaryOp, power, times, over, add, subtract, concat, less, less_equal, equal, not_equal, greater, greater_equal, conjunction, disjunction, equivalence, nonequivalence}
use Rattle.tree77.specs.Expressions.{is_sum}
use Rattle.tree77.specs.Tokens.{Token, kept, is_mark, IsCut, cut_nothing, cut_run, cut_text, cut_mark}
use Rattle.tree77.specs.Lexemes.{Lexeme, integer, constant, logical, characters, name, alternate, operator, not_sign, opening, closing, comma, colon, IsComplex, IsHollerith, IsConstant, IsQuoted, quoted_nothing, quoted_other, quoted_apostrophe, is_label, operator_text, logical_text, IsLexeme, lexeme_integer, lexeme_constant, lexeme_logical, lexeme_characters, lexeme_name, lexeme_alternate, lexeme_operator, lexeme_not, lexeme_open, lexeme_close, lexeme_comma, lexeme_colon, AreLexemes, lexemes_none, lexemes_more, symbol_of}
use Rattle.expr77.specs.LexemeReading.{behind_mark, behind_exponent_run, Number, whole, real, behind_point, behind_complex, Stand, at_argument, at_operand, after_operand, is_after as is_behind, read_quoted, unless_empty, read_word, lexeme_of_number, or_found, read_open, read_lexeme, stand_behind, lexemes_of}
use Rattle.expr77.proofs.Standing.{may_stand, stand_after, levels_behind, fits, first_fits}
use Rattle.expr77.proofs.NumberOnly.{marked, run_token, number_token, plain_append, digits_stop, word_cut, number_cut, Behind, mark_behind, ReadNumber, whole_read, real_read, complex_read}
use Rattle.expr77.proofs.NoComplex.{number_lexeme, unrolled, AreRead, no_complex}

-- ---- where a lexeme stands

-- what is known of the pieces and tokens where a lexeme is to stand
abbrev Ahead : Stand → List Piece → List Token → Type 0
Ahead after_operand pieces tokens = Behind pieces tokens
Ahead at_operand pieces tokens = IsCut pieces tokens × (behind_mark 42 tokens ≡ None) × (behind_mark 47 tokens ≡ None)
Ahead at_argument pieces tokens = IsCut pieces tokens

-- what stands behind no operand
ahead_operand : (s : Stand) (i : Lexeme) (pieces : List Piece) (tokens : List Token) → may_stand after_operand (symbol_of i) ≡ false → may_stand s (symbol_of i) ≡ true → IsCut pieces tokens → behind_mark 42 tokens ≡ None
    → behind_mark 47 tokens ≡ None → Ahead s pieces tokens
ahead_operand after_operand i pieces tokens off may cut star slash = absurd cc
ahead_operand at_operand i pieces tokens off may cut star slash = (cut, star, slash)
ahead_operand at_argument i pieces tokens off may cut star slash = cut

-- an operator but a sign
ahead_operator : (s : Stand) (o : BinaryOp) (pieces : List Piece) (tokens : List Token) → is_sum o ≡ false → may_stand s (symbol_of (operator o)) ≡ true → Behind pieces tokens → Ahead s pieces tokens
ahead_operator after_operand o pieces tokens off may b = b
ahead_operator at_operand o pieces tokens off may b = absurd cc
ahead_operator at_argument o pieces tokens off may b = absurd cc

-- a mark but a point, a star and a slash
ahead_mark : (s : Stand) (c : ℕ) (pieces : List Piece) (tokens : List Token) → is_mark c ≡ true → is_name_byte c ≡ false → (c == 46) ≡ false → (c == 42) ≡ false → (c == 47) ≡ false → IsCut pieces tokens
    → Ahead s (plain c ∷ pieces) (marked c ∷ tokens)
ahead_mark after_operand c pieces tokens marks off point star slash cut = mark_behind c pieces tokens marks off point cut
ahead_mark at_operand c pieces tokens marks off point star slash cut = (cut_mark c refl marks cut refl, ap (λ b. if b then Some tokens else None) star, ap (λ b. if b then Some tokens else None) slash)
ahead_mark at_argument c pieces tokens marks off point star slash cut = cut_mark c refl marks cut refl

-- the tokens of the pieces of a lexeme and those behind it, from which the lexeme is read
record ReadLexeme (s : Stand) (pieces : List Piece) (i : Lexeme) (more : List Token) : Type 0 where
  tokens : List Token
  ahead : Ahead s pieces tokens
  read : read_lexeme s tokens ≡ Some (i, more)
  shorter : length more < length tokens

-- ---- constants

-- a number is read as its lexeme
read_number_lexeme : (s : Stand) (text : List ℕ) (n : Number) (rest : List Piece) (more : List Token) → may_stand after_operand (symbol_of (lexeme_of_number n)) ≡ false → may_stand s (symbol_of (lexeme_of_number n)) ≡ true → Behind rest more
    → ReadNumber text rest more n → ReadLexeme s (map plain text ++ rest) (lexeme_of_number n) more
read_number_lexeme s text n rest more off may b r = record {
  tokens = r.tokens;
  ahead = ahead_operand s (lexeme_of_number n) (map plain text ++ rest) r.tokens off may r.cut (r.front 42 refl refl) (r.front 47 refl refl);
  read = number_lexeme s r.tokens n more r.read b.no_run;
  shorter = r.shorter;
}

-- a complex constant that can be read is read
open_complex : (s : Stand) → may_stand s (symbol_of constant) ≡ true → (others more : List Token) → behind_complex (marked 40 ∷ others) ≡ Some more → read_open s (marked 40 ∷ others) others ≡ Some (constant, more)
open_complex after_operand may others more e = absurd cc
open_complex at_operand may others more e = ap (λ o. or_found o constant (Some (opening, others))) e
open_complex at_argument may others more e = ap (λ o. or_found o constant (Some (opening, others))) e

-- a complex constant is read as one lexeme
read_complex : (s : Stand) (text : List ℕ) (rest : List Piece) (more : List Token) → IsComplex text → may_stand s (symbol_of constant) ≡ true → Behind rest more → ReadLexeme s (map plain text ++ rest) constant more
unfolding read_lexeme
read_complex s text rest more is may b =
    let r = complex_read text rest more is b.cut in
    let shorter : length more ≤ length r.others = r.shorter in
    record {
      tokens = marked 40 ∷ r.others;
      ahead = ahead_operand s constant (map plain text ++ rest) (marked 40 ∷ r.others) refl may r.cut refl refl;
      read = open_complex s may r.others more r.read;
      shorter = omega arith;
    }

-- a Hollerith constant is read as one lexeme
read_hollerith : (s : Stand) (text : List ℕ) (rest : List Piece) (more : List Token) → IsHollerith text → may_stand s (symbol_of constant) ≡ true → Behind rest more → ReadLexeme s (map plain text ++ rest) constant more
unfolding read_lexeme
read_hollerith s text rest more h may b =
    let word : IsCut (map plain (72 ∷ h.kept) ++ rest) (run_token (72 ∷ h.kept) ∷ more) = cut_run 72 h.kept refl refl h.word b.stops b.cut refl in
    let cut : IsCut (map plain h.count ++ (map plain (72 ∷ h.kept) ++ rest)) (number_token h.count ∷ run_token (72 ∷ h.kept) ∷ more) =
    number_cut h.count (map plain (72 ∷ h.kept) ++ rest) (run_token (72 ∷ h.kept) ∷ more) h.numbered refl word in
    let all : IsCut (map plain text ++ rest) (number_token h.count ∷ run_token (72 ∷ h.kept) ∷ more) =
    subst (λ (p : List Piece). IsCut p (number_token h.count ∷ run_token (72 ∷ h.kept) ∷ more)) (sym (ap (λ t. map plain t ++ rest) h.whole ∙ plain_append h.count (72 ∷ h.kept) rest)) cut in
    record {
      tokens = number_token h.count ∷ run_token (72 ∷ h.kept) ∷ more;
      ahead = ahead_operand s constant (map plain text ++ rest) (number_token h.count ∷ run_token (72 ∷ h.kept) ∷ more) refl may all refl refl;
      read = refl;
      shorter = omega arith;
    }

-- a constant that is refused is read as one lexeme
read_constant : (s : Stand) (text : List ℕ) (rest : List Piece) (more : List Token) → IsConstant text → may_stand s (symbol_of constant) ≡ true → Behind rest more → ReadLexeme s (map plain text ++ rest) constant more
read_constant s text rest more (inl is) may b = read_number_lexeme s text real rest more refl may b (real_read text rest more is b)
read_constant s text rest more (inr (inl is)) may b = read_complex s text rest more is may b
read_constant s text rest more (inr (inr is)) may b = read_hollerith s text rest more is may b

-- what stands between apostrophes
pub quoted_read : (inside value : List ℕ) → IsQuoted inside value → read_quoted false (inside ++ 39 ∷ []) ≡ Some value
quoted_read inside value (quoted_nothing none nothing) = ap (λ t. read_quoted false (t ++ 39 ∷ [])) none ∙ ap Some (sym nothing)
quoted_read inside value (quoted_other {more = more} {rest = rest} c is apart quoted v) =
    ap (λ t. read_quoted false (t ++ 39 ∷ [])) is
    ∙ ap (λ b. if b then read_quoted true (more ++ 39 ∷ []) else option_map (λ v. c ∷ v) (read_quoted false (more ++ 39 ∷ []))) (ne_eqb c 39 apart)
    ∙ ap (option_map (λ v. c ∷ v)) (quoted_read more rest quoted)
    ∙ ap Some (sym v)
quoted_read inside value (quoted_apostrophe {more = more} {rest = rest} is quoted v) =
    ap (λ t. read_quoted false (t ++ 39 ∷ [])) is
    ∙ ap (option_map (λ v. 39 ∷ v)) (quoted_read more rest quoted)
    ∙ ap Some (sym v)

-- a value that isn't empty passes
pub some_value : (value : List ℕ) → value ≢ [] → unless_empty value ≡ Some value
some_value [] some = absurd (some refl)
some_value (c ∷ t) some = refl

-- a character constant is read as its value
read_text : (s : Stand) (inside value : List ℕ) (rest : List Piece) (more : List Token) → IsQuoted inside value → value ≢ [] → may_stand s (symbol_of (characters value)) ≡ true → IsCut rest more
    → ReadLexeme s (kept_text (39 ∷ (inside ++ 39 ∷ [])) ∷ rest) (characters value) more
unfolding read_lexeme
read_text s inside value rest more quoted some may cut = record {
  tokens = record { kind = kept; text = 39 ∷ (inside ++ 39 ∷ []) } ∷ more;
  ahead = ahead_operand s (characters value) (kept_text (39 ∷ (inside ++ 39 ∷ [])) ∷ rest) (record { kind = kept; text = 39 ∷ (inside ++ 39 ∷ []) } ∷ more) refl may (cut_text (39 ∷ (inside ++ 39 ∷ [])) refl cut refl) refl
      refl;
  read = ap (option_map {U = Lexeme × List Token} (λ v. (characters v, more))) (ap (option_and_then unless_empty) (quoted_read inside value quoted) ∙ some_value value some);
  shorter = omega arith;
}

-- ---- between points

-- a word between points is read as its lexeme
read_between : (s : Stand) (w : List ℕ) (i : Lexeme) (more : List Token) → read_word w ≡ Some i → read_lexeme s (marked 46 ∷ run_token w ∷ marked 46 ∷ more) ≡ Some (i, more)
unfolding read_lexeme
read_between s w i more e = ap (option_map {U = Lexeme × List Token} (λ i. (i, more))) e

-- a word between points is three tokens
cut_between : (w : List ℕ) (rest : List Piece) (more : List Token) → is_word w ≡ true → IsCut rest more → IsCut (plain 46 ∷ (map plain w ++ plain 46 ∷ rest)) (marked 46 ∷ run_token w ∷ marked 46 ∷ more)
cut_between w rest more word cut = cut_mark 46 refl refl (word_cut w (plain 46 ∷ rest) (marked 46 ∷ more) word refl (cut_mark 46 refl refl cut refl)) refl

-- a constant, or .NOT.
between_operand : (s : Stand) (w : List ℕ) (i : Lexeme) (rest : List Piece) (more : List Token) → is_word w ≡ true → read_word w ≡ Some i → may_stand after_operand (symbol_of i) ≡ false → may_stand s (symbol_of i) ≡ true → IsCut rest more
    → ReadLexeme s (plain 46 ∷ (map plain w ++ plain 46 ∷ rest)) i more
between_operand s w i rest more word e off may cut = record {
  tokens = marked 46 ∷ run_token w ∷ marked 46 ∷ more;
  ahead = ahead_operand s i (plain 46 ∷ (map plain w ++ plain 46 ∷ rest)) (marked 46 ∷ run_token w ∷ marked 46 ∷ more) off may (cut_between w rest more word cut) refl refl;
  read = read_between s w i more e;
  shorter = omega arith;
}

-- an operator, whose point belongs to no number before it
between_operator : (s : Stand) (w : List ℕ) (o : BinaryOp) (rest : List Piece) (more : List Token) → is_word w ≡ true → read_word w ≡ Some (operator o) → ((ts : List Token) → behind_exponent_run w ts ≡ None)
    → is_sum o ≡ false → may_stand s (symbol_of (operator o)) ≡ true → IsCut rest more → ReadLexeme s (plain 46 ∷ (map plain w ++ plain 46 ∷ rest)) (operator o) more
between_operator s w o rest more word e no_exponent off may cut = record {
  tokens = marked 46 ∷ run_token w ∷ marked 46 ∷ more;
  ahead = ahead_operator s o (plain 46 ∷ (map plain w ++ plain 46 ∷ rest)) (marked 46 ∷ run_token w ∷ marked 46 ∷ more) off may (record {
    cut = cut_between w rest more word cut;
    stops = refl;
    no_run = refl;
    no_digits = refl;
    alone = λ d. ap (λ (a : Option (List Token)). behind_point d (marked 46 ∷ run_token w ∷ marked 46 ∷ more) (run_token w ∷ marked 46 ∷ more) a (Some (w, marked 46 ∷ more)) None) (no_exponent (marked 46 ∷ more));
  });
  read = read_between s w (operator o) more e;
  shorter = omega arith;
}

-- a logical constant is read as its value
read_logical : (s : Stand) (b : Bool) (rest : List Piece) (more : List Token) → may_stand s (symbol_of (logical b)) ≡ true → IsCut rest more → ReadLexeme s (map plain (logical_text b) ++ rest) (logical b) more
read_logical s true rest more may cut = between_operand s (codes "TRUE") (logical true) rest more refl refl refl may cut
read_logical s false rest more may cut = between_operand s (codes "FALSE") (logical false) rest more refl refl refl may cut

-- ---- marks

-- a mark that is a lexeme by itself wherever it stands
read_single : (s : Stand) (c : ℕ) (i : Lexeme) (rest : List Piece) (more : List Token) → is_mark c ≡ true → is_name_byte c ≡ false → (c == 46) ≡ false → (c == 42) ≡ false → (c == 47) ≡ false
    → read_lexeme s (marked c ∷ more) ≡ Some (i, more) → IsCut rest more → ReadLexeme s (plain c ∷ rest) i more
read_single s c i rest more marks off point star slash read cut = record {
  tokens = marked c ∷ more;
  ahead = ahead_mark s c rest more marks off point star slash cut;
  read = read;
  shorter = omega arith;
}

-- a star or a slash
read_product : (s : Stand) (o : BinaryOp) (rest : List Piece) (more : List Token) → may_stand s (symbol_of (operator o)) ≡ true → IsCut rest more → is_sum o ≡ false → (c : ℕ) → is_mark c ≡ true → is_name_byte c ≡ false
    → (c == 46) ≡ false → read_lexeme after_operand (marked c ∷ more) ≡ Some (operator o, more) → ReadLexeme s (plain c ∷ rest) (operator o) more
read_product after_operand o rest more may cut off c marks apart point read = record {
  tokens = marked c ∷ more;
  ahead = mark_behind c rest more marks apart point cut;
  read = read;
  shorter = omega arith;
}
read_product at_operand o rest more may cut off c marks apart point read = absurd cc
read_product at_argument o rest more may cut off c marks apart point read = absurd cc

-- two of them
read_double : (s : Stand) (o : BinaryOp) (rest : List Piece) (more : List Token) → may_stand s (symbol_of (operator o)) ≡ true → IsCut rest more → is_sum o ≡ false → (c : ℕ) → is_mark c ≡ true → is_name_byte c ≡ false
    → (c == 46) ≡ false → read_lexeme s (marked c ∷ marked c ∷ more) ≡ Some (operator o, more) → ReadLexeme s (plain c ∷ plain c ∷ rest) (operator o) more
read_double s o rest more may cut off c marks apart point read = record {
  tokens = marked c ∷ marked c ∷ more;
  ahead = ahead_operator s o (plain c ∷ plain c ∷ rest) (marked c ∷ marked c ∷ more) off may (mark_behind c (plain c ∷ rest) (marked c ∷ more) marks apart point (cut_mark c refl marks cut refl));
  read = read;
  shorter = omega arith;
}

-- an operator is read, where no mark follows that would lengthen it
read_operator : (s : Stand) (o : BinaryOp) (rest : List Piece) (more : List Token) → may_stand s (symbol_of (operator o)) ≡ true → Ahead at_operand rest more → ReadLexeme s (map plain (operator_text o) ++ rest) (operator o) more
unfolding read_lexeme
read_operator s power rest more may a = read_double s power rest more may a.0 refl 42 refl refl refl refl
read_operator s times rest more may a = read_product s times rest more may a.0 refl 42 refl refl refl (ap (λ o. or_found o (operator power) (Some (operator times, more))) a.1)
read_operator s over rest more may a = read_product s over rest more may a.0 refl 47 refl refl refl (ap (λ o. or_found o (operator concat) (Some (operator over, more))) a.2)
read_operator s add rest more may a = read_single s 43 (operator add) rest more refl refl refl refl refl refl a.0
read_operator s subtract rest more may a = read_single s 45 (operator subtract) rest more refl refl refl refl refl refl a.0
read_operator s concat rest more may a = read_double s concat rest more may a.0 refl 47 refl refl refl refl
read_operator s less rest more may a = between_operator s (codes "LT") less rest more refl refl (λ ts. refl) refl may a.0
read_operator s less_equal rest more may a = between_operator s (codes "LE") less_equal rest more refl refl (λ ts. refl) refl may a.0
read_operator s equal rest more may a = between_operator s (codes "EQ") equal rest more refl refl (λ ts. refl) refl may a.0
read_operator s not_equal rest more may a = between_operator s (codes "NE") not_equal rest more refl refl (λ ts. refl) refl may a.0
read_operator s greater rest more may a = between_operator s (codes "GT") greater rest more refl refl (λ ts. refl) refl may a.0
read_operator s greater_equal rest more may a = between_operator s (codes "GE") greater_equal rest more refl refl (λ ts. refl) refl may a.0
read_operator s conjunction rest more may a = between_operator s (codes "AND") conjunction rest more refl refl (λ ts. refl) refl may a.0
read_operator s disjunction rest more may a = between_operator s (codes "OR") disjunction rest more refl refl (λ ts. refl) refl may a.0
read_operator s equivalence rest more may a = between_operator s (codes "EQV") equivalence rest more refl refl (λ ts. refl) refl may a.0
read_operator s nonequivalence rest more may a = between_operator s (codes "NEQV") nonequivalence rest more refl refl (λ ts. refl) refl may a.0

-- a label is a number
label_number : (label : List ℕ) → is_label label ≡ true → is_number label ≡ true
label_number [] is = absurd cc
label_number (c ∷ t) is = (and_parts (list_all is_digit (c ∷ t)) _ is).0

-- an alternate return specifier is read where an argument may stand
read_alternate : (s : Stand) (label : List ℕ) (rest : List Piece) (more : List Token) → is_label label ≡ true → may_stand s (symbol_of alternate) ≡ true → Behind rest more
    → ReadLexeme s (plain 42 ∷ (map plain label ++ rest)) alternate more
unfolding read_lexeme
read_alternate after_operand label rest more is may b = absurd cc
read_alternate at_operand label rest more is may b = absurd cc
read_alternate at_argument label rest more is may b = record {
  tokens = marked 42 ∷ number_token label ∷ more;
  ahead = cut_mark 42 refl refl (number_cut label rest more (label_number label is) (digits_stop rest b.stops) b.cut) refl;
  read = ap (λ b. or_found (if b then Some more else None) alternate (Some (operator times, number_token label ∷ more))) is;
  shorter = omega arith;
}

-- where no complex constant can be read, the parenthesis is read alone
open_alone : (s : Stand) (more : List Token) → (is_behind s ≡ false → behind_complex (marked 40 ∷ more) ≡ None) → read_open s (marked 40 ∷ more) more ≡ Some (opening, more)
open_alone after_operand more none = refl
open_alone at_operand more none = ap (λ o. or_found o constant (Some (opening, more))) (none refl)
open_alone at_argument more none = ap (λ o. or_found o constant (Some (opening, more))) (none refl)

-- an open parenthesis is read where no complex constant begins with it
read_opening : (s : Stand) (rest : List Piece) (more : List Token) → (is_behind s ≡ false → behind_complex (marked 40 ∷ more) ≡ None) → IsCut rest more → ReadLexeme s (plain 40 ∷ rest) opening more
unfolding read_lexeme
read_opening s rest more none cut = read_single s 40 opening rest more refl refl refl refl refl (open_alone s more none) cut

-- a name is read as its lexeme
read_name : (s : Stand) (word : List ℕ) (rest : List Piece) (more : List Token) → is_word word ≡ true → may_stand s (symbol_of (name word)) ≡ true → Behind rest more → ReadLexeme s (map plain word ++ rest) (name word) more
unfolding read_lexeme
read_name s word rest more is may b = record {
  tokens = run_token word ∷ more;
  ahead = ahead_operand s (name word) (map plain word ++ rest) (run_token word ∷ more) refl may (word_cut word rest more is b.stops b.cut) refl refl;
  read = ap (λ b. if b then Some (name word, more) else None) is;
  shorter = omega arith;
}

-- ---- each lexeme

-- what is read of the pieces of a lexeme, where it may stand
abbrev IsRead : Stand → List Piece → List Token → List Piece → Lexeme → Type 0
IsRead s rest more first i =
    may_stand s (symbol_of i) ≡ true → Ahead (stand_behind i) rest more → (is_behind s ≡ false → i ≡ opening → behind_complex (marked 40 ∷ more) ≡ None) → ReadLexeme s (first ++ rest) i more

-- the lexeme and its pieces may be written otherwise
spelled : (s : Stand) (rest : List Piece) (more : List Token) (first pieces : List Piece) (i j : Lexeme) → pieces ≡ first → i ≡ j → IsRead s rest more first j → IsRead s rest more pieces i
spelled s rest more first pieces i j front is read = subst (λ (p : List Piece). IsRead s rest more p i) (sym front) (subst (IsRead s rest more first) (sym is) read)

-- each lexeme is read where it may stand
lexeme_read : (s : Stand) (first rest : List Piece) (more : List Token) (i : Lexeme) → IsLexeme first i → IsRead s rest more first i
unfolding read_lexeme
lexeme_read s first rest more i (lexeme_integer digits front number is) =
    spelled s rest more (map plain digits) first i (integer digits) front is (λ may a none. read_number_lexeme s digits (whole digits) rest more refl may a (whole_read digits rest more number a))
lexeme_read s first rest more i (lexeme_constant text front constants is) = spelled s rest more (map plain text) first i constant front is (λ may a none. read_constant s text rest more constants may a)
lexeme_read s first rest more i (lexeme_logical b front is) = spelled s rest more (map plain (logical_text b)) first i (logical b) front is (λ may a none. read_logical s b rest more may a.cut)
lexeme_read s first rest more i (lexeme_characters inside value front quoted some is) =
    spelled s rest more (kept_text (39 ∷ (inside ++ 39 ∷ [])) ∷ []) first i (characters value) front is (λ may a none. read_text s inside value rest more quoted some may a.cut)
lexeme_read s first rest more i (lexeme_name word front words is) = spelled s rest more (map plain word) first i (name word) front is (λ may a none. read_name s word rest more words may a)
lexeme_read s first rest more i (lexeme_alternate label front labels is) = spelled s rest more (map plain (42 ∷ label)) first i alternate front is (λ may a none. read_alternate s label rest more labels may a)
lexeme_read s first rest more i (lexeme_operator o front is) = spelled s rest more (map plain (operator_text o)) first i (operator o) front is (λ may a none. read_operator s o rest more may a)
lexeme_read s first rest more i (lexeme_not front is) = spelled s rest more (map plain (codes ".NOT.")) first i not_sign front is (λ may a none. between_operand s (codes "NOT") not_sign rest more refl refl refl may a.0)
lexeme_read s first rest more i (lexeme_open front is) = spelled s rest more (map plain (codes "(")) first i opening front is (λ may a none. read_opening s rest more (λ off. none off refl) a)
lexeme_read s first rest more i (lexeme_close front is) = spelled s rest more (map plain (codes ")")) first i closing front is (λ may a none. read_single s 41 closing rest more refl refl refl refl refl refl a.cut)
lexeme_read s first rest more i (lexeme_comma front is) = spelled s rest more (map plain (codes ",")) first i comma front is (λ may a none. read_single s 44 comma rest more refl refl refl refl refl refl a)
lexeme_read s first rest more i (lexeme_colon front is) = spelled s rest more (map plain (codes ":")) first i colon front is (λ may a none. read_single s 58 colon rest more refl refl refl refl refl refl a.0)

-- ---- all lexemes

-- the tokens of the pieces of some lexemes
record HasTokens (s : Stand) (pieces : List Piece) (lexemes : List Lexeme) : Type 0 where
  tokens : List Token
  ahead : Ahead s pieces tokens
  read : AreRead s tokens lexemes

-- nothing may stand anywhere
no_tokens : (s : Stand) → Ahead s [] []
no_tokens after_operand = record {
  cut = cut_nothing refl refl;
  stops = tt;
  no_run = refl;
  no_digits = refl;
  alone = λ d. refl;
}
no_tokens at_operand = (cut_nothing refl refl, refl, refl)
no_tokens at_argument = cut_nothing refl refl

-- a lexeme and the others are read
read_more : (s : Stand) (tokens more : List Token) (i : Lexeme) (others : List Lexeme) → length more < length tokens → read_lexeme s tokens ≡ Some (i, more) → AreRead (stand_behind i) more others → AreRead s tokens (i ∷ others)
read_more s tokens more i others shorter e read zero le = absurd (omega arith)
read_more s tokens more i others shorter e read (suc n) le = unrolled n s tokens more i e ∙ ap (option_map (λ is. i ∷ is)) (read n (omega arith))

-- an open parenthesis behind no operand begins no complex constant
no_complex_here : (s : Stand) (ls levels : List Bool) (i : Lexeme) (others : List Lexeme) (more : List Token) → levels_behind s ls (symbol_of i) ≡ Some levels → fits (stand_after (symbol_of i)) levels (map symbol_of others) ≡ true
    → AreRead (stand_behind i) more others → is_behind s ≡ false → i ≡ opening → behind_complex (marked 40 ∷ more) ≡ None
no_complex_here s ls levels i others more are fitting read off is =
    let opened : Some (is_behind s ∷ ls) ≡ Some levels = ap (λ (i : Lexeme). levels_behind s ls (symbol_of i)) (sym is) ∙ are in
    let same : false ∷ ls ≡ levels = ap (λ b. b ∷ ls) (sym off) ∙ same_Some (is_behind s ∷ ls) levels opened in
    no_complex ls more others (subst (λ (i : Lexeme). AreRead (stand_behind i) more others) is read)
    (ap (λ (i : Lexeme). fits (stand_after (symbol_of i)) (false ∷ ls) (map symbol_of others)) (sym is) ∙ ap (λ ls. fits (stand_after (symbol_of i)) ls (map symbol_of others)) same ∙ fitting)

-- what stands behind a lexeme is what stands behind its symbol
same_stand : (i : Lexeme) → stand_after (symbol_of i) ≡ stand_behind i
same_stand (integer d) = refl
same_stand constant = refl
same_stand (logical b) = refl
same_stand (characters v) = refl
same_stand (name x) = refl
same_stand alternate = refl
same_stand (operator o) = refl
same_stand not_sign = refl
same_stand opening = refl
same_stand closing = refl
same_stand comma = refl
same_stand colon = refl

-- the pieces of lexemes that may stand where they stand can be cut, and the tokens are read as the lexemes
tokens_found : (pieces : List Piece) (lexemes : List Lexeme) → AreLexemes pieces lexemes → (s : Stand) (ls : List Bool) → fits s ls (map symbol_of lexemes) ≡ true → HasTokens s pieces lexemes
tokens_found pieces lexemes (lexemes_none none end) s ls fitting =
    subst (λ (p : List Piece). HasTokens s p lexemes) (sym none) (subst (HasTokens s []) (sym end) (record {
      tokens = [];
      ahead = no_tokens s;
      read = λ n le. refl;
    }))
tokens_found pieces lexemes (lexemes_more {first = first} {rest = rest} {others = others} {i = i} front lexeme more is) s ls fitting =
    let f = first_fits s ls (symbol_of i) (map symbol_of others) (ap (λ (is : List Lexeme). fits s ls (map symbol_of is)) (sym is) ∙ fitting) in
    let h = tokens_found rest others more (stand_behind i) f.levels (ap (λ s. fits s f.levels (map symbol_of others)) (sym (same_stand i)) ∙ f.others) in
    let r = lexeme_read s first rest h.tokens i lexeme f.may h.ahead (no_complex_here s ls f.levels i others h.tokens f.are f.others h.read) in
    record {
      tokens = r.tokens;
      ahead = subst (λ (p : List Piece). Ahead s p r.tokens) (sym front) r.ahead;
      read = subst (AreRead s r.tokens) (sym is) (read_more s r.tokens h.tokens i others r.shorter r.read h.read);
    }

-- the pieces of lexemes that may stand where they stand can be cut, and the tokens are read as the lexemes
pub lexemes_only : (pieces : List Piece) (lexemes : List Lexeme) → AreLexemes pieces lexemes → fits at_operand [] (map symbol_of lexemes) ≡ true → (tokens : List Token) × IsCut pieces tokens × (lexemes_of tokens ≡ Some lexemes)
unfolding lexemes_of
lexemes_only pieces lexemes spelled fitting =
    let h = tokens_found pieces lexemes spelled at_operand [] fitting in
    (h.tokens, h.ahead.0, h.read (length h.tokens) (omega arith))
