-- Expressions stop at the first mark outside parentheses that stops one, and begin with what begins one.
use Rattle.std.proofs.Common.{◌≡◌, inl, inr, ℕ, suc, Bool, true, false, not, ◌&&◌, ◌==◌, List, [], ◌∷◌, ◌++◌, map, length, codes, Some, refl, sym, ap, ◌∙◌, subst, append_assoc, arith}
use Rattle.std.specs.Prelude.{if◌then◌else◌}
use Rattle.std.specs.List.{list_all}
use Rattle.std.proofs.lemmas.Bool.{and_parts}
use Rattle.std.proofs.lemmas.Bool.Decides.{nat_tests}
use Rattle.std.proofs.lemmas.List.{map-append, append-nil}
use Rattle.std.proofs.Math.Bool.{and-false}
use Rattle.std.proofs.lemmas.Option.{same_Some}
use Rattle.text_base.specs.Chars.{is_upper, is_digit, is_name_byte}
use Rattle.text_base.specs.Pieces.{Piece, plain, whole, broken}
use Rattle.tree77.specs.Kinds.{is_word, is_number, open_after}
use Rattle.text_base.specs.Trees.{BinaryOp, power, times, over, add, subtract, concat, less, less_equal, equal, not_equal, greater, greater_equal, conjunction, disjunction, equivalence, nonequivalence, Expr}
use Rattle.tree77.specs.Expressions as symbol
use Rattle.tree77.specs.Expressions.{Symbol, is_sum}
use Rattle.tree77.specs.Lexemes.{Lexeme, integer, constant, logical, characters, name, alternate, operator, not_sign, opening, closing, comma, colon, IsReal, real_point, real_exponent, IsComplex, IsConstant, is_label, operator_text, logical_text, IsLexeme, lexeme_integer, lexeme_constant, lexeme_logical, lexeme_characters, lexeme_name, lexeme_alternate, lexeme_operator, lexeme_not, lexeme_open, lexeme_close, lexeme_comma, lexeme_colon, AreLexemes, lexemes_none, lexemes_more, symbol_of, IsWideExpression}
use Rattle.tree77.specs.Stops.{is_stop, Stops, until_stop, begins_expression, Begins}
use Rattle.expr77.specs.LexemeReading.{Stand, at_operand, is_after}
use Rattle.expr77.proofs.ConstantTexts.{all_more, is_character, AreCharacters, digits_characters, number_characters, word_characters, real_characters, part_characters, hollerith_characters, logical_characters}
use Rattle.expr77.proofs.Standing.{stand_after, levels_behind, fits, fits_end, first_fits, expression_fits}

-- ---- characters

-- no parenthesis, and no mark that stops an expression
abbrev is_other : ℕ → Bool
is_other c = not (c == 40) && not (is_stop c)

-- a character of a number or a word is neither
character_is_other : (c : ℕ) → is_character c ≡ true → is_other c ≡ true
character_is_other c is = grind (arith, nat_tests)

-- a letter begins an expression
letter_begins : (c : ℕ) → is_upper c ≡ true → begins_expression c ≡ true
letter_begins c is = grind (arith, nat_tests)

-- a digit begins an expression
digit_begins : (c : ℕ) → is_digit c ≡ true → begins_expression c ≡ true
digit_begins c is = grind (arith, nat_tests)

-- another character leaves open what was open
other_stays : (n c : ℕ) → is_other c ≡ true → open_after n c ≡ n
other_stays n c is = grind (arith, nat_tests)

-- another character stops no expression
other_goes_on : (n c : ℕ) → is_other c ≡ true → (n == 0 && is_stop c) ≡ false
other_goes_on n c is = grind (arith, nat_tests)

-- ---- the search for the stop over some pieces

-- what was found, with these pieces before it
abbrev with_before : List Piece → List Piece × List Piece → List Piece × List Piece
with_before first p = (first ++ p.0, p.1)

-- where n parentheses are open, no piece of these stops an expression, and behind them m are open
abbrev Passes : List Piece → ℕ → ℕ → Type 0
Passes first n m = (rest : List Piece) → until_stop n (first ++ rest) ≡ with_before first (until_stop m rest)

-- one character that stops no expression
one_passes : (n m c : ℕ) → (n == 0 && is_stop c) ≡ false → open_after n c ≡ m → Passes (plain c ∷ []) n m
one_passes n m c on is rest =
    ap (λ b. if b then ([], plain c ∷ rest) else with_before (plain c ∷ []) (until_stop (open_after n c) rest)) on
    ∙ ap (λ k. with_before (plain c ∷ []) (until_stop k rest)) is

-- two parts, one after the other
both_pass : (u v : List Piece) (n m k : ℕ) → Passes u n m → Passes v m k → Passes (u ++ v) n k
both_pass u v n m k a b rest =
    ap (until_stop n) (append_assoc u v rest)
    ∙ a (v ++ rest)
    ∙ ap (with_before u) (b rest)
    ∙ ap (λ x. (x, (until_stop k rest).1)) (sym (append_assoc u v (until_stop k rest).0))

-- two texts, one after the other
texts_pass : (u v : List ℕ) (n m k : ℕ) → Passes (map plain u) n m → Passes (map plain v) m k → Passes (map plain (u ++ v)) n k
texts_pass u v n m k a b = subst (λ x. Passes x n k) (sym (map-append plain u v)) (both_pass (map plain u) (map plain v) n m k a b)

-- a text without parentheses and stops
text_passes : (n : ℕ) (u : List ℕ) → list_all is_other u ≡ true → Passes (map plain u) n n
text_passes n [] all = λ rest. refl
text_passes n (c ∷ u) all =
    let parts = and_parts (is_other c) (list_all is_other u) all in
    both_pass (plain c ∷ []) (map plain u) n n n (one_passes n n c (other_goes_on n c parts.0) (other_stays n c parts.0)) (text_passes n u parts.1)

-- a successor is not zero
suc_is_some : (n : ℕ) → (suc n == 0) ≡ false
suc_is_some n = grind (arith, nat_tests)

-- inside parentheses nothing stops an expression
some_open : (n c : ℕ) → (suc n == 0 && is_stop c) ≡ false
some_open n c = ap (λ b. b && is_stop c) (suc_is_some n)

-- a parenthesis that opens
open_passes : (n : ℕ) → Passes (plain 40 ∷ []) n (suc n)
open_passes n = one_passes n (suc n) 40 (and-false (n == 0)) (omega arith)

-- a parenthesis that closes
close_passes : (n : ℕ) → Passes (plain 41 ∷ []) (suc n) n
close_passes n = one_passes (suc n) n 41 (some_open n 41) (omega arith)

-- a comma or a colon in parentheses
inner_passes : (n c : ℕ) → open_after (suc n) c ≡ suc n → Passes (plain c ∷ []) (suc n) (suc n)
inner_passes n c is = one_passes (suc n) (suc n) c (some_open n c) is

-- ---- texts without parentheses and stops

-- a text without parentheses and stops
abbrev AreOther : List ℕ → Type 0
AreOther u = list_all is_other u ≡ true

-- a text of characters of numbers and words is one
are_other : (u : List ℕ) → AreCharacters u → AreOther u
are_other = all_more is_character is_other character_is_other

-- so is a label
label_other : (u : List ℕ) → is_label u ≡ true → AreOther u
label_other u is = are_other u (digits_characters u (and_parts (list_all is_digit u) _ is).0)

-- so is an operator
operator_other : (o : BinaryOp) → AreOther (operator_text o)
operator_other power = refl
operator_other times = refl
operator_other over = refl
operator_other add = refl
operator_other subtract = refl
operator_other concat = refl
operator_other less = refl
operator_other less_equal = refl
operator_other equal = refl
operator_other not_equal = refl
operator_other greater = refl
operator_other greater_equal = refl
operator_other conjunction = refl
operator_other disjunction = refl
operator_other equivalence = refl
operator_other nonequivalence = refl

-- ---- lexemes

-- a complex constant closes the parenthesis that it opens
complex_passes : (n : ℕ) (u : List ℕ) → IsComplex u → Passes (map plain u) n n
complex_passes n u c =
    let last : Passes (map plain (c.imaginary ++ 41 ∷ [])) (suc n) n =
    texts_pass c.imaginary (41 ∷ []) (suc n) (suc n) n (text_passes (suc n) c.imaginary (are_other c.imaginary (part_characters c.imaginary c.imaginary_part))) (close_passes n) in
    let second : Passes (map plain (44 ∷ (c.imaginary ++ 41 ∷ []))) (suc n) n =
    both_pass (plain 44 ∷ []) (map plain (c.imaginary ++ 41 ∷ [])) (suc n) (suc n) n (inner_passes n 44 refl) last in
    let first : Passes (map plain (c.real ++ 44 ∷ (c.imaginary ++ 41 ∷ []))) (suc n) n =
    texts_pass c.real (44 ∷ (c.imaginary ++ 41 ∷ [])) (suc n) (suc n) n (text_passes (suc n) c.real (are_other c.real (part_characters c.real c.real_part))) second in
    subst (λ x. Passes (map plain x) n n) (sym c.whole)
    (both_pass (plain 40 ∷ []) (map plain (c.real ++ 44 ∷ (c.imaginary ++ 41 ∷ []))) n (suc n) n (open_passes n) first)

-- a constant leaves open what was open
constant_passes : (n : ℕ) (u : List ℕ) → IsConstant u → Passes (map plain u) n n
constant_passes n u (inl is) = text_passes n u (are_other u (real_characters u is))
constant_passes n u (inr (inl is)) = complex_passes n u is
constant_passes n u (inr (inr is)) = text_passes n u (are_other u (hollerith_characters u is))

-- a lexeme of a text that leaves open what was open
stays : (first : List Piece) (u : List ℕ) (n m : ℕ) → first ≡ map plain u → n ≡ m → Passes (map plain u) n n → Passes first n m
stays first u n m front same passes = subst (λ x. Passes x n m) (sym front) (subst (Passes (map plain u) n) same passes)

-- as many are open
same_length : (ls levels : List Bool) → Some ls ≡ Some levels → length ls ≡ length levels
same_length ls levels e = ap length (same_Some ls levels e)

-- a closing parenthesis stands in one
closing_lexeme : (first : List Piece) (s : Stand) (ls levels : List Bool) → first ≡ map plain (codes ")") → levels_behind s ls symbol.closing ≡ Some levels → Passes first (length ls) (length levels)
closing_lexeme first s [] levels front e = absurd cc
closing_lexeme first s (l ∷ ls) levels front e = subst (λ x. Passes x (suc (length ls)) (length levels)) (sym front) (subst (Passes (plain 41 ∷ []) (suc (length ls))) (same_length ls levels e) (close_passes (length ls)))

-- so do a comma and a colon
inner_lexeme : (first : List Piece) (c : ℕ) (l : Bool) (ls levels : List Bool) → first ≡ plain c ∷ [] → ((m : ℕ) → open_after (suc m) c ≡ suc m) → Some (l ∷ ls) ≡ Some levels → Passes first (suc (length ls)) (length levels)
inner_lexeme first c l ls levels front inside e =
    subst (λ x. Passes x (suc (length ls)) (length levels)) (sym front) (subst (Passes (plain c ∷ []) (suc (length ls))) (same_length (l ∷ ls) levels e) (inner_passes (length ls) c (inside (length ls))))

comma_lexeme : (first : List Piece) (s : Stand) (ls levels : List Bool) → first ≡ map plain (codes ",") → levels_behind s ls symbol.comma ≡ Some levels → Passes first (length ls) (length levels)
comma_lexeme first s [] levels front e = absurd cc
comma_lexeme first s (false ∷ ls) levels front e = absurd cc
comma_lexeme first s (true ∷ ls) levels front e = inner_lexeme first 44 true ls levels front (λ m. refl) e

colon_lexeme : (first : List Piece) (s : Stand) (ls levels : List Bool) → first ≡ map plain (codes ":") → levels_behind s ls symbol.colon ≡ Some levels → Passes first (length ls) (length levels)
colon_lexeme first s [] levels front e = absurd cc
colon_lexeme first s (l ∷ ls) levels front e = inner_lexeme first 58 l ls levels front (λ m. refl) e

-- no lexeme stops an expression where its symbol may stand
lexeme_passes : (first : List Piece) (i : Lexeme) → IsLexeme first i → (s : Stand) (ls levels : List Bool) → levels_behind s ls (symbol_of i) ≡ Some levels → Passes first (length ls) (length levels)
lexeme_passes first i lexeme s ls levels e = go lexeme
  where
    n : ℕ
    n = length ls

    -- the same of the lexeme that it is
    at : (j : Lexeme) → i ≡ j → levels_behind s ls (symbol_of j) ≡ Some levels
    at j is = ap (λ x. levels_behind s ls (symbol_of x)) (sym is) ∙ e

    -- a text that leaves open what was open
    text : (u : List ℕ) (j : Lexeme) → first ≡ map plain u → i ≡ j → levels_behind s ls (symbol_of j) ≡ Some ls → Passes (map plain u) n n → Passes first n (length levels)
    text u j front is same passes = stays first u n (length levels) front (same_length ls levels (sym same ∙ at j is)) passes

    go : IsLexeme first i → Passes first n (length levels)
    go (lexeme_integer u front number is) = text u (integer u) front is refl (text_passes n u (are_other u (number_characters u number)))
    go (lexeme_constant u front refused is) = text u constant front is refl (constant_passes n u refused)
    go (lexeme_logical b front is) = text (logical_text b) (logical b) front is refl (text_passes n (logical_text b) (are_other (logical_text b) (logical_characters b)))
    go (lexeme_characters within value front quoted some is) =
        subst (λ x. Passes x n (length levels)) (sym front) (subst (Passes (whole (39 ∷ (within ++ 39 ∷ [])) ∷ []) n) (same_length ls levels (at (characters value) is)) (λ rest. refl))
    go (lexeme_name u front word is) = text u (name u) front is refl (text_passes n u (are_other u (word_characters u word)))
    go (lexeme_alternate u front label is) = text (42 ∷ u) alternate front is refl (text_passes n (42 ∷ u) (label_other u label))
    go (lexeme_operator o front is) = text (operator_text o) (operator o) front is refl (text_passes n (operator_text o) (operator_other o))
    go (lexeme_not front is) = text (codes ".NOT.") not_sign front is refl (text_passes n (codes ".NOT.") refl)
    go (lexeme_open front is) = subst (λ x. Passes x n (length levels)) (sym front) (subst (Passes (plain 40 ∷ []) n) (same_length (is_after s ∷ ls) levels (at opening is)) (open_passes n))
    go (lexeme_close front is) = closing_lexeme first s ls levels front (at closing is)
    go (lexeme_comma front is) = comma_lexeme first s ls levels front (at comma is)
    go (lexeme_colon front is) = colon_lexeme first s ls levels front (at colon is)

-- ---- all lexemes

-- where none is open, the search ends at what stops an expression
stops_here : (s : Stand) (ls : List Bool) (rest : List Piece) → fits_end s ls ≡ true → Stops rest → until_stop (length ls) rest ≡ ([], rest)
stops_here s [] [] closes stops = refl
stops_here s [] (plain c ∷ rest) closes stops = ap (λ b. if b then ([], plain c ∷ rest) else with_before (plain c ∷ []) (until_stop (open_after 0 c) rest)) stops
stops_here s [] (whole t ∷ rest) closes stops = absurd stops
stops_here s [] (broken t ∷ rest) closes stops = absurd stops
stops_here s (l ∷ ls) rest closes stops = absurd cc

-- where the lexemes close what is open, the search stops behind them
lexemes_stop : (pieces : List Piece) (lexemes : List Lexeme) → AreLexemes pieces lexemes → (s : Stand) (ls : List Bool) (rest : List Piece) → fits s ls (map symbol_of lexemes) ≡ true → Stops rest
    → until_stop (length ls) (pieces ++ rest) ≡ (pieces, rest)
lexemes_stop pieces lexemes (lexemes_none none empty) s ls rest fitting stops =
    let at_end : fits_end s ls ≡ true = ap (λ x. fits s ls (map symbol_of x)) (sym empty) ∙ fitting in
    ap (λ x. until_stop (length ls) (x ++ rest)) none ∙ stops_here s ls rest at_end stops ∙ ap (λ (x : List Piece). (x, rest)) (sym none)
lexemes_stop pieces lexemes (lexemes_more {first = first} {rest = behind} {others = others} {i = i} front lexeme follow is) s ls rest fitting stops =
    let f = first_fits s ls (symbol_of i) (map symbol_of others) (ap (λ x. fits s ls (map symbol_of x)) (sym is) ∙ fitting) in
    ap (λ x. until_stop (length ls) (x ++ rest)) front
    ∙ ap (until_stop (length ls)) (append_assoc first behind rest)
    ∙ lexeme_passes first i lexeme s ls f.levels f.are (behind ++ rest)
    ∙ ap (with_before first) (lexemes_stop behind others follow (stand_after (symbol_of i)) f.levels rest f.others stops)
    ∙ ap (λ (x : List Piece). (x, rest)) (sym front)

-- an expression ends at the first mark outside parentheses that stops one
pub wide_stops : (pieces rest : List Piece) (lexemes : List Lexeme) (x : Expr) → IsWideExpression pieces lexemes x → Stops rest → until_stop 0 (pieces ++ rest) ≡ (pieces, rest)
wide_stops pieces rest lexemes x wide stops = lexemes_stop pieces lexemes wide.spelled at_operand [] rest (expression_fits (map symbol_of lexemes) x wide.formed) stops

-- pieces begin with one expression at most that stops
pub wide_split : (pieces others rest behind : List Piece) (lexemes more : List Lexeme) (x y : Expr) → IsWideExpression pieces lexemes x → IsWideExpression others more y → Stops rest → Stops behind
    → pieces ++ rest ≡ others ++ behind → (pieces ≡ others) × (rest ≡ behind)
wide_split pieces others rest behind lexemes more x y wide other stops stops_too is =
    let same : (pieces, rest) ≡ (others, behind) = sym (wide_stops pieces rest lexemes x wide stops) ∙ ap (until_stop 0) is ∙ wide_stops others behind more y other stops_too in
    (ap (λ (p : List Piece × List Piece). p.0) same, ap (λ (p : List Piece × List Piece). p.1) same)

-- ---- what an expression begins with

-- a text that begins with such a character
abbrev begins_text : List ℕ → Bool
begins_text [] = false
begins_text (c ∷ u) = begins_expression c

-- pieces that begin with such a text begin as an expression does
text_begins : (first rest : List Piece) (u : List ℕ) → first ≡ map plain u → begins_text u ≡ true → Begins (first ++ rest)
text_begins first rest u front begins = subst (λ x. Begins (x ++ rest)) (sym front) (go u begins)
  where
    go : (u : List ℕ) → begins_text u ≡ true → Begins (map plain u ++ rest)
    go [] begins = absurd cc
    go (c ∷ u) begins = begins

-- a number is such a text
number_begins : (u v : List ℕ) → is_number u ≡ true → begins_text (u ++ v) ≡ true
number_begins [] v is = absurd cc
number_begins (c ∷ u) v is = digit_begins c (and_parts (is_digit c) (list_all is_digit u) is).0

-- so is a name
word_begins : (u : List ℕ) → is_word u ≡ true → begins_text u ≡ true
word_begins [] is = absurd cc
word_begins (c ∷ u) is = letter_begins c (and_parts (is_upper c) (list_all is_name_byte u) is).0

-- so are digits and a point, or a point alone
digits_begin : (u v : List ℕ) → list_all is_digit u ≡ true → begins_text (u ++ 46 ∷ v) ≡ true
digits_begin [] v is = refl
digits_begin (c ∷ u) v is = digit_begins c (and_parts (is_digit c) (list_all is_digit u) is).0

-- so is a real constant
real_begins : (u : List ℕ) → IsReal u → begins_text u ≡ true
real_begins u (real_point before after exponent is left right some ends) = ap begins_text is ∙ digits_begin before (after ++ exponent) left
real_begins u (real_exponent before exponent is left ends) = ap begins_text is ∙ number_begins before exponent left

-- so is each constant
constant_begins : (u : List ℕ) → IsConstant u → begins_text u ≡ true
constant_begins u (inl is) = real_begins u is
constant_begins u (inr (inl is)) = ap begins_text is.whole
constant_begins u (inr (inr is)) = ap begins_text is.whole ∙ number_begins is.count (72 ∷ is.kept) is.numbered

-- so is a logical constant
logical_begins : (b : Bool) → begins_text (logical_text b) ≡ true
logical_begins true = refl
logical_begins false = refl

-- so is a sign
sign_begins : (o : BinaryOp) → is_sum o ≡ true → begins_text (operator_text o) ≡ true
sign_begins add is = refl
sign_begins subtract is = refl
sign_begins _ is = absurd cc

-- a lexeme that may stand first begins as an expression does
lexeme_begins : (first rest : List Piece) (i : Lexeme) (others : List Symbol) → IsLexeme first i → fits at_operand [] (symbol_of i ∷ others) ≡ true → Begins (first ++ rest)
lexeme_begins first rest i others lexeme on = go lexeme
  where
    -- the same of the lexeme that it is
    at : (j : Lexeme) → i ≡ j → fits at_operand [] (symbol_of j ∷ others) ≡ true
    at j is = ap (λ x. fits at_operand [] (symbol_of x ∷ others)) (sym is) ∙ on

    never : false ≡ true → Begins (first ++ rest)
    never e = absurd cc

    go : IsLexeme first i → Begins (first ++ rest)
    go (lexeme_integer u front number is) = text_begins first rest u front (ap begins_text (sym (append-nil u)) ∙ number_begins u [] number)
    go (lexeme_constant u front refused is) = text_begins first rest u front (constant_begins u refused)
    go (lexeme_logical b front is) = text_begins first rest (logical_text b) front (logical_begins b)
    go (lexeme_characters within value front quoted some is) = subst (λ x. Begins (x ++ rest)) (sym front) tt
    go (lexeme_name u front word is) = text_begins first rest u front (word_begins u word)
    go (lexeme_alternate u front label is) = never (at alternate is)
    go (lexeme_operator o front is) = text_begins first rest (operator_text o) front (sign_begins o (first_fits at_operand [] (symbol.operator o) others (at (operator o) is)).may)
    go (lexeme_not front is) = text_begins first rest (codes ".NOT.") front refl
    go (lexeme_open front is) = text_begins first rest (codes "(") front refl
    go (lexeme_close front is) = never (at closing is)
    go (lexeme_comma front is) = never (at comma is)
    go (lexeme_colon front is) = never (at colon is)

-- so do lexemes of which the first may
lexemes_begin : (pieces : List Piece) (lexemes : List Lexeme) → AreLexemes pieces lexemes → fits at_operand [] (map symbol_of lexemes) ≡ true → Begins pieces
lexemes_begin pieces lexemes (lexemes_none none empty) on =
    let off : false ≡ true = ap (λ x. fits at_operand [] (map symbol_of x)) (sym empty) ∙ on in
    absurd cc
lexemes_begin pieces lexemes (lexemes_more {first = first} {rest = behind} {others = others} {i = i} front lexeme follow is) on =
    subst Begins (sym front) (lexeme_begins first behind i (map symbol_of others) lexeme (ap (λ x. fits at_operand [] (map symbol_of x)) (sym is) ∙ on))

-- an expression begins with what begins one
pub wide_begins : (pieces : List Piece) (lexemes : List Lexeme) (x : Expr) → IsWideExpression pieces lexemes x → Begins pieces
wide_begins pieces lexemes x wide = lexemes_begin pieces lexemes wide.spelled (expression_fits (map symbol_of lexemes) x wide.formed)
