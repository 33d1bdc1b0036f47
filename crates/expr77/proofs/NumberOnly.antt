-- Numbers are read whole where no run, no digits and no other part of a number follow them.
use Rattle.std.proofs.Common.{◌≡◌, ◌≢◌, ◌⊎◌, inl, inr, ℕ, suc, ◌<◌, ◌≤◌, ◌==◌, true, false, ◌||◌, List, [], ◌∷◌, ◌++◌, map, length, Some, None, refl, sym, ap, ◌∙◌, subst, arith}
use Rattle.std.specs.Prelude.{if◌then◌else◌}
use Rattle.std.specs.List.{list_all}
use Rattle.std.specs.Option.{option_map, option_and_then, option_or}
use Rattle.std.proofs.lemmas.Bool.{and_parts, and_from, or_parts}
use Rattle.std.proofs.lemmas.List.{append-nil}
use Rattle.text_base.specs.Chars.{is_upper, is_digit, is_name_byte}
use Rattle.text_base.specs.Pieces.{Piece, plain, whole as kept_text, broken}
use Rattle.text_base.proofs.CharTests.{digits_are_name_bytes}
use Rattle.tree77.specs.Kinds.{is_word, is_number}
use Rattle.tree77.specs.Tokens.{Token, run, digits, mark, is_mark, StopsAt, IsCut, cut_run, cut_digits, cut_mark}
use Rattle.tree77.specs.Lexemes.{IsSign, IsExponent, IsReal, real_point, real_exponent, IsPart, IsComplex}
use Rattle.expr77.specs.LexemeReading.{behind_mark, or_all, run_here, digits_here, is_exponent_letter, behind_exponent, behind_exponent_run, Number, whole, real, behind_digits, read_number, behind_part, behind_complex}

-- the token of a mark
abbrev pub marked : ℕ → Token
marked c = record { kind = mark; text = c ∷ [] }

-- the token of a run
abbrev pub run_token : List ℕ → Token
run_token t = record { kind = run; text = t }

-- the token of digits
abbrev pub number_token : List ℕ → Token
number_token t = record { kind = digits; text = t }

-- ---- pieces

-- the pieces of two texts, one after another
pub plain_append : (a b : List ℕ) (rest : List Piece) → map plain (a ++ b) ++ rest ≡ map plain a ++ (map plain b ++ rest)
plain_append [] b rest = refl
plain_append (c ∷ a) b rest = ap (λ (x : List Piece). plain c ∷ x) (plain_append a b rest)

-- where names stop, digits stop
pub digits_stop : (pieces : List Piece) → StopsAt is_name_byte pieces → StopsAt is_digit pieces
digits_stop [] stops = tt
digits_stop (plain c ∷ rest) stops = (or_parts (is_upper c) (is_digit c) ((or_parts (is_upper c || is_digit c) (c == 95) stops).0)).1
digits_stop (kept_text t ∷ rest) stops = tt
digits_stop (broken t ∷ rest) stops = tt

-- a word is one token
pub word_cut : (u : List ℕ) (rest : List Piece) (more : List Token) → is_word u ≡ true → StopsAt is_name_byte rest → IsCut rest more → IsCut (map plain u ++ rest) (run_token u ∷ more)
word_cut [] rest more word stops cut = absurd cc
word_cut (c ∷ u) rest more word stops cut = let parts = and_parts (is_upper c) (list_all is_name_byte u) word in cut_run c u refl parts.0 parts.1 stops cut refl

-- a number is one token
pub number_cut : (u : List ℕ) (rest : List Piece) (more : List Token) → is_number u ≡ true → StopsAt is_digit rest → IsCut rest more → IsCut (map plain u ++ rest) (number_token u ∷ more)
number_cut [] rest more number stops cut = absurd cc
number_cut (c ∷ u) rest more number stops cut = let parts = and_parts (is_digit c) (list_all is_digit u) number in cut_digits c u refl parts.0 parts.1 stops cut refl

-- ---- what follows an operand

-- what follows belongs to no number, no name and no Hollerith constant before it
pub record Behind (pieces : List Piece) (tokens : List Token) : Type 0 where
  pub cut : IsCut pieces tokens
  pub stops : StopsAt is_name_byte pieces
  pub no_run : run_here tokens ≡ None
  pub no_digits : digits_here tokens ≡ None
  pub alone : (d : List ℕ) → behind_digits d tokens (behind_exponent tokens) (behind_mark 46 tokens) ≡ (whole d, tokens)

-- no exponent stands there
no_exponent : (pieces : List Piece) (tokens : List Token) → Behind pieces tokens → behind_exponent tokens ≡ None
no_exponent pieces tokens b = ap (option_and_then (λ r. behind_exponent_run r.0 r.1)) b.no_run

-- a mark but a point
pub mark_behind : (c : ℕ) (pieces : List Piece) (tokens : List Token) → is_mark c ≡ true → is_name_byte c ≡ false → (c == 46) ≡ false → IsCut pieces tokens → Behind (plain c ∷ pieces) (marked c ∷ tokens)
mark_behind c pieces tokens marks off no_point cut = record {
  cut = cut_mark c refl marks cut refl;
  stops = off;
  no_run = refl;
  no_digits = refl;
  alone = λ d. ap (λ b. behind_digits d (marked c ∷ tokens) None (if b then Some tokens else None)) no_point;
}

-- ---- numbers

-- the tokens of a number, and what is read of them
pub record ReadNumber (text : List ℕ) (rest : List Piece) (more : List Token) (n : Number) : Type 0 where
  pub tokens : List Token
  pub cut : IsCut (map plain text ++ rest) tokens
  pub read : read_number tokens ≡ Some (n, more)
  pub shorter : length more < length tokens
  pub front : (c : ℕ) → (0 == c) ≡ false → (46 == c) ≡ false → behind_mark c tokens ≡ None

-- digits, and what follows them and belongs to their number
digits_first : (before tail : List ℕ) (rest : List Piece) (tokens more : List Token) (n : Number) → is_number before ≡ true → IsCut (map plain tail ++ rest) tokens → StopsAt is_digit (map plain tail ++ rest)
    → behind_digits before tokens (behind_exponent tokens) (behind_mark 46 tokens) ≡ (n, more) → length more ≤ length tokens → ReadNumber (before ++ tail) rest more n
unfolding read_number
digits_first before tail rest tokens more n number cut stops read shorter = record {
  tokens = number_token before ∷ tokens;
  cut = subst (λ (x : List Piece). IsCut x (number_token before ∷ tokens)) (sym (plain_append before tail rest)) (number_cut before (map plain tail ++ rest) tokens number stops cut);
  read = ap Some read;
  shorter = omega (arith, shorter);
  front = λ c zero point. ap (λ b. if b then Some tokens else None) zero;
}

-- an integer constant is read as its digits
pub whole_read : (u : List ℕ) (rest : List Piece) (more : List Token) → is_number u ≡ true → Behind rest more → ReadNumber u rest more (whole u)
whole_read u rest more number b = subst (λ t. ReadNumber t rest more (whole u)) (append-nil u) (digits_first u [] rest more more (whole u) number b.cut (digits_stop rest b.stops) (b.alone u) (omega arith))

-- the tokens of an exponent, and what is read of them
record ReadExponent (text : List ℕ) (rest : List Piece) (more : List Token) : Type 0 where
  tokens : List Token
  cut : IsCut (map plain text ++ rest) tokens
  stops : StopsAt is_digit (map plain text ++ rest)
  read : behind_exponent tokens ≡ Some more
  shorter : length more ≤ length tokens

-- an exponent without a sign is read to its end
plain_exponent : (letter : ℕ) (u : List ℕ) (rest : List Piece) (more : List Token) → is_upper letter ≡ true → is_exponent_letter letter ≡ true → is_digit letter ≡ false → is_number u ≡ true → Behind rest more
    → ReadExponent (letter ∷ u) rest more
plain_exponent letter [] rest more upper exponent off number b = absurd cc
plain_exponent letter (c ∷ u) rest more upper exponent off number b = record {
  tokens = run_token (letter ∷ c ∷ u) ∷ more;
  cut = cut_run letter (c ∷ u) refl upper (digits_are_name_bytes (c ∷ u) number) b.stops b.cut refl;
  stops = off;
  read = ap (λ b. if b then Some more else None) (and_from (is_exponent_letter letter) (list_all is_digit (c ∷ u)) exponent number);
  shorter = omega arith;
}

-- an exponent with a sign is read to its end
signed_exponent : (letter : ℕ) (u : List ℕ) (rest : List Piece) (more : List Token) (c : ℕ) → is_mark c ≡ true → is_name_byte c ≡ false
    → ((ts : List Token) → option_or (behind_mark 43 (marked c ∷ ts)) (behind_mark 45 (marked c ∷ ts)) ≡ Some ts)
    → is_upper letter ≡ true → is_exponent_letter letter ≡ true → is_digit letter ≡ false → is_number u ≡ true → Behind rest more → ReadExponent (letter ∷ c ∷ u) rest more
signed_exponent letter u rest more c marks apart signs upper exponent off number b = record {
  tokens = run_token (letter ∷ []) ∷ marked c ∷ number_token u ∷ more;
  cut = cut_run letter [] refl upper refl apart (cut_mark c refl marks (number_cut u rest more number (digits_stop rest b.stops) b.cut) refl) refl;
  stops = off;
  read = rw (exponent, signs (number_token u ∷ more)) refl;
  shorter = omega arith;
}

-- with or without a sign
sign_cases : (letter : ℕ) (sign u : List ℕ) (rest : List Piece) (more : List Token) → IsSign sign → is_upper letter ≡ true → is_exponent_letter letter ≡ true → is_digit letter ≡ false → is_number u ≡ true
    → Behind rest more → ReadExponent (letter ∷ (sign ++ u)) rest more
sign_cases letter sign u rest more (inl none) upper exponent off number b =
    subst (λ s. ReadExponent (letter ∷ (s ++ u)) rest more) (sym none) (plain_exponent letter u rest more upper exponent off number b)
sign_cases letter sign u rest more (inr (inl plus)) upper exponent off number b =
    subst (λ s. ReadExponent (letter ∷ (s ++ u)) rest more) (sym plus) (signed_exponent letter u rest more 43 refl refl (λ ts. refl) upper exponent off number b)
sign_cases letter sign u rest more (inr (inr minus)) upper exponent off number b =
    subst (λ s. ReadExponent (letter ∷ (s ++ u)) rest more) (sym minus) (signed_exponent letter u rest more 45 refl refl (λ ts. refl) upper exponent off number b)

-- an exponent is read to its end
exponent_read : (text : List ℕ) (rest : List Piece) (more : List Token) → IsExponent text → Behind rest more → ReadExponent text rest more
exponent_read text rest more e b = subst (λ t. ReadExponent t rest more) (sym e.whole) (go e.letter e.lettered)
  where
    go : (letter : ℕ) → (letter ≡ 69) ⊎ (letter ≡ 68) → ReadExponent (letter ∷ (e.sign ++ e.digits)) rest more
    go letter (inl is) = subst (λ l. ReadExponent (l ∷ (e.sign ++ e.digits)) rest more) (sym is) (sign_cases 69 e.sign e.digits rest more e.signed refl refl refl e.numbered b)
    go letter (inr is) = subst (λ l. ReadExponent (l ∷ (e.sign ++ e.digits)) rest more) (sym is) (sign_cases 68 e.sign e.digits rest more e.signed refl refl refl e.numbered b)

-- an exponent or none
record ReadTail (text : List ℕ) (rest : List Piece) (more : List Token) : Type 0 where
  tokens : List Token
  cut : IsCut (map plain text ++ rest) tokens
  stops : StopsAt is_digit (map plain text ++ rest)
  read : or_all tokens (behind_exponent tokens) ≡ more
  shorter : length more ≤ length tokens

-- an exponent or none is read to its end
tail_read : (text : List ℕ) (rest : List Piece) (more : List Token) → (text ≡ []) ⊎ IsExponent text → Behind rest more → ReadTail text rest more
tail_read text rest more (inl none) b = subst (λ t. ReadTail t rest more) (sym none) (record {
  tokens = more;
  cut = b.cut;
  stops = digits_stop rest b.stops;
  read = ap (or_all more) (no_exponent rest more b);
  shorter = omega arith;
})
tail_read text rest more (inr exponent) b =
    let e = exponent_read text rest more exponent b in
    record {
      tokens = e.tokens;
      cut = e.cut;
      stops = e.stops;
      read = ap (or_all e.tokens) e.read;
      shorter = e.shorter;
    }

-- ---- real constants

-- a point, digits, and an exponent or none
read_fraction : (after exponent : List ℕ) (rest : List Piece) (more : List Token) → is_number after ≡ true → (exponent ≡ []) ⊎ IsExponent exponent → Behind rest more
    → ReadNumber (46 ∷ (after ++ exponent)) rest more real
unfolding read_number
read_fraction after exponent rest more number ending b =
    let t = tail_read exponent rest more ending b in
    let shorter : length more ≤ length t.tokens = t.shorter in
    record {
      tokens = marked 46 ∷ number_token after ∷ t.tokens;
      cut = cut_mark 46 (ap (λ (x : List Piece). plain 46 ∷ x) (plain_append after exponent rest)) refl (number_cut after (map plain exponent ++ rest) t.tokens number t.stops t.cut) refl;
      read = ap (λ (ts : List Token). Some (real, ts)) t.read;
      shorter = omega arith;
      front = λ c zero point. ap (λ b. if b then Some (number_token after ∷ t.tokens) else None) point;
    }

-- digits before it too
read_both : (before after exponent : List ℕ) (rest : List Piece) (more : List Token) → is_number before ≡ true → is_number after ≡ true → (exponent ≡ []) ⊎ IsExponent exponent → Behind rest more
    → ReadNumber (before ++ 46 ∷ (after ++ exponent)) rest more real
read_both before after exponent rest more number fraction ending b =
    let t = tail_read exponent rest more ending b in
    let shorter : length more ≤ length t.tokens = t.shorter in
    let point : IsCut (plain 46 ∷ (map plain (after ++ exponent) ++ rest)) (marked 46 ∷ number_token after ∷ t.tokens) =
    cut_mark 46 (ap (λ (x : List Piece). plain 46 ∷ x) (plain_append after exponent rest)) refl (number_cut after (map plain exponent ++ rest) t.tokens fraction t.stops t.cut) refl in
    digits_first before (46 ∷ (after ++ exponent)) rest (marked 46 ∷ number_token after ∷ t.tokens) more real number point refl (ap (λ (ts : List Token). (real, ts)) t.read) (omega arith)

-- digits and a point
read_pointed : (before exponent : List ℕ) (rest : List Piece) (more : List Token) → is_number before ≡ true → (exponent ≡ []) ⊎ IsExponent exponent → Behind rest more
    → ReadNumber (before ++ 46 ∷ exponent) rest more real
read_pointed before exponent rest more number (inl none) b = subst (λ (t : List ℕ). ReadNumber (before ++ 46 ∷ t) rest more real) (sym none)
    (digits_first before (46 ∷ []) rest (marked 46 ∷ more) more real number (cut_mark 46 refl refl b.cut refl) refl (rw (no_exponent rest more b, b.no_run, b.no_digits) refl) (omega arith))
read_pointed before exponent rest more number (inr ending) b =
    let e = exponent_read exponent rest more ending b in
    let shorter : length more ≤ length e.tokens = e.shorter in
    digits_first before (46 ∷ exponent) rest (marked 46 ∷ e.tokens) more real number (cut_mark 46 refl refl e.cut refl) refl (rw e.read refl) (omega arith)

-- digits and an exponent
read_powered : (before exponent : List ℕ) (rest : List Piece) (more : List Token) → is_number before ≡ true → IsExponent exponent → Behind rest more → ReadNumber (before ++ exponent) rest more real
read_powered before exponent rest more number ending b =
    let e = exponent_read exponent rest more ending b in
    digits_first before exponent rest e.tokens more real number e.cut e.stops (rw e.read refl) e.shorter

-- a real constant is read to its end
pub real_read : (text : List ℕ) (rest : List Piece) (more : List Token) → IsReal text → Behind rest more → ReadNumber text rest more real
real_read text rest more (real_point before after exponent is all others some ending) b = subst (λ (t : List ℕ). ReadNumber t rest more real) (sym is) (go before after all others some)
  where
    go : (before after : List ℕ) → list_all is_digit before ≡ true → list_all is_digit after ≡ true → before ++ after ≢ [] → ReadNumber (before ++ 46 ∷ (after ++ exponent)) rest more real
    go [] [] all others some = absurd (some refl)
    go [] (d ∷ after) all others some = read_fraction (d ∷ after) exponent rest more others ending b
    go (c ∷ before) [] all others some = read_pointed (c ∷ before) exponent rest more all ending b
    go (c ∷ before) (d ∷ after) all others some = read_both (c ∷ before) (d ∷ after) exponent rest more all others ending b
real_read text rest more (real_exponent before exponent is number ending) b = subst (λ (t : List ℕ). ReadNumber t rest more real) (sym is) (read_powered before exponent rest more number ending b)

-- ---- complex constants

-- the tokens of a part of a complex constant, and what is read of them
record ReadPart (text : List ℕ) (rest : List Piece) (more : List Token) : Type 0 where
  tokens : List Token
  cut : IsCut (map plain text ++ rest) tokens
  read : behind_part tokens ≡ Some more
  shorter : length more ≤ length tokens

-- a number with a sign or none is read to its end
part_of : (sign text : List ℕ) (n : Number) (rest : List Piece) (more : List Token) → IsSign sign → ReadNumber text rest more n → ReadPart (sign ++ text) rest more
part_of sign text n rest more (inl none) r =
    let shorter : length more < length r.tokens = r.shorter in
    subst (λ (s : List ℕ). ReadPart (s ++ text) rest more) (sym none) (record {
      tokens = r.tokens;
      cut = r.cut;
      read = rw (r.front 43 refl refl, r.front 45 refl refl) (ap (option_map (λ n. n.1)) r.read);
      shorter = omega arith;
    })
part_of sign text n rest more (inr (inl plus)) r =
    let shorter : length more < length r.tokens = r.shorter in
    subst (λ (s : List ℕ). ReadPart (s ++ text) rest more) (sym plus) (record {
      tokens = marked 43 ∷ r.tokens;
      cut = cut_mark 43 refl refl r.cut refl;
      read = ap (option_map (λ n. n.1)) r.read;
      shorter = omega arith;
    })
part_of sign text n rest more (inr (inr minus)) r =
    let shorter : length more < length r.tokens = r.shorter in
    subst (λ (s : List ℕ). ReadPart (s ++ text) rest more) (sym minus) (record {
      tokens = marked 45 ∷ r.tokens;
      cut = cut_mark 45 refl refl r.cut refl;
      read = ap (option_map (λ n. n.1)) r.read;
      shorter = omega arith;
    })

-- a part is read to its end
part_read : (text : List ℕ) (rest : List Piece) (more : List Token) → IsPart text → Behind rest more → ReadPart text rest more
part_read text rest more p b = subst (λ (t : List ℕ). ReadPart t rest more) (sym p.whole) (go p.numeric)
  where
    go : (is_number p.number ≡ true) ⊎ IsReal p.number → ReadPart (p.sign ++ p.number) rest more
    go (inl number) = part_of p.sign p.number (whole p.number) rest more p.signed (whole_read p.number rest more number b)
    go (inr is) = part_of p.sign p.number real rest more p.signed (real_read p.number rest more is b)

-- the tokens of a complex constant, which is read as a whole
pub record ReadComplex (text : List ℕ) (rest : List Piece) (more : List Token) : Type 0 where
  pub others : List Token
  pub cut : IsCut (map plain text ++ rest) (marked 40 ∷ others)
  pub read : behind_complex (marked 40 ∷ others) ≡ Some more
  pub shorter : length more ≤ length others

-- a complex constant is read to its end
pub complex_read : (text : List ℕ) (rest : List Piece) (more : List Token) → IsComplex text → IsCut rest more → ReadComplex text rest more
unfolding behind_complex
complex_read text rest more x cut =
    let b = part_read x.imaginary (plain 41 ∷ rest) (marked 41 ∷ more) x.imaginary_part (mark_behind 41 rest more refl refl refl cut) in
    let a = part_read x.real (plain 44 ∷ (map plain x.imaginary ++ plain 41 ∷ rest)) (marked 44 ∷ b.tokens) x.real_part (mark_behind 44 (map plain x.imaginary ++ plain 41 ∷ rest) b.tokens refl refl refl b.cut) in
    let first : suc (length b.tokens) ≤ length a.tokens = a.shorter in
    let second : suc (length more) ≤ length b.tokens = b.shorter in
    let front : map plain (x.real ++ 44 ∷ (x.imaginary ++ 41 ∷ [])) ++ rest ≡ map plain x.real ++ plain 44 ∷ (map plain x.imaginary ++ plain 41 ∷ rest) =
    plain_append x.real (44 ∷ (x.imaginary ++ 41 ∷ [])) rest ∙ ap (λ (p : List Piece). map plain x.real ++ plain 44 ∷ p) (plain_append x.imaginary (41 ∷ []) rest) in
    subst (λ (t : List ℕ). ReadComplex t rest more) (sym x.whole) (record {
      others = a.tokens;
      cut = cut_mark 40 (ap (λ (p : List Piece). plain 40 ∷ p) front) refl a.cut refl;
      read = rw a.read (rw b.read refl);
      shorter = omega arith;
    })
