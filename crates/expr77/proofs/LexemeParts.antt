-- The parts of lexemes that are read stand at the front of the tokens: marks, signs, numbers and constants.
use Rattle.std.proofs.Common.{◌≡◌, ◌≢◌, ◌⊎◌, inl, inr, ℕ, Bool, true, false, ◌&&◌, ◌==◌, List, [], ◌∷◌, ◌++◌, map, Option, Some, None, refl, sym, ap, ◌∙◌, subst, append_assoc}
use Rattle.std.specs.Prelude.{if◌then◌else◌}
use Rattle.std.specs.List.{list_all, flat_map}
use Rattle.std.specs.Option.{option_map, option_and_then, option_or}
use Rattle.std.proofs.lemmas.Bool.{and_parts, or_cases, eqb-true}
use Rattle.std.proofs.lemmas.List.{append-nil, map-append}
use Rattle.std.proofs.lemmas.Option.{same_Some}
use Rattle.text_base.specs.Chars.{is_digit, is_upper, is_name_byte}
use Rattle.text_base.specs.Pieces.{Piece, plain}
use Rattle.tree77.specs.Kinds.{is_word, is_number}
use Rattle.tree77.specs.Tokens.{Token, TokenKind, run, digits, kept, mark, token_pieces}
use Rattle.tree77.specs.Lexemes.{IsSign, IsExponent, IsReal, real_point, real_exponent, IsPart, IsComplex}
use Rattle.scan77.specs.TokenReading.{IsFormed, AllFormed}
use Rattle.text_base.proofs.Optional.{went, mapped, either}
use Rattle.expr77.specs.LexemeReading as reading
use Rattle.expr77.specs.LexemeReading.{Number, real, character_of, first_or_0, behind_mark, or_all, behind_sign, run_here, digits_here, is_exponent_letter, behind_exponent_run, behind_exponent, behind_point, behind_digits, number_from, read_number, behind_part, behind_complex, begins_with_h, behind_hollerith}

-- ---- tokens and their pieces

-- the pieces of tokens, one token after another
abbrev pub pieces_of_tokens : List Token → List Piece
pieces_of_tokens = flat_map token_pieces

-- ---- a text at the front

-- the tokens begin with this text, outside kept texts, and the rest follows
pub record Behind (text : List ℕ) (tokens rest : List Token) : Type 0 where
  pub front : pieces_of_tokens tokens ≡ map plain text ++ pieces_of_tokens rest
  pub formed : AllFormed rest

-- the tokens begin with such a text
pub record BeginsWith (Rule : List ℕ → Type 0) (tokens rest : List Token) : Type 0 where
  pub text : List ℕ
  pub behind : Behind text tokens rest
  pub is : Rule text

-- no characters, and all tokens follow
nothing_read : (ts : List Token) → AllFormed ts → Behind [] ts ts
nothing_read ts all = record { front = refl; formed = all }

-- one text and then another
pub joined : (u v : List ℕ) (a b c : List Token) → Behind u a b → Behind v b c → Behind (u ++ v) a c
joined u v a b c p q =
    record {
      front = p.front
          ∙ ap (λ (x : List Piece). map plain u ++ x) q.front
          ∙ sym (append_assoc (map plain u) (map plain v) (pieces_of_tokens c))
          ∙ ap (λ (x : List Piece). x ++ pieces_of_tokens c) (sym (map-append plain u v));
      formed = q.formed;
    }

-- the first token is the text
pub first_read : (t : Token) (ts rest : List Token) (text : List ℕ) → token_pieces t ≡ map plain text → ts ≡ rest → AllFormed ts → Behind text (t ∷ ts) rest
first_read t ts rest text whole same all =
    record { front = ap (λ (x : List Piece). x ++ pieces_of_tokens ts) whole ∙ ap (λ (r : List Token). map plain text ++ pieces_of_tokens r) same; formed = subst AllFormed same all }

-- ---- single tokens

-- a mark that is read is its character
pub mark_found : (c : ℕ) (ts rest : List Token) → (0 == c) ≡ false → AllFormed ts → behind_mark c ts ≡ Some rest → Behind (c ∷ []) ts rest
mark_found c [] rest other all e = absurd cc
mark_found c (t ∷ ts) rest other all e = go t.kind t.text all.0 (character_of t.kind t.text == c) refl e
  where
    go : (k : TokenKind) (x : List ℕ) → IsFormed k x → (b : Bool) → (character_of k x == c) ≡ b → (if b then Some ts else None) ≡ Some rest → Behind (c ∷ []) (record { kind = k; text = x } ∷ ts) rest
    go k x formed false is e = absurd cc
    go run x formed true is e = absurd cc
    go digits x formed true is e = absurd cc
    go kept x formed true is e = absurd cc
    go mark x formed true is e =
        let first : formed.0 ≡ c = sym (ap first_or_0 formed.1) ∙ eqb-true (first_or_0 x) c is in
        let whole : x ≡ c ∷ [] = formed.1 ∙ ap (λ (n : ℕ). n ∷ []) first in
        first_read (record { kind = mark; text = x }) ts rest (c ∷ []) (ap (map plain) whole) (same_Some ts rest e) all.1

-- a run that is read is a word
pub run_found : (ts : List Token) (r : List ℕ × List Token) → AllFormed ts → run_here ts ≡ Some r → Behind r.0 ts r.1 × (is_word r.0 ≡ true)
run_found [] r all e = absurd cc
run_found (t ∷ ts) r all e = go t.kind t.text all.0 e
  where
    go : (k : TokenKind) (x : List ℕ) → IsFormed k x → run_here (record { kind = k; text = x } ∷ ts) ≡ Some r → Behind r.0 (record { kind = k; text = x } ∷ ts) r.1 × (is_word r.0 ≡ true)
    go run x formed e =
        subst (λ (q : List ℕ × List Token). Behind q.0 (record { kind = run; text = x } ∷ ts) q.1 × (is_word q.0 ≡ true)) (same_Some (x, ts) r e)
        (first_read (record { kind = run; text = x }) ts ts x refl refl all.1, formed)
    go digits x formed e = absurd cc
    go kept x formed e = absurd cc
    go mark x formed e = absurd cc

-- digits that are read are a number
pub digits_found : (ts : List Token) (r : List ℕ × List Token) → AllFormed ts → digits_here ts ≡ Some r → Behind r.0 ts r.1 × (is_number r.0 ≡ true)
digits_found [] r all e = absurd cc
digits_found (t ∷ ts) r all e = go t.kind t.text all.0 e
  where
    go : (k : TokenKind) (x : List ℕ) → IsFormed k x → digits_here (record { kind = k; text = x } ∷ ts) ≡ Some r → Behind r.0 (record { kind = k; text = x } ∷ ts) r.1 × (is_number r.0 ≡ true)
    go digits x formed e =
        subst (λ (q : List ℕ × List Token). Behind q.0 (record { kind = digits; text = x } ∷ ts) q.1 × (is_number q.0 ≡ true)) (same_Some (x, ts) r e)
        (first_read (record { kind = digits; text = x }) ts ts x refl refl all.1, formed)
    go run x formed e = absurd cc
    go kept x formed e = absurd cc
    go mark x formed e = absurd cc

-- ---- signs and exponents

-- a sign that is read is plus or minus
sign_found : (ts rest : List Token) → AllFormed ts → option_or (behind_mark 43 ts) (behind_mark 45 ts) ≡ Some rest → BeginsWith IsSign ts rest
sign_found ts rest all e = go (either (behind_mark 43 ts) (behind_mark 45 ts) rest e)
  where
    go : (behind_mark 43 ts ≡ Some rest) ⊎ (behind_mark 45 ts ≡ Some rest) → BeginsWith IsSign ts rest
    go (inl e) = record { text = 43 ∷ []; behind = mark_found 43 ts rest refl all e; is = inr (inl refl) }
    go (inr e) = record { text = 45 ∷ []; behind = mark_found 45 ts rest refl all e; is = inr (inr refl) }

-- a sign, or none
any_sign_found : (ts : List Token) → AllFormed ts → BeginsWith IsSign ts (behind_sign ts)
any_sign_found ts all = go (option_or (behind_mark 43 ts) (behind_mark 45 ts)) refl
  where
    go : (o : Option (List Token)) → option_or (behind_mark 43 ts) (behind_mark 45 ts) ≡ o → BeginsWith IsSign ts (or_all ts o)
    go None e = record { text = []; behind = nothing_read ts all; is = inl refl }
    go (Some rest) e = sign_found ts rest all e

-- the letter of an exponent is E or D
exponent_letter : (c : ℕ) → is_exponent_letter c ≡ true → (c ≡ 69) ⊎ (c ≡ 68)
exponent_letter c is = go (or_cases (c == 69) (c == 68) is)
  where
    go : (c == 69 ≡ true) ⊎ (c == 68 ≡ true) → (c ≡ 69) ⊎ (c ≡ 68)
    go (inl e) = inl (eqb-true c 69 e)
    go (inr e) = inr (eqb-true c 68 e)

-- what follows the run of an exponent completes the exponent
exponent_run_found : (t : List ℕ) (rest after : List Token) → AllFormed rest → behind_exponent_run t rest ≡ Some after → BeginsWith (λ u. IsExponent (t ++ u)) rest after
exponent_run_found [] rest after all e = absurd cc
exponent_run_found (c ∷ []) rest after all e = go (is_exponent_letter c) refl e
  where
    go : (b : Bool) → is_exponent_letter c ≡ b
        → (if b then option_and_then (λ more. option_map (λ d. d.1) (digits_here more)) (option_or (behind_mark 43 rest) (behind_mark 45 rest)) else None) ≡ Some after
        → BeginsWith (λ u. IsExponent ((c ∷ []) ++ u)) rest after
    go false is e = absurd cc
    go true is e =
        let w = went (option_or (behind_mark 43 rest) (behind_mark 45 rest)) (λ more. option_map (λ d. d.1) (digits_here more)) after e in
        let s = sign_found rest w.from all w.was in
        let m = mapped (digits_here w.from) (λ d. d.1) after w.is in
        let d = digits_found w.from m.from s.behind.formed m.was in
        record {
          text = s.text ++ m.from.0;
          behind = subst (Behind (s.text ++ m.from.0) rest) m.is (joined s.text m.from.0 rest w.from m.from.1 s.behind d.0);
          is = record { letter = c; sign = s.text; digits = m.from.0; whole = refl; lettered = exponent_letter c is; signed = s.is; numbered = d.1 };
        }
exponent_run_found (c ∷ d ∷ t) rest after all e = go (is_exponent_letter c && list_all is_digit (d ∷ t)) refl e
  where
    go : (b : Bool) → (is_exponent_letter c && list_all is_digit (d ∷ t)) ≡ b → (if b then Some rest else None) ≡ Some after → BeginsWith (λ u. IsExponent ((c ∷ d ∷ t) ++ u)) rest after
    go false is e = absurd cc
    go true is e =
        let parts = and_parts (is_exponent_letter c) (list_all is_digit (d ∷ t)) is in
        record {
          text = [];
          behind = subst (Behind [] rest) (same_Some rest after e) (nothing_read rest all);
          is = record {
            letter = c;
            sign = [];
            digits = d ∷ t;
            whole = append-nil (c ∷ d ∷ t);
            lettered = exponent_letter c parts.0;
            signed = inl refl;
            numbered = parts.1;
          };
        }

-- an exponent that is read is one
pub exponent_found : (ts rest : List Token) → AllFormed ts → behind_exponent ts ≡ Some rest → BeginsWith IsExponent ts rest
exponent_found ts rest all e =
    let w = went (run_here ts) (λ r. behind_exponent_run r.0 r.1) rest e in
    let r = run_found ts w.from all w.was in
    let x = exponent_run_found w.from.0 w.from.1 rest r.0.formed w.is in
    record { text = w.from.0 ++ x.text; behind = joined w.from.0 x.text ts w.from.1 rest r.0 x.behind; is = x.is }

-- nothing, or an exponent
abbrev IsAnyExponent : List ℕ → Type 0
IsAnyExponent text = (text ≡ []) ⊎ IsExponent text

-- an exponent, or none
any_exponent_found : (ts : List Token) → AllFormed ts → BeginsWith IsAnyExponent ts (or_all ts (behind_exponent ts))
any_exponent_found ts all = go (behind_exponent ts) refl
  where
    go : (o : Option (List Token)) → behind_exponent ts ≡ o → BeginsWith IsAnyExponent ts (or_all ts o)
    go None e = record { text = []; behind = nothing_read ts all; is = inl refl }
    go (Some rest) e = let x = exponent_found ts rest all e in record { text = x.text; behind = x.behind; is = inr x.is }

-- ---- numbers

-- what a number without a sign is written as
abbrev pub IsNumberText : Number → List ℕ → Type 0
IsNumberText (reading.whole d) text = (text ≡ d) × (is_number d ≡ true)
IsNumberText real text = IsReal text

-- a number has digits alone
number_digits : (d : List ℕ) → is_number d ≡ true → list_all is_digit d ≡ true
number_digits [] e = absurd cc
number_digits (c ∷ t) e = e

-- a number has a digit
number_some : (d : List ℕ) → is_number d ≡ true → d ≢ []
number_some [] e none = absurd cc
number_some (c ∷ t) e none = absurd cc

-- a number with more behind it isn't empty
number_not_empty : (d u : List ℕ) → is_number d ≡ true → d ++ u ≢ []
number_not_empty [] u e none = absurd cc
number_not_empty (c ∷ t) u e none = absurd cc

-- what follows digits and belongs to their number
abbrev Digits : List ℕ → List Token → Number × List Token → Type 0
Digits d rest n = BeginsWith (λ u. IsNumberText n.0 (d ++ u)) rest n.1

-- digits with nothing more are an integer constant
no_more_digits : (d : List ℕ) (rest : List Token) → is_number d ≡ true → AllFormed rest → Digits d rest (reading.whole d, rest)
no_more_digits d rest number all = record { text = []; behind = nothing_read rest all; is = (append-nil d, number) }

-- what is read behind digits and a point belongs to their number
point_found : (d : List ℕ) (rest more : List Token) → is_number d ≡ true → AllFormed rest → Behind (46 ∷ []) rest more → Digits d rest (behind_point d rest more (behind_exponent more) (run_here more) (digits_here more))
point_found d rest more number all point = go (behind_exponent more) (run_here more) (digits_here more) refl refl
  where
    go : (after : Option (List Token)) (word fraction : Option (List ℕ × List Token)) → behind_exponent more ≡ after → digits_here more ≡ fraction → Digits d rest (behind_point d rest more after word fraction)
    go (Some after) word fraction e f =
        let x = exponent_found more after point.formed e in
        record {
          text = 46 ∷ x.text;
          behind = joined (46 ∷ []) x.text rest more after point x.behind;
          is = real_point d [] x.text refl (number_digits d number) refl (number_not_empty d [] number) (inr x.is);
        }
    go None (Some word) fraction e f = no_more_digits d rest number all
    go None None (Some fraction) e f =
        let g = digits_found more fraction point.formed f in
        let x = any_exponent_found fraction.1 g.0.formed in
        record {
          text = 46 ∷ (fraction.0 ++ x.text);
          behind = joined (46 ∷ []) (fraction.0 ++ x.text) rest more (or_all fraction.1 (behind_exponent fraction.1)) point
              (joined fraction.0 x.text more fraction.1 (or_all fraction.1 (behind_exponent fraction.1)) g.0 x.behind);
          is = real_point d fraction.0 x.text refl (number_digits d number) (number_digits fraction.0 g.1) (number_not_empty d fraction.0 number) x.is;
        }
    go None None None e f =
        record { text = 46 ∷ []; behind = point; is = real_point d [] [] refl (number_digits d number) refl (number_not_empty d [] number) (inl refl) }

-- what is read behind digits belongs to their number
after_digits_found : (d : List ℕ) (rest : List Token) → is_number d ≡ true → AllFormed rest → Digits d rest (behind_digits d rest (behind_exponent rest) (behind_mark 46 rest))
after_digits_found d rest number all = go (behind_exponent rest) (behind_mark 46 rest) refl refl
  where
    go : (after point : Option (List Token)) → behind_exponent rest ≡ after → behind_mark 46 rest ≡ point → Digits d rest (behind_digits d rest after point)
    go (Some after) point e f = let x = exponent_found rest after all e in record { text = x.text; behind = x.behind; is = real_exponent d x.text refl number x.is }
    go None (Some more) e f = point_found d rest more number all (mark_found 46 rest more refl all f)
    go None None e f = no_more_digits d rest number all

-- a number that is read is an integer constant or a real one
pub number_found : (ts : List Token) (n : Number × List Token) → AllFormed ts → read_number ts ≡ Some n → BeginsWith (IsNumberText n.0) ts n.1
unfolding read_number
number_found ts n all e = go (digits_here ts) refl e
  where
    go : (o : Option (List ℕ × List Token)) → digits_here ts ≡ o → number_from ts o ≡ Some n → BeginsWith (IsNumberText n.0) ts n.1
    go (Some d) here e =
        let f = digits_found ts d all here in
        let after = behind_digits d.0 d.1 (behind_exponent d.1) (behind_mark 46 d.1) in
        let x = after_digits_found d.0 d.1 f.1 f.0.formed in
        subst (λ (q : Number × List Token). BeginsWith (IsNumberText q.0) ts q.1) (same_Some after n e) (record { text = d.0 ++ x.text; behind = joined d.0 x.text ts d.1 after.1 f.0 x.behind; is = x.is })
    go None here e =
        let m = mapped (option_and_then digits_here (behind_mark 46 ts)) (λ d. (real, or_all d.1 (behind_exponent d.1))) n e in
        let w = went (behind_mark 46 ts) digits_here m.from m.was in
        let point = mark_found 46 ts w.from refl all w.was in
        let g = digits_found w.from m.from point.formed w.is in
        let x = any_exponent_found m.from.1 g.0.formed in
        let after = or_all m.from.1 (behind_exponent m.from.1) in
        subst (λ (q : Number × List Token). BeginsWith (IsNumberText q.0) ts q.1) m.is
        (record {
          text = 46 ∷ (m.from.0 ++ x.text);
          behind = joined (46 ∷ []) (m.from.0 ++ x.text) ts w.from after point (joined m.from.0 x.text w.from m.from.1 after g.0 x.behind);
          is = real_point [] m.from.0 x.text refl refl (number_digits m.from.0 g.1) (number_some m.from.0 g.1) x.is;
        })

-- ---- complex and Hollerith constants

-- a part of a complex constant that is read is one
pub part_found : (ts rest : List Token) → AllFormed ts → behind_part ts ≡ Some rest → BeginsWith IsPart ts rest
part_found ts rest all e =
    let s = any_sign_found ts all in
    let m = mapped (read_number (behind_sign ts)) (λ n. n.1) rest e in
    let n = number_found (behind_sign ts) m.from s.behind.formed m.was in
    record {
      text = s.text ++ n.text;
      behind = subst (Behind (s.text ++ n.text) ts) m.is (joined s.text n.text ts (behind_sign ts) m.from.1 s.behind n.behind);
      is = record { sign = s.text; number = n.text; whole = refl; signed = s.is; numeric = numeric m.from.0 n.text n.is };
    }
  where
    numeric : (n : Number) (text : List ℕ) → IsNumberText n text → (is_number text ≡ true) ⊎ IsReal text
    numeric (reading.whole d) text is = inl (ap is_number is.0 ∙ is.1)
    numeric real text is = inr is

-- a complex constant that is read is one
pub complex_found : (ts rest : List Token) → AllFormed ts → behind_complex ts ≡ Some rest → BeginsWith IsComplex ts rest
unfolding behind_complex
complex_found ts rest all e =
    let d = went (option_and_then behind_part (option_and_then (behind_mark 44) (option_and_then behind_part (behind_mark 40 ts)))) (behind_mark 41) rest e in
    let c = went (option_and_then (behind_mark 44) (option_and_then behind_part (behind_mark 40 ts))) behind_part d.from d.was in
    let b = went (option_and_then behind_part (behind_mark 40 ts)) (behind_mark 44) c.from c.was in
    let a = went (behind_mark 40 ts) behind_part b.from b.was in
    let open_ = mark_found 40 ts a.from refl all a.was in
    let first = part_found a.from b.from open_.formed a.is in
    let comma_ = mark_found 44 b.from c.from refl first.behind.formed b.is in
    let second = part_found c.from d.from comma_.formed c.is in
    let close = mark_found 41 d.from rest refl second.behind.formed d.is in
    record {
      text = 40 ∷ (first.text ++ 44 ∷ (second.text ++ 41 ∷ []));
      behind =
          joined (40 ∷ []) (first.text ++ 44 ∷ (second.text ++ 41 ∷ [])) ts a.from rest open_
          (joined first.text (44 ∷ (second.text ++ 41 ∷ [])) a.from b.from rest first.behind
          (joined (44 ∷ []) (second.text ++ 41 ∷ []) b.from c.from rest comma_ (joined second.text (41 ∷ []) c.from d.from rest second.behind close)));
      is = parts first.text second.text first.is second.is;
    }
  where
    parts : (a b : List ℕ) → IsPart a → IsPart b → IsComplex (40 ∷ (a ++ 44 ∷ (b ++ 41 ∷ [])))
    parts a b first second = record { real = a; imaginary = b; whole = refl; real_part = first; imaginary_part = second }

-- H and letters, digits and underscores
abbrev pub IsKeptText : List ℕ → Type 0
IsKeptText text = (inside : List ℕ) × (text ≡ 72 ∷ inside) × (list_all is_name_byte inside ≡ true)

-- what is read behind the digits of a Hollerith constant begins with H
pub hollerith_found : (ts rest : List Token) → AllFormed ts → behind_hollerith ts ≡ Some rest → BeginsWith IsKeptText ts rest
hollerith_found ts rest all e =
    let w = went (run_here ts) (λ r. if begins_with_h r.0 then Some r.1 else None) rest e in
    let r = run_found ts w.from all w.was in
    go w.from.0 w.from.1 (begins_with_h w.from.0) refl w.is r.0 r.1
  where
    inside : (text : List ℕ) → is_word text ≡ true → (first_or_0 text == 72) ≡ true → IsKeptText text
    inside [] word is = absurd cc
    inside (c ∷ t) word is = (t, ap (λ (n : ℕ). n ∷ t) (eqb-true c 72 is), (and_parts (is_upper c) (list_all is_name_byte t) word).1)

    go : (text : List ℕ) (after : List Token) (b : Bool) → begins_with_h text ≡ b → (if b then Some after else None) ≡ Some rest → Behind text ts after → is_word text ≡ true → BeginsWith IsKeptText ts rest
    go text after false is e behind word = absurd cc
    go text after true is e behind word = record { text = text; behind = subst (Behind text ts) (same_Some after rest e) behind; is = inside text word is }
