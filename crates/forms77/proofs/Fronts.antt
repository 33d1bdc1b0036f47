-- The first token of pieces that are cut, from the pieces and from the token.
use Rattle.std.proofs.Common.{◌≡◌, ℕ, Option, Bool, true, false, ◌==◌, List, [], ◌∷◌, ◌++◌, map, Some, None, refl, sym, ap, ◌∙◌, subst}
use Rattle.std.specs.Prelude.{if◌then◌else◌}
use Rattle.std.specs.List.{list_all}
use Rattle.std.proofs.lemmas.Bool.{and_parts, eqb-true}
use Rattle.text_base.specs.Chars.{is_upper, is_digit, is_name_byte}
use Rattle.text_base.specs.Pieces.{Piece, plain, whole}
use Rattle.tree77.specs.Kinds.{is_word, is_number}
use Rattle.tree77.specs.Tokens.{TokenKind, run, digits, kept, mark, Token, is_mark, StopsAt, IsCut, cut_run, cut_digits, cut_text, cut_mark, MayPrecede, precedes_run, precedes_digits, precedes_text, precedes_mark, stuck_behind, token_pieces}
use Rattle.scan77.specs.TokenReading.{no_token, read_tokens, IsFormed, AllFormed}
use Rattle.std.proofs.lemmas.Option.{same_Some}
use Rattle.expr77.specs.LexemeReading.{character_of, first_or_0, behind_mark, run_here, digits_here}
use Rattle.forms77.specs.Reading.{kept_here}
use Rattle.forms77.proofs.Lower.{Lower}

abbrev pub run_of : List ℕ → Token
run_of w = record { kind = run; text = w }

abbrev pub digits_of : List ℕ → Token
digits_of w = record { kind = digits; text = w }

abbrev pub mark_of : ℕ → Token
mark_of c = record { kind = mark; text = c ∷ [] }

abbrev pub kept_of : List ℕ → Token
kept_of t = record { kind = kept; text = t }

-- ---- from the tokens

pub mark_is : (c : ℕ) (ts rest : List Token) → (0 == c) ≡ false → AllFormed ts → behind_mark c ts ≡ Some rest → ts ≡ mark_of c ∷ rest
mark_is c [] rest other all e = absurd cc
mark_is c (t ∷ ts) rest other all e = go t.kind t.text all.0 (character_of t.kind t.text == c) refl e
  where
    go : (k : TokenKind) (x : List ℕ) → IsFormed k x → (b : Bool) → (character_of k x == c) ≡ b → (if b then Some ts else None) ≡ Some rest → ◌≡◌ {A = List Token} (record { kind = k; text = x } ∷ ts) (mark_of c ∷ rest)
    go k x formed false is e = absurd cc
    go run x formed true is e = absurd cc
    go digits x formed true is e = absurd cc
    go kept x formed true is e = absurd cc
    go mark x formed true is e =
        let first : formed.0 ≡ c = sym (ap first_or_0 formed.1) ∙ eqb-true (first_or_0 x) c is in
        let text : x ≡ c ∷ [] = formed.1 ∙ ap (λ (n : ℕ). n ∷ []) first in
        let others : ts ≡ rest = cc in
        ap (λ (y : List ℕ). record { kind = mark; text = y } ∷ ts) text ∙ ap (λ (r : List Token). mark_of c ∷ r) others

pub run_is : (ts : List Token) (r : List ℕ × List Token) → run_here ts ≡ Some r → ts ≡ run_of r.0 ∷ r.1
run_is [] r e = absurd cc
run_is (t ∷ ts) r e = go t.kind t.text e
  where
    go : (k : TokenKind) (x : List ℕ) → run_here (record { kind = k; text = x } ∷ ts) ≡ Some r → ◌≡◌ {A = List Token} (record { kind = k; text = x } ∷ ts) (run_of r.0 ∷ r.1)
    go run x e = let same : ◌≡◌ {A = List ℕ × List Token} (x, ts) r = cc in ap (λ (p : List ℕ × List Token). run_of p.0 ∷ p.1) same
    go digits x e = absurd cc
    go kept x e = absurd cc
    go mark x e = absurd cc

pub digits_is : (ts : List Token) (r : List ℕ × List Token) → digits_here ts ≡ Some r → ts ≡ digits_of r.0 ∷ r.1
digits_is [] r e = absurd cc
digits_is (t ∷ ts) r e = go t.kind t.text e
  where
    go : (k : TokenKind) (x : List ℕ) → digits_here (record { kind = k; text = x } ∷ ts) ≡ Some r → ◌≡◌ {A = List Token} (record { kind = k; text = x } ∷ ts) (digits_of r.0 ∷ r.1)
    go digits x e = let same : ◌≡◌ {A = List ℕ × List Token} (x, ts) r = cc in ap (λ (p : List ℕ × List Token). digits_of p.0 ∷ p.1) same
    go run x e = absurd cc
    go kept x e = absurd cc
    go mark x e = absurd cc

pub kept_is : (ts : List Token) (r : List ℕ × List Token) → kept_here ts ≡ Some r → ts ≡ kept_of r.0 ∷ r.1
kept_is [] r e = absurd cc
kept_is (t ∷ ts) r e = go t.kind t.text e
  where
    go : (k : TokenKind) (x : List ℕ) → kept_here (record { kind = k; text = x } ∷ ts) ≡ Some r → ◌≡◌ {A = List Token} (record { kind = k; text = x } ∷ ts) (kept_of r.0 ∷ r.1)
    go kept x e = let same : ◌≡◌ {A = List ℕ × List Token} (x, ts) r = cc in ap (λ (p : List ℕ × List Token). kept_of p.0 ∷ p.1) same
    go run x e = absurd cc
    go digits x e = absurd cc
    go mark x e = absurd cc

-- ---- from the pieces

-- the tokens begin with this one, and the others are those of the rest
abbrev pub First : Token → List Piece → List Token → Type 0
First t v ts = (rest : List Token) × (ts ≡ t ∷ rest) × IsCut v rest

module _ (low : Lower) where
  -- pieces that a token stands before are cut where all are
  first_token : (t : Token) (v : List Piece) (ts : List Token) → MayPrecede t v → ((more : List Token) → IsCut v more → IsCut (token_pieces t ++ v) (t ∷ more)) → IsCut (token_pieces t ++ v) ts → First t v ts
  first_token t v ts before with_first cut = go (read_tokens v no_token) refl
    where
      go : (found : Option (List Token)) → read_tokens v no_token ≡ found → First t v ts
      go (Some more) e =
          let rest = low.cut_found v more e in
          (more, same_Some ts (t ∷ more) (sym (low.cut_only (token_pieces t ++ v) ts cut) ∙ low.cut_only (token_pieces t ++ v) (t ∷ more) (with_first more rest)), rest)
      go None e = absurd (low.cut_uncut (token_pieces t ++ v) ts (stuck_behind t refl before (low.cut_stuck v e)) cut)

  pub run_first : (w : List ℕ) (v : List Piece) (ts : List Token) → is_word w ≡ true → StopsAt is_name_byte v → IsCut (map plain w ++ v) ts → First (run_of w) v ts
  run_first [] v ts is stop cut = absurd cc
  run_first (c ∷ u) v ts is stop cut =
      let parts = and_parts (is_upper c) (list_all is_name_byte u) is in
      first_token (run_of (c ∷ u)) v ts (precedes_run c u refl parts.0 parts.1 stop) (λ more rest. cut_run c u refl parts.0 parts.1 stop rest refl) cut

  pub digits_first : (w : List ℕ) (v : List Piece) (ts : List Token) → is_number w ≡ true → StopsAt is_digit v → IsCut (map plain w ++ v) ts → First (digits_of w) v ts
  digits_first [] v ts is stop cut = absurd cc
  digits_first (c ∷ u) v ts is stop cut =
      let parts = and_parts (is_digit c) (list_all is_digit u) is in
      first_token (digits_of (c ∷ u)) v ts (precedes_digits c u refl parts.0 parts.1 stop) (λ more rest. cut_digits c u refl parts.0 parts.1 stop rest refl) cut

  pub mark_first : (c : ℕ) (v : List Piece) (ts : List Token) → is_mark c ≡ true → IsCut (plain c ∷ v) ts → First (mark_of c) v ts
  mark_first c v ts is cut = first_token (mark_of c) v ts (precedes_mark c refl is) (λ more rest. cut_mark c refl is rest refl) cut

  pub kept_first : (t : List ℕ) (v : List Piece) (ts : List Token) → IsCut (whole t ∷ v) ts → First (kept_of t) v ts
  kept_first t v ts cut = first_token (kept_of t) v ts (precedes_text t refl) (λ more rest. cut_text t refl rest refl) cut

  -- the pieces of the first token, and the rest
  pub taken : (pieces : List Piece) (ts rest : List Token) (t : Token) → IsCut pieces ts → ts ≡ t ∷ rest → (v : List Piece) × (pieces ≡ token_pieces t ++ v) × IsCut v rest
  taken pieces ts rest t cut e = low.cut_next pieces t rest (subst (IsCut pieces) e cut)
