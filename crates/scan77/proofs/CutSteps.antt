-- The first token of some pieces, and the cut of what stands behind it.
use Rattle.std.proofs.Common.{◌≡◌, ◌⊎◌, inl, inr, ℕ, Bool, true, false, List, [], ◌∷◌, ◌++◌, map, refl, sym, ap, ◌∙◌, subst, append_assoc, append-nil}
use Rattle.std.specs.Prelude.{if◌then◌else◌}
use Rattle.std.specs.List.{list_all, flat_map}
use Rattle.std.proofs.lemmas.Bool.{and_from}
use Rattle.std.proofs.lemmas.List.{append_cancel_right}
use Rattle.std.proofs.lemmas.Grind.{flat_map-append}
use Rattle.text_base.specs.Chars.{is_upper, is_digit, is_name_byte}
use Rattle.text_base.specs.Pieces.{Piece, plain, whole, broken, counted_piece, piece_text}
use Rattle.tree77.specs.Tokens.{TokenKind, run, digits, kept, mark, Token, is_mark, StopsAt, IsCut, cut_run, cut_digits, cut_text, cut_mark, pieces_by, token_pieces, MayPrecede, precedes_run, precedes_digits, precedes_text, precedes_mark}
use Rattle.scan77.specs.Cutting.{behind_passing, IsFirst}
use Rattle.scan77.specs.PieceList.{with_mark, kept_and_pieces, pieces_in}
use Rattle.scan77.specs.declared.mark.Mark.{Mark}
use Rattle.scan77.specs.declared.mark.Mark.TheVariants.{Plain, First, Further, Open}
use Rattle.scan77.proofs.PieceShape.{pieces_text}

-- ---- characters that pass

-- they stand before the others
pub record Passing (test : ℕ → Bool) (pieces : List Piece) : Type 0 where
  pub front : List ℕ
  pub whole : pieces ≡ map plain front ++ behind_passing test pieces
  pub all : list_all test front ≡ true
  pub stops : StopsAt test (behind_passing test pieces)

pub passing : (test : ℕ → Bool) (pieces : List Piece) → Passing test pieces
passing test [] = record { front = []; whole = refl; all = refl; stops = tt }
passing test (plain c ∷ rest) = go (test c) refl (passing test rest)
  where
    go : (b : Bool) → test c ≡ b → Passing test rest → Passing test (plain c ∷ rest)
    go true is p =
        let left = ap (λ b. if b then behind_passing test rest else plain c ∷ rest) is in
        record {
          front = c ∷ p.front;
          whole = ap (λ (x : List Piece). plain c ∷ x) p.whole ∙ ap (λ (x : List Piece). plain c ∷ (map plain p.front ++ x)) (sym left);
          all = and_from (test c) (list_all test p.front) is p.all;
          stops = subst (StopsAt test) (sym left) p.stops;
        }
    go false is p =
        let left = ap (λ b. if b then behind_passing test rest else plain c ∷ rest) is in
        record { front = []; whole = sym left; all = refl; stops = subst (StopsAt test) (sym left) is }
passing test (whole t ∷ rest) = record { front = []; whole = refl; all = refl; stops = tt }
passing test (broken t ∷ rest) = record { front = []; whole = refl; all = refl; stops = tt }

pub run_is_first : (c : ℕ) (pieces rest : List Piece) → is_upper c ≡ true → rest ≡ behind_passing is_name_byte pieces → IsFirst run (plain c ∷ pieces) rest
run_is_first c pieces rest upper is =
    let p = passing is_name_byte pieces in
    record {
      text = c ∷ p.front;
      front = ap (λ (x : List Piece). plain c ∷ x) p.whole ∙ ap (λ (x : List Piece). plain c ∷ (map plain p.front ++ x)) (sym is);
      stands = precedes_run c p.front refl upper p.all (subst (StopsAt is_name_byte) (sym is) p.stops);
    }

pub digits_are_first : (c : ℕ) (pieces rest : List Piece) → is_digit c ≡ true → rest ≡ behind_passing is_digit pieces → IsFirst digits (plain c ∷ pieces) rest
digits_are_first c pieces rest digit is =
    let p = passing is_digit pieces in
    record {
      text = c ∷ p.front;
      front = ap (λ (x : List Piece). plain c ∷ x) p.whole ∙ ap (λ (x : List Piece). plain c ∷ (map plain p.front ++ x)) (sym is);
      stands = precedes_digits c p.front refl digit p.all (subst (StopsAt is_digit) (sym is) p.stops);
    }

pub mark_is_first : (c : ℕ) (rest : List Piece) → is_mark c ≡ true → IsFirst mark (plain c ∷ rest) rest
mark_is_first c rest marks = record { text = c ∷ []; front = refl; stands = precedes_mark c refl marks }

pub kept_is_first : (t : List ℕ) (pieces rest : List Piece) → pieces ≡ whole t ∷ rest → IsFirst kept pieces rest
kept_is_first t pieces rest e = record { text = t; front = e; stands = precedes_text t refl }

-- ---- the cut

cut_behind : (token : Token) (pieces rest : List Piece) (more : List Token) → pieces ≡ token_pieces token ++ rest → MayPrecede token rest → IsCut rest more → IsCut pieces (token ∷ more)
cut_behind token pieces rest more front (precedes_run c u is upper all stops) cut =
    cut_run c u (front ∙ ap (λ t. token_pieces t ++ rest) is) upper all stops cut (ap (λ t. t ∷ more) is)
cut_behind token pieces rest more front (precedes_digits c u is digit all stops) cut =
    cut_digits c u (front ∙ ap (λ t. token_pieces t ++ rest) is) digit all stops cut (ap (λ t. t ∷ more) is)
cut_behind token pieces rest more front (precedes_text t is) cut = cut_text t (front ∙ ap (λ x. token_pieces x ++ rest) is) cut (ap (λ x. x ∷ more) is)
cut_behind token pieces rest more front (precedes_mark c is marks) cut = cut_mark c (front ∙ ap (λ t. token_pieces t ++ rest) is) marks cut (ap (λ t. t ∷ more) is)

-- a token more
pub one_token : (all rest left : List Piece) (tokens : List Token) (token : Token) → ((more : List Token) → IsCut rest more → IsCut all (tokens ++ more)) → rest ≡ token_pieces token ++ left → MayPrecede token left
    → (more : List Token) → IsCut left more → IsCut all ((tokens ++ token ∷ []) ++ more)
one_token all rest left tokens token cut front stands more behind =
    subst (IsCut all) (sym (append_assoc tokens (token ∷ []) more)) (cut (token ∷ more) (cut_behind token rest left more front stands behind))

-- ---- the characters of a token

pieces_by_text : (kind : TokenKind) (t : List ℕ) → flat_map piece_text (pieces_by kind t) ≡ t
pieces_by_text run [] = refl
pieces_by_text run (c ∷ t) = ap (λ (x : List ℕ). c ∷ x) (pieces_by_text run t)
pieces_by_text digits [] = refl
pieces_by_text digits (c ∷ t) = ap (λ (x : List ℕ). c ∷ x) (pieces_by_text digits t)
pieces_by_text kept t = append-nil t
pieces_by_text mark [] = refl
pieces_by_text mark (c ∷ t) = ap (λ (x : List ℕ). c ∷ x) (pieces_by_text mark t)

pub first_text : (kind : TokenKind) (t : List ℕ) (pieces rest : List Piece) → pieces ≡ pieces_by kind t ++ rest → flat_map piece_text pieces ≡ t ++ flat_map piece_text rest
first_text kind t pieces rest e =
    ap (flat_map piece_text) e
    ∙ flat_map-append piece_text (pieces_by kind t) rest
    ∙ ap (λ (x : List ℕ). x ++ flat_map piece_text rest) (pieces_by_text kind t)

-- where some pieces are a token and the rest, its characters stand before those of the rest
pub text_in_front : (kind : TokenKind) (t text others : List ℕ) (marks left : List Mark) → pieces_in text marks ≡ pieces_by kind t ++ pieces_in others left → text ≡ t ++ others
text_in_front kind t text others marks left e =
    sym (pieces_text text marks) ∙ first_text kind t (pieces_in text marks) (pieces_in others left) e ∙ ap (λ (x : List ℕ). t ++ x) (pieces_text others left)

-- they are the characters that stand there
pub token_text : (kind : TokenKind) (text others found : List ℕ) (marks left : List Mark) → (first : IsFirst kind (pieces_in text marks) (pieces_in others left)) → text ≡ found ++ others → first.text ≡ found
token_text kind text others found marks left first e =
    append_cancel_right first.text found others (sym (text_in_front kind first.text text others marks left first.front) ∙ e)

-- ---- the first piece, by its mark

abbrev counted_of : List ℕ × List Piece → List Piece
counted_of p = counted_piece p.0 p.1

pub first_plain : (c : ℕ) (m : Mark) (text t : List ℕ) (marks ms : List Mark) → kept_and_pieces text marks ≡ with_mark m c (kept_and_pieces t ms) → m ≡ Plain → pieces_in text marks ≡ plain c ∷ pieces_in t ms
first_plain c m text t marks ms e is = ap counted_of e ∙ ap (λ x. counted_of (with_mark x c (kept_and_pieces t ms))) is

pub first_open : (c : ℕ) (m : Mark) (text t : List ℕ) (marks ms : List Mark) → kept_and_pieces text marks ≡ with_mark m c (kept_and_pieces t ms) → m ≡ Open
    → pieces_in text marks ≡ broken (c ∷ (kept_and_pieces t ms).0) ∷ (kept_and_pieces t ms).1
first_open c m text t marks ms e is = ap counted_of e ∙ ap (λ x. counted_of (with_mark x c (kept_and_pieces t ms))) is

pub first_kept : (c : ℕ) (m : Mark) (text t : List ℕ) (marks ms : List Mark) → kept_and_pieces text marks ≡ with_mark m c (kept_and_pieces t ms) → (m ≡ First) ⊎ (m ≡ Further)
    → pieces_in text marks ≡ whole (c ∷ (kept_and_pieces t ms).0) ∷ (kept_and_pieces t ms).1
first_kept c m text t marks ms e (inl is) = ap counted_of e ∙ ap (λ x. counted_of (with_mark x c (kept_and_pieces t ms))) is
first_kept c m text t marks ms e (inr is) = ap counted_of e ∙ ap (λ x. counted_of (with_mark x c (kept_and_pieces t ms))) is
