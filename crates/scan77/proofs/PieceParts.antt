-- Where some pieces stand behind others of a slice, the characters and marks before them are those of these others.
use Rattle.std.proofs.Common.{◌≡◌, ℕ, List, [], ◌∷◌, ◌++◌, length, map, refl, sym, ap, ◌∙◌, subst, append_assoc, length-append, arith}
use Rattle.std.specs.List.{flat_map}
use Rattle.std.proofs.lemmas.List.{append_cancel_right, map-append}
use Rattle.text_base.specs.Pieces.{Piece, plain, whole, broken, counted_piece, piece_text}
use Rattle.scan77.specs.PieceList.{kept_and_pieces, pieces_in}
use Rattle.scan77.specs.PieceParts.{Fits, IsBehind}
use Rattle.scan77.specs.PieceSlice.{slice_of}
use Rattle.scan77.specs.declared.mark.Mark.{Mark}
use Rattle.scan77.specs.declared.mark.Mark.TheVariants.{Plain, First, Further, Open}
use Rattle.scan77.specs.declared.piece_slice.PieceSlice.{PieceSlice}
use Rattle.scan77.proofs.PieceShape.{pieces_text, unmarked}

-- ---- one behind another

fits_more : (u : List ℕ) (n : List Mark) (v : List ℕ) (m left : List Mark) → Fits u n (m ++ left) → Fits v m left → Fits (u ++ v) (n ++ m) left
fits_more [] [] v m left first second = second
fits_more [] (x ∷ n) v m left first second = absurd first
fits_more (c ∷ u) [] v [] left first second = first
fits_more (c ∷ u) [] v (x ∷ m) left first second = absurd cc
fits_more (c ∷ u) (x ∷ n) v m left first second = fits_more u n v m left first second

pub behind_nothing : (slice : PieceSlice) → IsBehind slice slice
behind_nothing slice = record { text = []; marks = []; front = refl; marked = refl; fits = tt }

pub behind_more : (slice rest more : PieceSlice) → IsBehind slice rest → IsBehind rest more → IsBehind slice more
behind_more slice rest more first second =
    record {
      text = first.text ++ second.text;
      marks = first.marks ++ second.marks;
      front = first.front ∙ ap (λ (x : List ℕ). first.text ++ x) second.front ∙ sym (append_assoc first.text second.text more.text.now);
      marked = first.marked ∙ ap (λ (x : List Mark). first.marks ++ x) second.marked ∙ sym (append_assoc first.marks second.marks more.marks.now);
      fits = fits_more first.text first.marks second.text second.marks more.marks.now (subst (Fits first.text first.marks) second.marked first.fits) second.fits;
    }

-- ---- the pieces before those behind

-- behind at least one character there are other pieces
not_all : (c : ℕ) (u t : List ℕ) (n m : List Mark) → pieces_in (c ∷ (u ++ t)) n ≡ pieces_in t m → ⊥
not_all c u t n m e =
    let same : c ∷ (u ++ t) ≡ t = sym (pieces_text (c ∷ (u ++ t)) n) ∙ ap (flat_map piece_text) e ∙ pieces_text t m in
    let long = length-append u t in
    omega (arith, ap length same, long)

-- nothing stands before all
nothing_before : (first rest : List Piece) → rest ≡ first ++ rest → first ≡ []
nothing_before [] rest e = refl
nothing_before (p ∷ first) rest e = absurd (omega (arith, ap length e, length-append first rest))

module _ (t : List ℕ) (m : List Mark) where
  abbrev rest : List Piece
  rest = pieces_in t m

  abbrev AreBefore : List ℕ → List Mark → Type 0
  AreBefore u n = (first : List Piece) → pieces_in (u ++ t) (n ++ m) ≡ first ++ rest → pieces_in u n ≡ first

  -- the same from inside a kept text
  abbrev AreKeptBefore : List ℕ → List Mark → Type 0
  AreKeptBefore u n = (first : List Piece) → (kept_and_pieces (u ++ t) (n ++ m)).1 ≡ first ++ rest → kept_and_pieces u n ≡ ((kept_and_pieces (u ++ t) (n ++ m)).0, first)

  -- before the first of them: it isn't a further character of a kept text
  at_rest : AreKeptBefore [] []
  at_rest first e = go (kept_and_pieces t m).0 (kept_and_pieces t m).1 first e
    where
      go : (v : List ℕ) (ps first : List Piece) → ps ≡ first ++ counted_piece v ps → ◌≡◌ {A = List ℕ × List Piece} ([], []) (v, first)
      go [] ps first e = ap (λ (x : List Piece). ([], x)) (sym (nothing_before first ps e))
      go (c ∷ v) ps first e = absurd (omega (arith, ap length e, length-append first (whole (c ∷ v) ∷ ps)))

  -- where there are characters before them
  before_by_kept : (c : ℕ) (u : List ℕ) (n : List Mark) → AreKeptBefore (c ∷ u) n → AreBefore (c ∷ u) n
  before_by_kept c u n inside first e = go (kept_and_pieces (c ∷ (u ++ t)) (n ++ m)).0 (kept_and_pieces (c ∷ (u ++ t)) (n ++ m)).1 first inside e (not_all c u t (n ++ m) m)
    where
      go : (v : List ℕ) (ps first : List Piece) → ((first : List Piece) → ps ≡ first ++ rest → kept_and_pieces (c ∷ u) n ≡ (v, first)) → counted_piece v ps ≡ first ++ rest
          → (counted_piece v ps ≡ rest → ⊥) → pieces_in (c ∷ u) n ≡ first
      go [] ps first inside e some = ap (λ (x : List ℕ × List Piece). counted_piece x.0 x.1) (inside first e)
      go (d ∷ v) ps [] inside e some = absurd (some e)
      go (d ∷ v) ps (p ∷ first) inside e some =
          let same : whole (d ∷ v) ≡ p = cc in
          let others : ps ≡ first ++ rest = cc in
          ap (λ (x : List ℕ × List Piece). counted_piece x.0 x.1) (inside first others) ∙ ap (λ (x : Piece). x ∷ first) same

  before_any : (u : List ℕ) (n : List Mark) → Fits u n m → AreKeptBefore u n → AreBefore u n
  before_any [] [] fits inside first e = sym (nothing_before first rest e)
  before_any [] (x ∷ n) fits inside first e = absurd fits
  before_any (c ∷ u) n fits inside first e = before_by_kept c u n inside first e

  -- a piece is the first of them
  with_first : (c : ℕ) (u : List ℕ) (n : List Mark) (p : Piece) (ps : List Piece) → (pieces_in (c ∷ (u ++ t)) (n ++ m) ≡ p ∷ ps) → (first : List Piece) → p ∷ ps ≡ first ++ rest
      → ((others : List Piece) → ps ≡ others ++ rest → kept_and_pieces (c ∷ u) n ≡ ([], p ∷ others)) → kept_and_pieces (c ∷ u) n ≡ ([], first)
  with_first c u n p ps all [] e given = absurd (not_all c u t (n ++ m) m (all ∙ e))
  with_first c u n p ps all (q ∷ others) e given =
      let same : p ≡ q = cc in
      let behind : ps ≡ others ++ rest = cc in
      given others behind ∙ ap (λ (x : Piece). ([], x ∷ others)) same

  unmarked_before : (c : ℕ) (u : List ℕ) → m ≡ [] → AreKeptBefore (c ∷ u) []
  unmarked_before c u none first e =
      let there : (kept_and_pieces (c ∷ (u ++ t)) m) ≡ ([], map plain (c ∷ (u ++ t))) = ap (kept_and_pieces (c ∷ (u ++ t))) none in
      let behind : rest ≡ map plain t = ap (λ (x : List Mark). pieces_in t x) none ∙ ap (λ (x : List ℕ × List Piece). counted_piece x.0 x.1) (unmarked t) in
      let found : map plain (c ∷ u) ≡ first =
      append_cancel_right (map plain (c ∷ u)) first (map plain t) (sym (map-append plain (c ∷ u) t) ∙ sym (ap (λ (x : List ℕ × List Piece). x.1) there) ∙ e ∙ ap (λ (x : List Piece). first ++ x) behind) in
      λ i. (ap (λ (x : List ℕ × List Piece). x.0) (sym there) i, found i)

  kept_before : (u : List ℕ) (n : List Mark) → Fits u n m → AreKeptBefore u n
  kept_before [] [] fits first e = at_rest first e
  kept_before [] (x ∷ n) fits first e = absurd fits
  kept_before (c ∷ u) [] fits first e = unmarked_before c u fits first e
  kept_before (c ∷ u) (Plain ∷ n) fits first e =
      with_first c u (Plain ∷ n) (plain c) (pieces_in (u ++ t) (n ++ m)) refl first e
      (λ others behind. ap (λ (x : List Piece). ([], plain c ∷ x)) (before_any u n fits (kept_before u n fits) others behind))
  kept_before (c ∷ u) (First ∷ n) fits first e =
      let all = kept_and_pieces (u ++ t) (n ++ m) in
      with_first c u (First ∷ n) (whole (c ∷ all.0)) all.1 refl first e
      (λ others behind. ap (λ (x : List ℕ × List Piece). ([], whole (c ∷ x.0) ∷ x.1)) (kept_before u n fits others behind))
  kept_before (c ∷ u) (Open ∷ n) fits first e =
      let all = kept_and_pieces (u ++ t) (n ++ m) in
      with_first c u (Open ∷ n) (broken (c ∷ all.0)) all.1 refl first e
      (λ others behind. ap (λ (x : List ℕ × List Piece). ([], broken (c ∷ x.0) ∷ x.1)) (kept_before u n fits others behind))
  kept_before (c ∷ u) (Further ∷ n) fits first e = ap (λ (x : List ℕ × List Piece). (c ∷ x.0, x.1)) (kept_before u n fits first e)

-- the characters and marks that stand before those of the rest are the pieces that stand before the rest
pub part_pieces : (slice rest : PieceSlice) → IsBehind slice rest → (text : List ℕ) (marks : List Mark) → slice.text.now ≡ text ++ rest.text.now → slice.marks.now ≡ marks ++ rest.marks.now
    → (first : List Piece) → slice_of slice ≡ first ++ slice_of rest → pieces_in text marks ≡ first
part_pieces slice rest b text marks front marked first e =
    let same_text : b.text ≡ text = append_cancel_right b.text text rest.text.now (sym b.front ∙ front) in
    let same_marks : b.marks ≡ marks = append_cancel_right b.marks marks rest.marks.now (sym b.marked ∙ marked) in
    (λ i. pieces_in (sym same_text i) (sym same_marks i))
    ∙ before_any rest.text.now rest.marks.now b.text b.marks b.fits (kept_before rest.text.now rest.marks.now b.text b.marks b.fits) first ((λ i. pieces_in (sym b.front i) (sym b.marked i)) ∙ e)
