-- The first piece by its mark, and the last.
use Rattle.std.proofs.Common.{◌≡◌, ℕ, Bool, true, false, ◌==◌, List, [], ◌∷◌, ◌++◌, length, Some, None, refl, sym, ap, ◌∙◌}
use Rattle.std.specs.Prelude.{if◌then◌else◌, slice_get}
use Rattle.std.specs.List.{flat_map}
use Rattle.std.specs.Option.{option_map}
use Rattle.std.proofs.lemmas.List.{append_cancel_right, map-append}
use Rattle.text_base.specs.Pieces.{Piece, plain, whole, broken, counted_piece, piece_text}
use Rattle.scan77.specs.FirstPiece.{is_plain_piece, before_plain, is_plain_mark}
use Rattle.scan77.specs.PieceList.{with_mark, kept_and_pieces, pieces_in}
use Rattle.scan77.specs.declared.mark.Mark.{Mark}
use Rattle.scan77.specs.declared.mark.Mark.TheVariants.{Plain, First, Further, Open}
use Rattle.scan77.proofs.PieceShape.{pieces_text}

-- the characters of the first piece stand before those of the others
pub piece_in_front : (p : Piece) (text others : List ℕ) (marks left : List Mark) → pieces_in text marks ≡ p ∷ pieces_in others left → text ≡ piece_text p ++ others
piece_in_front p text others marks left e =
    sym (pieces_text text marks) ∙ ap (flat_map piece_text) e ∙ ap (λ (x : List ℕ). piece_text p ++ x) (pieces_text others left)

-- they are the characters that stand there
pub piece_found : (p : Piece) (text others found : List ℕ) (marks left : List Mark) → pieces_in text marks ≡ p ∷ pieces_in others left → text ≡ found ++ others → piece_text p ≡ found
piece_found p text others found marks left e f = append_cancel_right (piece_text p) found others (sym (piece_in_front p text others marks left e) ∙ f)

-- ---- the last piece

before_more : (c : ℕ) (p : Piece) (ps : List Piece) (q : Piece) → before_plain c (p ∷ (ps ++ q ∷ [])) ≡ option_map (λ xs. p ∷ xs) (before_plain c (ps ++ q ∷ []))
before_more c p [] q = refl
before_more c p (x ∷ ps) q = refl

-- a last piece
pub last_piece : (c : ℕ) (ps : List Piece) (q : Piece) → before_plain c (ps ++ q ∷ []) ≡ (if is_plain_piece c q then Some ps else None)
last_piece c [] q = refl
last_piece c (p ∷ ps) q = before_more c p ps q ∙ ap (option_map (λ xs. p ∷ xs)) (last_piece c ps q) ∙ moved (is_plain_piece c q)
  where
    moved : (b : Bool) → option_map (λ xs. p ∷ xs) (if b then Some ps else None) ≡ (if b then Some (p ∷ ps) else None)
    moved true = refl
    moved false = refl

counted_more : (k : List ℕ) (ps : List Piece) (q : Piece) → counted_piece k (ps ++ q ∷ []) ≡ counted_piece k ps ++ q ∷ []
counted_more [] ps q = refl
counted_more (c ∷ k) ps q = refl

-- a further character outside kept text is a further piece
pub record Grown (x y : List ℕ × List Piece) (c : ℕ) : Type 0 where
  pub kept : y.0 ≡ x.0
  pub pieces : y.1 ≡ x.1 ++ plain c ∷ []

grown_mark : (m : Mark) (d : ℕ) (x y : List ℕ × List Piece) (c : ℕ) → Grown x y c → Grown (with_mark m d x) (with_mark m d y) c
grown_mark Plain d x y c g = record { kept = refl; pieces = ap (λ (ps : List Piece). plain d ∷ ps) (ap (λ k. counted_piece k y.1) g.kept ∙ ap (counted_piece x.0) g.pieces ∙ counted_more x.0 x.1 (plain c)) }
grown_mark First d x y c g = record { kept = refl; pieces = ap (λ k. whole (d ∷ k) ∷ y.1) g.kept ∙ ap (λ (ps : List Piece). whole (d ∷ x.0) ∷ ps) g.pieces }
grown_mark Open d x y c g = record { kept = refl; pieces = ap (λ k. broken (d ∷ k) ∷ y.1) g.kept ∙ ap (λ (ps : List Piece). broken (d ∷ x.0) ∷ ps) g.pieces }
grown_mark Further d x y c g = record { kept = ap (λ (k : List ℕ). d ∷ k) g.kept; pieces = g.pieces }

grown : (t : List ℕ) (marks : List Mark) (c : ℕ) → is_plain_mark (slice_get marks (length t)) ≡ true → Grown (kept_and_pieces t marks) (kept_and_pieces (t ++ c ∷ []) marks) c
grown [] [] c is = record { kept = refl; pieces = refl }
grown [] (Plain ∷ marks) c is = record { kept = refl; pieces = refl }
grown [] (First ∷ marks) c is = absurd cc
grown [] (Open ∷ marks) c is = absurd cc
grown [] (Further ∷ marks) c is = absurd cc
grown (d ∷ t) [] c is = record { kept = refl; pieces = map-append plain (d ∷ t) (c ∷ []) }
grown (d ∷ t) (m ∷ marks) c is = grown_mark m d _ _ c (grown t marks c is)

pub plain_last : (c : ℕ) (t : List ℕ) (marks : List Mark) (d : ℕ) → is_plain_mark (slice_get marks (length t)) ≡ true → before_plain c (pieces_in (t ++ d ∷ []) marks) ≡ (if d == c then Some (pieces_in t marks) else None)
plain_last c t marks d is =
    let g = grown t marks d is in
    ap (before_plain c) (ap (λ k. counted_piece k (kept_and_pieces (t ++ d ∷ []) marks).1) g.kept ∙ ap (counted_piece (kept_and_pieces t marks).0) g.pieces ∙ counted_more (kept_and_pieces t marks).0 (kept_and_pieces t marks).1 (plain d))
    ∙ last_piece c (pieces_in t marks) (plain d)

-- a last character is of kept text
data Kept (x : List ℕ × List Piece) : Type 0 where
  kept_only : (c : ℕ) (k : List ℕ) → x.0 ≡ c ∷ k → x.1 ≡ [] → Kept x
  kept_last : (ps : List Piece) (q : Piece) → ((c : ℕ) → is_plain_piece c q ≡ false) → x.1 ≡ ps ++ q ∷ [] → Kept x

kept_more : (m : Mark) (d : ℕ) (x : List ℕ × List Piece) → Kept x → Kept (with_mark m d x)
kept_more Plain d x (kept_only c k e f) =
    kept_last (plain d ∷ []) (whole (c ∷ k)) (λ n. refl) (ap (λ (ps : List Piece). plain d ∷ ps) (ap (λ j. counted_piece j x.1) e ∙ ap (λ ps. whole (c ∷ k) ∷ ps) f))
kept_more Plain d x (kept_last ps q off f) = kept_last (plain d ∷ counted_piece x.0 ps) q off (ap (λ (ys : List Piece). plain d ∷ ys) (ap (counted_piece x.0) f ∙ counted_more x.0 ps q))
kept_more First d x (kept_only c k e f) = kept_last [] (whole (d ∷ x.0)) (λ n. refl) (ap (λ (ps : List Piece). whole (d ∷ x.0) ∷ ps) f)
kept_more First d x (kept_last ps q off f) = kept_last (whole (d ∷ x.0) ∷ ps) q off (ap (λ (ys : List Piece). whole (d ∷ x.0) ∷ ys) f)
kept_more Open d x (kept_only c k e f) = kept_last [] (broken (d ∷ x.0)) (λ n. refl) (ap (λ (ps : List Piece). broken (d ∷ x.0) ∷ ps) f)
kept_more Open d x (kept_last ps q off f) = kept_last (broken (d ∷ x.0) ∷ ps) q off (ap (λ (ys : List Piece). broken (d ∷ x.0) ∷ ys) f)
kept_more Further d x (kept_only c k e f) = kept_only d x.0 refl f
kept_more Further d x (kept_last ps q off f) = kept_last ps q off f

kept_there : (t : List ℕ) (marks : List Mark) (d : ℕ) → is_plain_mark (slice_get marks (length t)) ≡ false → Kept (kept_and_pieces (t ++ d ∷ []) marks)
kept_there [] [] d off = absurd cc
kept_there [] (Plain ∷ marks) d off = absurd cc
kept_there [] (First ∷ marks) d off = kept_last [] (whole (d ∷ [])) (λ n. refl) refl
kept_there [] (Open ∷ marks) d off = kept_last [] (broken (d ∷ [])) (λ n. refl) refl
kept_there [] (Further ∷ marks) d off = kept_only d [] refl refl
kept_there (c ∷ t) [] d off = absurd cc
kept_there (c ∷ t) (n ∷ marks) d off = kept_more n c _ (kept_there t marks d off)

none_before : (c : ℕ) (x : List ℕ × List Piece) → Kept x → before_plain c (counted_piece x.0 x.1) ≡ None
none_before c x (kept_only d k e f) = ap (λ j. before_plain c (counted_piece j x.1)) e ∙ ap (λ ps. before_plain c (whole (d ∷ k) ∷ ps)) f
none_before c x (kept_last ps q off f) =
    ap (λ ys. before_plain c (counted_piece x.0 ys)) f ∙ ap (before_plain c) (counted_more x.0 ps q) ∙ last_piece c (counted_piece x.0 ps) q
    ∙ ap (λ b. if b then Some (counted_piece x.0 ps) else None) (off c)

pub kept_last_none : (c : ℕ) (t : List ℕ) (marks : List Mark) (d : ℕ) → is_plain_mark (slice_get marks (length t)) ≡ false → before_plain c (pieces_in (t ++ d ∷ []) marks) ≡ None
kept_last_none c t marks d off = none_before c _ (kept_there t marks d off)

-- ---- the pieces before a last character

pub last_kept : (c : ℕ) (text t : List ℕ) (marks : List Mark) (d : ℕ) → text ≡ t ++ d ∷ [] → is_plain_mark (slice_get marks (length t)) ≡ false → None ≡ before_plain c (pieces_in text marks)
last_kept c text t marks d e off = sym (ap (λ (x : List ℕ). before_plain c (pieces_in x marks)) e ∙ kept_last_none c t marks d off)

pub last_tested : (c : ℕ) (text t : List ℕ) (marks : List Mark) (d : ℕ) (b : Bool) → text ≡ t ++ d ∷ [] → is_plain_mark (slice_get marks (length t)) ≡ true → (d == c) ≡ b
    → (if b then Some (pieces_in t marks) else None) ≡ before_plain c (pieces_in text marks)
last_tested c text t marks d b e on test =
    sym (ap (λ (x : List ℕ). before_plain c (pieces_in x marks)) e ∙ plain_last c t marks d on ∙ ap (λ k. if k then Some (pieces_in t marks) else None) test)
