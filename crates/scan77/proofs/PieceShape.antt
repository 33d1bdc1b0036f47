-- The pieces that characters with their marks are: their outline and their characters.
use Rattle.std.proofs.Common.{◌≡◌, ℕ, List, [], ◌∷◌, ◌++◌, length, map, replicate, Some, refl, sym, ap, ◌∙◌, arith}
use Rattle.std.specs.List.{flat_map}
use Rattle.text_base.specs.Pieces.{Piece, plain, counted_piece, piece_text}
use Rattle.tree77.specs.Kinds.{outline_of}
use Rattle.scan77.specs.PieceList.{with_mark, kept_and_pieces, pieces_in}
use Rattle.scan77.specs.Outline.{shown_character, outline_in, uncons}
use Rattle.scan77.specs.declared.mark.Mark.{Mark}
use Rattle.scan77.specs.declared.mark.Mark.TheVariants.{Plain, First, Further, Open}

-- ---- characters

text_of_counted : (u : List ℕ) (ps : List Piece) → flat_map piece_text (counted_piece u ps) ≡ u ++ flat_map piece_text ps
text_of_counted [] ps = refl
text_of_counted (c ∷ u) ps = refl

text_of_plain : (u : List ℕ) → flat_map piece_text (map plain u) ≡ u
text_of_plain [] = refl
text_of_plain (c ∷ u) = ap (λ (x : List ℕ). c ∷ x) (text_of_plain u)

text_with_mark : (m : Mark) (c : ℕ) (behind : List ℕ × List Piece) → (with_mark m c behind).0 ++ flat_map piece_text (with_mark m c behind).1 ≡ c ∷ (behind.0 ++ flat_map piece_text behind.1)
text_with_mark Plain c behind = ap (λ (x : List ℕ). c ∷ x) (text_of_counted behind.0 behind.1)
text_with_mark First c behind = refl
text_with_mark Further c behind = refl
text_with_mark Open c behind = refl

text_in : (t : List ℕ) (marks : List Mark) → (kept_and_pieces t marks).0 ++ flat_map piece_text (kept_and_pieces t marks).1 ≡ t
text_in [] marks = refl
text_in (c ∷ t) [] = text_of_plain (c ∷ t)
text_in (c ∷ t) (m ∷ marks) = text_with_mark m c (kept_and_pieces t marks) ∙ ap (λ (x : List ℕ). c ∷ x) (text_in t marks)

-- the characters of the pieces are all characters
pub pieces_text : (t : List ℕ) (marks : List Mark) → flat_map piece_text (pieces_in t marks) ≡ t
pieces_text t marks = text_of_counted (kept_and_pieces t marks).0 (kept_and_pieces t marks).1 ∙ text_in t marks

-- ---- outlines

outline_of_counted : (u : List ℕ) (ps : List Piece) → outline_of (counted_piece u ps) ≡ replicate (length u) 39 ++ outline_of ps
outline_of_counted [] ps = refl
outline_of_counted (c ∷ u) ps = refl

outline_of_plain : (u : List ℕ) → outline_of (map plain u) ≡ u
outline_of_plain [] = refl
outline_of_plain (c ∷ u) = ap (λ (x : List ℕ). c ∷ x) (outline_of_plain u)

outline_with_mark : (m : Mark) (c : ℕ) (behind : List ℕ × List Piece)
    → replicate (length (with_mark m c behind).0) 39 ++ outline_of (with_mark m c behind).1 ≡ shown_character m c ∷ (replicate (length behind.0) 39 ++ outline_of behind.1)
outline_with_mark Plain c behind = ap (λ (x : List ℕ). c ∷ x) (outline_of_counted behind.0 behind.1)
outline_with_mark First c behind = refl
outline_with_mark Further c behind = refl
outline_with_mark Open c behind = refl

outline_from : (t : List ℕ) (marks : List Mark) → replicate (length (kept_and_pieces t marks).0) 39 ++ outline_of (kept_and_pieces t marks).1 ≡ outline_in t marks
outline_from [] marks = refl
outline_from (c ∷ t) [] = outline_of_plain (c ∷ t)
outline_from (c ∷ t) (m ∷ marks) = outline_with_mark m c (kept_and_pieces t marks) ∙ ap (λ (x : List ℕ). shown_character m c ∷ x) (outline_from t marks)

pub pieces_outline : (t : List ℕ) (marks : List Mark) → outline_of (pieces_in t marks) ≡ outline_in t marks
pieces_outline t marks = outline_of_counted (kept_and_pieces t marks).0 (kept_and_pieces t marks).1 ∙ outline_from t marks

-- ---- without marks

-- the next character of an outline, where no mark is left
pub next_unmarked : (c : ℕ) (t text : List ℕ) (marks : List Mark) → text ≡ c ∷ t → length marks ≡ 0 → Some (c, outline_in t marks) ≡ uncons (outline_in text marks)
next_unmarked c [] text [] e none = ap (λ (x : List ℕ). uncons (outline_in x [])) (sym e)
next_unmarked c (d ∷ t) text [] e none = ap (λ (x : List ℕ). uncons (outline_in x [])) (sym e)
next_unmarked c t text (m ∷ marks) e none = absurd (omega (arith, none))

pub unmarked : (t : List ℕ) → kept_and_pieces t [] ≡ ([], map plain t)
unmarked [] = refl
unmarked (c ∷ t) = refl

-- the first character stands outside kept text, where no mark is left
pub first_unmarked : (c : ℕ) (t text : List ℕ) (marks : List Mark) → text ≡ c ∷ t → length marks ≡ 0 → kept_and_pieces text marks ≡ with_mark Plain c (kept_and_pieces t marks)
first_unmarked c t text [] e none = ap (λ (x : List ℕ). kept_and_pieces x []) e ∙ ap (with_mark Plain c) (sym (unmarked t))
first_unmarked c t text (m ∷ marks) e none = absurd (omega (arith, none))

pub none_left : (marks : List Mark) → length marks ≡ 0 → marks ≡ []
none_left [] none = refl
none_left (m ∷ marks) none = absurd (omega (arith, none))

-- ---- no pieces

pub no_pieces : (t : List ℕ) (marks : List Mark) → t ≡ [] → pieces_in t marks ≡ []
no_pieces t marks e = ap (λ (x : List ℕ). pieces_in x marks) e

pub no_characters : (t : List ℕ) (marks : List Mark) → pieces_in t marks ≡ [] → t ≡ []
no_characters t marks e = sym (pieces_text t marks) ∙ ap (λ (ps : List Piece). flat_map piece_text ps) e
