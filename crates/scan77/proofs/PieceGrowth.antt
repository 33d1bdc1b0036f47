-- What a character more makes of the pieces that have been read.
use Rattle.std.proofs.Common.{◌≡◌, ℕ, ◌<◌, ◌≤◌, Bool, true, false, ◌&&◌, cond, List, [], ◌∷◌, ◌++◌, length, map, take, drop, slice_set, refl, sym, ap, ◌∙◌, arith, append-nil}
use Rattle.std.specs.Prelude.{nat_lt}
use Rattle.std.proofs.Math.Seq.{take-append_seam, set-append_seam}
use Rattle.std.proofs.lemmas.Bool.{and_parts, ltb-true, ltb-false}
use Rattle.std.proofs.lemmas.List.{take-append-drop, length-take-le, length-drop, length_push, drop_all}
use Rattle.text_base.specs.Kept.{Scan}
use Rattle.text_base.specs.Pieces.{Piece, plain, whole, broken, counted_piece}
use Rattle.scan77.specs.PieceList.{with_mark, kept_and_pieces, pieces_in}
use Rattle.scan77.specs.PieceReading.{closed, last_piece}
use Rattle.scan77.specs.PieceReader.{current_in, kept_marks, is_open}
use Rattle.scan77.specs.declared.mark.Mark.{Mark}
use Rattle.scan77.specs.declared.mark.Mark.TheVariants.{Plain, First, Further, Open}

-- ---- characters behind others

counted_append : (u : List ℕ) (ps qs : List Piece) → counted_piece u (ps ++ qs) ≡ counted_piece u ps ++ qs
counted_append [] ps qs = refl
counted_append (c ∷ u) ps qs = refl

mark_append : (m : Mark) (c : ℕ) (behind : List ℕ × List Piece) (qs : List Piece) → with_mark m c (behind.0, behind.1 ++ qs) ≡ ((with_mark m c behind).0, (with_mark m c behind).1 ++ qs)
mark_append Plain c behind qs = ap (λ (ps : List Piece). ([], plain c ∷ ps)) (counted_append behind.0 behind.1 qs)
mark_append First c behind qs = refl
mark_append Further c behind qs = refl
mark_append Open c behind qs = refl

-- characters that don't begin inside a kept text
abbrev pub BeginAPiece : List ℕ → List Mark → Type 0
BeginAPiece t marks = (kept_and_pieces t marks).0 ≡ []

only_pieces : (t : List ℕ) (marks : List Mark) → BeginAPiece t marks → kept_and_pieces t marks ≡ ([], pieces_in t marks)
only_pieces t marks begin = λ i. (begin i, go (kept_and_pieces t marks) begin i)
  where
    go : (p : List ℕ × List Piece) → p.0 ≡ [] → p.1 ≡ counted_piece p.0 p.1
    go p e = sym (ap (λ u. counted_piece u p.1) e)

append_from : (t u : List ℕ) (marks others : List Mark) → length marks ≡ length t → BeginAPiece u others
    → kept_and_pieces (t ++ u) (marks ++ others) ≡ ((kept_and_pieces t marks).0, (kept_and_pieces t marks).1 ++ pieces_in u others)
append_from [] u [] others size begin = only_pieces u others begin
append_from [] u (m ∷ marks) others size begin = absurd (omega (arith, size))
append_from (c ∷ t) u [] others size begin = absurd (omega (arith, size))
append_from (c ∷ t) u (m ∷ marks) others size begin =
    ap (with_mark m c) (append_from t u marks others (omega (arith, size)) begin)
    ∙ mark_append m c (kept_and_pieces t marks) (pieces_in u others)

pub pieces_append : (t u : List ℕ) (marks others : List Mark) → length marks ≡ length t → BeginAPiece u others → pieces_in (t ++ u) (marks ++ others) ≡ pieces_in t marks ++ pieces_in u others
pieces_append t u marks others size begin =
    ap (λ (p : List ℕ × List Piece). counted_piece p.0 p.1) (append_from t u marks others size begin)
    ∙ counted_append (kept_and_pieces t marks).0 (kept_and_pieces t marks).1 (pieces_in u others)

-- one more character outside kept text
pub grows_plain : (c : ℕ) (t : List ℕ) (marks : List Mark) → length marks ≡ length t → pieces_in (t ++ c ∷ []) (marks ++ Plain ∷ []) ≡ pieces_in t marks ++ plain c ∷ []
grows_plain c t marks size = pieces_append t (c ∷ []) marks (Plain ∷ []) size refl

-- ---- a kept text behind others

all_further : (t : List ℕ) → kept_and_pieces t (map (λ _. Further) t) ≡ (t, [])
all_further [] = refl
all_further (c ∷ t) = ap (with_mark Further c) (all_further t)

kept_whole : (c : ℕ) (t : List ℕ) → kept_and_pieces (c ∷ t) (kept_marks (c ∷ t)) ≡ ([], whole (c ∷ t) ∷ [])
kept_whole c t = ap (with_mark First c) (all_further t)

kept_broken : (c : ℕ) (t : List ℕ) → kept_and_pieces (c ∷ t) (Open ∷ map (λ _. Further) t) ≡ ([], broken (c ∷ t) ∷ [])
kept_broken c t = ap (with_mark Open c) (all_further t)

kept_begins : (u : List ℕ) → BeginAPiece u (kept_marks u)
kept_begins [] = refl
kept_begins (c ∷ t) = refl

kept_closed : (b : Bool) (u : List ℕ) → pieces_in u (kept_marks u) ≡ closed (current_in b u) []
kept_closed b [] = refl
kept_closed true (c ∷ t) = ap (λ (p : List ℕ × List Piece). counted_piece p.0 p.1) (kept_whole c t)
kept_closed false (c ∷ t) = ap (λ (p : List ℕ × List Piece). counted_piece p.0 p.1) (kept_whole c t)

-- all of a list
pub take_whole : {A : Type 0} (n : ℕ) (xs : List A) → n ≡ length xs → take n xs ≡ xs
take_whole n xs e = ap (λ k. take k xs) e ∙ ap (take (length xs)) (sym (append-nil xs)) ∙ take-append_seam xs []

same_size : (f : ℕ) (t : List ℕ) (marks : List Mark) → length marks ≡ length t → f ≤ length t → length (take f marks) ≡ length (take f t)
same_size f t marks size within = length-take-le f marks (omega (arith, size, within)) ∙ sym (length-take-le f t within)

-- the kept text that is being read is whole
pub closes : (b : Bool) (f : ℕ) (t : List ℕ) (marks : List Mark) → length marks ≡ length t → f ≤ length t → drop f marks ≡ kept_marks (drop f t)
    → pieces_in t marks ≡ pieces_in (take f t) (take f marks) ++ closed (current_in b (drop f t)) []
closes b f t marks size within kept =
    (λ i. pieces_in (sym (take-append-drop f t) i) (sym (take-append-drop f marks) i))
    ∙ ap (λ (ms : List Mark). pieces_in (take f t ++ drop f t) (take f marks ++ ms)) kept
    ∙ pieces_append (take f t) (drop f t) (take f marks) (kept_marks (drop f t)) (same_size f t marks size within) (kept_begins (drop f t))
    ∙ ap (λ (ps : List Piece). pieces_in (take f t) (take f marks) ++ ps) (kept_closed b (drop f t))

-- ---- at the end

last_closed : (s : Scan) (b : Bool) (u : List ℕ) → s.inside ≡ false → last_piece s (current_in b u) ≡ closed (current_in b u) []
last_closed s b [] outside = refl
last_closed s true (c ∷ u) outside = ap (λ i. cond i (broken (c ∷ u) ∷ []) (whole (c ∷ u) ∷ [])) outside
last_closed s false (c ∷ u) outside = refl

last_counted : (s : Scan) (u : List ℕ) → last_piece s (current_in false u) ≡ closed (current_in false u) []
last_counted s [] = refl
last_counted s (c ∷ u) = refl

last_nothing : (s : Scan) (b : Bool) (u : List ℕ) → u ≡ [] → last_piece s (current_in b u) ≡ closed (current_in b u) []
last_nothing s b u e = ap (λ x. last_piece s (current_in b x)) e ∙ sym (ap (λ x. closed (current_in b x) []) e)

-- where none is, what is being read is whole
last_is_closed : (s : Scan) (b : Bool) (first : ℕ) (t : List ℕ) → is_open s b first t ≡ false → last_piece s (current_in b (drop first t)) ≡ closed (current_in b (drop first t)) []
last_is_closed s b first t shut = go s.inside b (nat_lt first (length t)) refl refl refl shut
  where
    go : (i k l : Bool) → s.inside ≡ i → b ≡ k → nat_lt first (length t) ≡ l → (i && (k && l)) ≡ false → last_piece s (current_in b (drop first t)) ≡ closed (current_in b (drop first t)) []
    go false k l inside is lt shut = last_closed s b (drop first t) inside
    go true false l inside is lt shut = ap (λ x. last_piece s (current_in x (drop first t))) is ∙ last_counted s (drop first t) ∙ sym (ap (λ x. closed (current_in x (drop first t)) []) is)
    go true true false inside is lt shut = last_nothing s b (drop first t) (drop_all first t (ltb-false first (length t) lt))
    go true true true inside is lt shut = absurd cc

pub ends_whole : (s : Scan) (b : Bool) (first : ℕ) (t : List ℕ) (marks : List Mark) → length marks ≡ length t → first ≤ length t → drop first marks ≡ kept_marks (drop first t) → is_open s b first t ≡ false
    → pieces_in t marks ≡ pieces_in (take first t) (take first marks) ++ last_piece s (current_in b (drop first t))
ends_whole s b first t marks size within kept shut =
    closes b first t marks size within kept ∙ ap (λ (ps : List Piece). pieces_in (take first t) (take first marks) ++ ps) (sym (last_is_closed s b first t shut))

-- where one is, its first mark is set
set_first : (f : ℕ) (marks rest : List Mark) (m : Mark) → f ≤ length marks → drop f marks ≡ m ∷ rest → slice_set marks f Open ≡ take f marks ++ Open ∷ rest
set_first f marks rest m within e =
    let size = length-take-le f marks within in
    (λ i. slice_set (whole_list i) (sym size i) Open)
    ∙ set-append_seam (take f marks) m rest Open
  where
    whole_list : marks ≡ take f marks ++ m ∷ rest
    whole_list = sym (take-append-drop f marks) ∙ ap (λ (x : List Mark). take f marks ++ x) e

open_ends : (s : Scan) (f : ℕ) (t u : List ℕ) (c : ℕ) (marks : List Mark) → length marks ≡ length t → f ≤ length t → drop f t ≡ c ∷ u → drop f marks ≡ kept_marks (drop f t) → s.inside ≡ true
    → pieces_in t (slice_set marks f Open) ≡ pieces_in (take f t) (take f marks) ++ last_piece s (current_in true (drop f t))
open_ends s f t u c marks size within is kept inside =
    ap (pieces_in t) (set_first f marks (map (λ _. Further) u) First (omega (arith, size, within)) (kept ∙ ap kept_marks is))
    ∙ ap (λ (x : List ℕ). pieces_in x (take f marks ++ Open ∷ map (λ _. Further) u)) (sym (take-append-drop f t) ∙ ap (λ (x : List ℕ). take f t ++ x) is)
    ∙ pieces_append (take f t) (c ∷ u) (take f marks) (Open ∷ map (λ _. Further) u) (same_size f t marks size within) refl
    ∙ ap (λ (ps : List Piece). pieces_in (take f t) (take f marks) ++ ps)
    (ap (λ (p : List ℕ × List Piece). counted_piece p.0 p.1) (kept_broken c u)
    ∙ ap (λ i. cond i (broken (c ∷ u) ∷ []) (whole (c ∷ u) ∷ [])) (sym inside)
    ∙ ap (λ (x : List ℕ). last_piece s (current_in true x)) (sym is))

pub ends_broken : (s : Scan) (b : Bool) (f : ℕ) (t : List ℕ) (marks changed : List Mark) → length marks ≡ length t → f ≤ length t → drop f marks ≡ kept_marks (drop f t) → is_open s b f t ≡ true → changed ≡ slice_set marks f Open
    → pieces_in t changed ≡ pieces_in (take f t) (take f marks) ++ last_piece s (current_in b (drop f t))
ends_broken s b f t marks changed size within kept opened is =
    let parts = and_parts s.inside (b && nat_lt f (length t)) opened in
    let others = and_parts b (nat_lt f (length t)) parts.1 in
    let lt = ltb-true f (length t) others.1 in
    ap (pieces_in t) is ∙ go (drop f t) refl parts.0 lt ∙ ap (λ x. pieces_in (take f t) (take f marks) ++ last_piece s (current_in x (drop f t))) (sym others.0)
  where
    go : (rest : List ℕ) → drop f t ≡ rest → s.inside ≡ true → f < length t → pieces_in t (slice_set marks f Open) ≡ pieces_in (take f t) (take f marks) ++ last_piece s (current_in true (drop f t))
    go [] e inside lt = let long = length-drop f t in let none = ap length e in absurd (omega (arith, long, none, lt))
    go (c ∷ u) e inside lt = open_ends s f t u c marks size within e kept inside

-- ---- one more character outside kept text

pub pushes_plain : (c n f : ℕ) (t longer : List ℕ) (marks more : List Mark) → length marks ≡ length t → f ≡ length t → longer ≡ t ++ c ∷ [] → more ≡ marks ++ Plain ∷ [] → n ≡ length longer
    → pieces_in (take n longer) (take n more) ≡ pieces_in (take f t) (take f marks) ++ plain c ∷ []
pushes_plain c n f t longer marks more size closed longer_is more_is all =
    let size_t = ap length longer_is ∙ length_push t c in
    let size_m = ap length more_is ∙ length_push marks Plain in
    (λ i. pieces_in (take_whole n longer all i) (take_whole n more (omega (arith, all, size_t, size_m, size)) i))
    ∙ (λ i. pieces_in (longer_is i) (more_is i))
    ∙ grows_plain c t marks size
    ∙ (λ i. pieces_in (sym (take_whole f t closed) i) (sym (take_whole f marks (omega (arith, closed, size))) i) ++ plain c ∷ [])
