-- The comments of a source stand at the same positions in what is written.
use Rattle.std.proofs.Common.{◌≡◌, ℕ, zero, suc, ◌+◌, ◌-◌, ◌<◌, ◌≤◌, true, cond, List, [], ◌∷◌, ◌++◌, map, refl, sym, ap, ◌∙◌, subst, arith}
use Rattle.std.specs.Prelude.{nat_le, nat_lt}
use Rattle.std.proofs.lemmas.List.{map-append, append_assoc}
use Rattle.std.proofs.lemmas.Bool.{and_from, and_parts, leb-true, lt-ltb, le-ltb}
use Rattle.text_base.specs.Cards.{Comment, comments}
use Rattle.program77.specs.Tree as source
use Rattle.program77.specs.Tree.{SourceUnit, SourceProgram}
use Rattle.program77.specs.Plain.{source_unit}
use Rattle.program77.specs.Source.{IsSource}
use Rattle.text_base.specs.Remarks.{Remark}
use Rattle.project_set.specs.Rewrite.{remark_of, comments_at, comments_from, remarks_at, written_list, count_of, size_of, sizes_of, written}
use Rattle.project_set.specs.Positions.{Position, before_header, after_header, before_entry, at_end, Placed, entries_in, position_in, position_of, source_positions, placed_at, code_positions, written_positions}
use Rattle.project_set.proofs.Placing.{one_unit}
use Rattle.project_set.proofs.CommentLemmas.{is_ascending, Order, less, same, more, order, at_keeps, at_drops_less, at_drops_more, from_keeps, from_drops, all_from, parted, ascending_from, comments_ascend}
use Rattle.project_set.proofs.RemarkLemmas.{from-from}

-- comments with the positions that a function gives for how many statements stand before them
abbrev placed : (ℕ → Position) → List Comment → List Placed
placed f cs = map (λ (c : Comment). record { remark = remark_of c; position = f c.before }) cs

placed_append : (f : ℕ → Position) (cs ds : List Comment) → placed f (cs ++ ds) ≡ placed f cs ++ placed f ds
placed_append f cs ds = map-append (λ (c : Comment). record { remark = remark_of c; position = f c.before }) cs ds

placed_at_append : (p : Position) (rs ss : List Remark) → placed_at p (rs ++ ss) ≡ placed_at p rs ++ placed_at p ss
placed_at_append p rs ss = map-append (λ (r : Remark). record { remark = r; position = p }) rs ss

-- a comment with a position
abbrev with_position : Comment → Position → Placed
with_position c p = record { remark = remark_of c; position = p }

-- those before one statement stand at its position
placed_there : (f : ℕ → Position) (p : Position) (k : ℕ) → f k ≡ p → (cs : List Comment) → placed f (comments_at cs k) ≡ placed_at p (remarks_at cs k)
placed_there f p k is [] = refl
placed_there f p k is (c ∷ cs) = go (placed_there f p k is cs) (order c.before k)
  where
    go : placed f (comments_at cs k) ≡ placed_at p (remarks_at cs k) → Order c.before k
        → placed f (comments_at (c ∷ cs) k) ≡ placed_at p (map remark_of (comments_at (c ∷ cs) k))
    go more_there (less lt) = subst (λ ds. placed f ds ≡ placed_at p (map remark_of ds)) (sym (at_drops_less c cs k lt)) more_there
    go more_there (more lt) = subst (λ ds. placed f ds ≡ placed_at p (map remark_of ds)) (sym (at_drops_more c cs k lt)) more_there
    go more_there (same e) =
        let here : f c.before ≡ p = ap f e ∙ is in
        subst (λ ds. placed f ds ≡ placed_at p (map remark_of ds)) (sym (at_keeps c cs k e))
        (ap (λ (q : Position). with_position c q ∷ placed f (comments_at cs k)) here ∙ ap (λ (xs : List Placed). with_position c p ∷ xs) more_there)

-- two functions that agree from a number on
placed_alike : (f g : ℕ → Position) (k : ℕ) → ((i : ℕ) → k ≤ i → f i ≡ g i) → (cs : List Comment) → placed f (comments_from cs k) ≡ placed g (comments_from cs k)
placed_alike f g k alike [] = refl
placed_alike f g k alike (c ∷ cs) = go (placed_alike f g k alike cs) (order c.before k)
  where
    kept : placed f (comments_from cs k) ≡ placed g (comments_from cs k) → k ≤ c.before → placed f (comments_from (c ∷ cs) k) ≡ placed g (comments_from (c ∷ cs) k)
    kept more_alike le =
        subst (λ ds. placed f ds ≡ placed g ds) (sym (from_keeps c cs k le))
        (ap (λ (q : Position). with_position c q ∷ placed f (comments_from cs k)) (alike c.before le)
        ∙ ap (λ (xs : List Placed). with_position c (g c.before) ∷ xs) more_alike)

    go : placed f (comments_from cs k) ≡ placed g (comments_from cs k) → Order c.before k → placed f (comments_from (c ∷ cs) k) ≡ placed g (comments_from (c ∷ cs) k)
    go more_alike (less lt) = subst (λ ds. placed f ds ≡ placed g ds) (sym (from_drops c cs k lt)) more_alike
    go more_alike (same e) = kept more_alike (omega (arith, e))
    go more_alike (more lt) = kept more_alike (omega (arith, lt))

-- all at one position
placed_all : (p : Position) (cs : List Comment) → placed (λ i. p) cs ≡ placed_at p (map remark_of cs)
placed_all p [] = refl
placed_all p (c ∷ cs) = ap (λ (xs : List Placed). with_position c p ∷ xs) (placed_all p cs)

-- a lower bound that is passed already
from_fewer : (cs : List Comment) (j k : ℕ) → j ≤ k → comments_from (comments_from cs k) j ≡ comments_from cs k
from_fewer [] j k le = refl
from_fewer (c ∷ cs) j k le = go (from_fewer cs j k le) (order c.before k)
  where
    kept : comments_from (comments_from cs k) j ≡ comments_from cs k → k ≤ c.before → comments_from (comments_from (c ∷ cs) k) j ≡ comments_from (c ∷ cs) k
    kept passed at =
        ap (λ ds. comments_from ds j) (from_keeps c cs k at)
        ∙ from_keeps c (comments_from cs k) j (omega (arith, le, at))
        ∙ ap (λ xs. c ∷ xs) passed
        ∙ sym (from_keeps c cs k at)

    go : comments_from (comments_from cs k) j ≡ comments_from cs k → Order c.before k → comments_from (comments_from (c ∷ cs) k) j ≡ comments_from (c ∷ cs) k
    go passed (less lt) = ap (λ ds. comments_from ds j) (from_drops c cs k lt) ∙ passed ∙ sym (from_drops c cs k lt)
    go passed (same e) = kept passed (omega (arith, e))
    go passed (more lt) = kept passed (omega (arith, lt))

-- what is left in order is in order
from_ascends : (cs : List Comment) (j m : ℕ) → is_ascending m cs ≡ true → is_ascending m (comments_from cs j) ≡ true
from_ascends [] j m e = refl
from_ascends (c ∷ cs) j m e =
    let both = and_parts (nat_le m c.before) (is_ascending c.before cs) e in go both.0 (from_ascends cs j c.before both.1) (order c.before j)
  where
    kept : nat_le m c.before ≡ true → is_ascending c.before (comments_from cs j) ≡ true → j ≤ c.before → is_ascending m (comments_from (c ∷ cs) j) ≡ true
    kept at rest le = subst (λ ds. is_ascending m ds ≡ true) (sym (from_keeps c cs j le)) (and_from _ _ at rest)

    go : nat_le m c.before ≡ true → is_ascending c.before (comments_from cs j) ≡ true → Order c.before j → is_ascending m (comments_from (c ∷ cs) j) ≡ true
    go at rest (less lt) = subst (λ ds. is_ascending m ds ≡ true) (sym (from_drops c cs j lt)) (ascending_from (comments_from cs j) m c.before (leb-true m c.before at) rest)
    go at rest (same is) = kept at rest (omega (arith, is))
    go at rest (more lt) = kept at rest (omega (arith, lt))

-- ---- a list of statements

module _ (unit : ℕ) (f : ℕ → Position) (cs : List Comment) (ascends : is_ascending 0 cs ≡ true) where
  -- what stood before, those before the statement k, and the later ones
  joined : (k e : ℕ) (left : List Remark) → f k ≡ before_entry unit e
      → placed_at (before_entry unit e) (left ++ remarks_at cs k) ++ placed f (comments_from cs (k + 1)) ≡ placed_at (before_entry unit e) left ++ placed f (comments_from cs k)
  joined k e left is =
      ap (λ xs. xs ++ placed f (comments_from cs (k + 1)))
      (placed_at_append (before_entry unit e) left (remarks_at cs k) ∙ ap (λ xs. placed_at (before_entry unit e) left ++ xs) (sym (placed_there f (before_entry unit e) k is cs)))
      ∙ append_assoc (placed_at (before_entry unit e) left) (placed f (comments_at cs k)) (placed f (comments_from cs (k + 1)))
      ∙ ap (λ xs. placed_at (before_entry unit e) left ++ xs) (sym (placed_append f (comments_at cs k) (comments_from cs (k + 1))) ∙ ap (placed f) (sym (parted cs k 0 ascends)))

  -- the positions of a list's statements, of which the first is the statement k, are those of its entries
  abbrev AreEntries : source.Code → ℕ → ℕ → Type 0
  AreEntries c k e = (i : ℕ) → i ≤ count_of c → f (k + i) ≡ before_entry unit (e + entries_in c i)

  -- the statement k is the entry e
  first_entry : (k e n : ℕ) → n ≡ 0 → f (k + 0) ≡ before_entry unit (e + n) → f k ≡ before_entry unit e
  first_entry k e n zero_is is =
      let a : k ≡ k + 0 = omega arith in
      let b : e + n ≡ e = omega (arith, zero_is) in
      ap f a ∙ is ∙ ap (before_entry unit) b

  later_entries : (rest : source.Code) (k e i n : ℕ) → n ≡ entries_in rest i + 1 → f (k + suc i) ≡ before_entry unit (e + n) → f (k + 1 + i) ≡ before_entry unit (e + 1 + entries_in rest i)
  later_entries rest k e i n is at =
      let a : k + 1 + i ≡ k + suc i = omega arith in
      let b : e + n ≡ e + 1 + entries_in rest i = omega (arith, is) in
      ap f a ∙ at ∙ ap (before_entry unit) b

  same_entries : (rest : source.Code) (k e i n : ℕ) → n ≡ entries_in rest i → f (k + suc i) ≡ before_entry unit (e + n) → f (k + 1 + i) ≡ before_entry unit (e + entries_in rest i)
  same_entries rest k e i n is at =
      let a : k + 1 + i ≡ k + suc i = omega arith in
      ap f a ∙ at ∙ ap (λ j. before_entry unit (e + j)) is

  -- The comments of the list from the statement k on, and those after its END, are those that stood before, and those
  -- from the statement k on.
  list_positions : (c : source.Code) (k e : ℕ) (left : List Remark) → AreEntries c k e
      → code_positions unit e (written_list cs k left c).0 (written_list cs k left c).1 ++ placed f (comments_from cs (k + (count_of c + 1)))
      ≡ placed_at (before_entry unit e) left ++ placed f (comments_from cs k)
  list_positions source.done k e left at =
      let n : k + (0 + 1) ≡ k + 1 = omega arith in
      ap (λ j. placed_at (before_entry unit e) (left ++ remarks_at cs k) ++ placed f (comments_from cs j)) n
      ∙ joined k e left (first_entry k e 0 refl (at 0 (omega arith)))
  list_positions (source.item label place (source.simple a) rest) k e left at =
      let n : k + (count_of rest + 1 + 1) ≡ k + 1 + (count_of rest + 1) = omega arith in
      let L = written_list cs (k + 1) [] rest in
      append_assoc (placed_at (before_entry unit e) (left ++ remarks_at cs k)) (code_positions unit (e + 1) L.0 L.1) (placed f (comments_from cs (k + (count_of rest + 1 + 1))))
      ∙ ap (λ j. placed_at (before_entry unit e) (left ++ remarks_at cs k) ++ (code_positions unit (e + 1) L.0 L.1 ++ placed f (comments_from cs j))) n
      ∙ ap (λ xs. placed_at (before_entry unit e) (left ++ remarks_at cs k) ++ xs)
      (list_positions rest (k + 1) (e + 1) [] (λ i le. later_entries rest k e i (1 + entries_in rest i) (omega arith) (at (suc i) (omega (arith, le)))))
      ∙ joined k e left (first_entry k e 0 refl (at 0 (omega arith)))
  list_positions (source.item label place source.continue rest) k e left at =
      let n : k + (count_of rest + 1 + 1) ≡ k + 1 + (count_of rest + 1) = omega arith in
      let L = written_list cs (k + 1) (left ++ remarks_at cs k) rest in
      ap (λ j. code_positions unit e L.0 L.1 ++ placed f (comments_from cs j)) n
      ∙ list_positions rest (k + 1) e (left ++ remarks_at cs k) (λ i le. same_entries rest k e i (0 + entries_in rest i) (omega arith) (at (suc i) (omega (arith, le))))
      ∙ joined k e left (first_entry k e 0 refl (at 0 (omega arith)))

-- ---- a unit

module _ (u : SourceUnit) where
  -- the position of a comment by how many statements stand before it
  abbrev place_of : ℕ → Position
  place_of k = position_of 0 (u ∷ []) k

  -- where the comments between header and first executable statement are left out
  abbrev entry_of : ℕ → Position
  entry_of k = cond (nat_lt k (size_of u)) (before_entry 0 (entries_in u.code (k - 1))) at_end

  place_within : (k : ℕ) → k < size_of u → place_of k ≡ position_in 0 u k
  place_within k lt = ap (λ b. cond b (position_in 0 u k) at_end) (lt-ltb k (size_of u) lt)

  place_after : (k : ℕ) → size_of u ≤ k → place_of k ≡ at_end
  place_after k le = ap (λ b. cond b (position_in 0 u k) at_end) (le-ltb k (size_of u) le)

  entry_after : (k : ℕ) → size_of u ≤ k → entry_of k ≡ at_end
  entry_after k le = ap (λ b. cond b (before_entry 0 (entries_in u.code (k - 1))) at_end) (le-ltb k (size_of u) le)

  -- from the second statement after the header on they are the same
  places_are_entries : (k : ℕ) → 2 ≤ k → place_of k ≡ entry_of k
  places_are_entries zero le = absurd (omega (arith, le))
  places_are_entries (suc zero) le = absurd (omega (arith, le))
  places_are_entries (suc (suc k)) le =
      let n : k + 1 ≡ suc (suc k) - 1 = omega arith in
      ap (λ j. cond (nat_lt (suc (suc k)) (size_of u)) (before_entry 0 (entries_in u.code j)) at_end) n

  are_entries : (i : ℕ) → i ≤ count_of u.code → entry_of (1 + i) ≡ before_entry 0 (0 + entries_in u.code i)
  are_entries i le =
      let n : 1 + i - 1 ≡ i = omega arith in
      let z : entries_in u.code i ≡ 0 + entries_in u.code i = omega arith in
      ap (λ b. cond b (before_entry 0 (entries_in u.code (1 + i - 1))) at_end) (lt-ltb (1 + i) (size_of u) (omega (arith, le)))
      ∙ ap (λ j. before_entry 0 (entries_in u.code j)) n ∙ ap (before_entry 0) z

  module _ (cs : List Comment) (ascends : is_ascending 0 cs ≡ true) where
    -- the comments before the entries, and those after END
    body_positions : code_positions 0 0 (written_list (comments_from cs 2) 1 [] u.code).0 (written_list (comments_from cs 2) 1 [] u.code).1
        ++ placed_at at_end (map remark_of (comments_from cs (sizes_of (u ∷ []))))
        ≡ placed place_of (comments_from cs 2)
    body_positions =
        let end_is : 1 + (count_of u.code + 1) ≡ size_of u = omega arith in
        let size_is : size_of u + 0 ≡ size_of u = omega arith in
        let L = written_list (comments_from cs 2) 1 [] u.code in
        let later : placed_at at_end (map remark_of (comments_from cs (size_of u + 0))) ≡ placed entry_of (comments_from (comments_from cs 2) (1 + (count_of u.code + 1))) =
        ap (λ j. placed_at at_end (map remark_of (comments_from cs j))) size_is
        ∙ sym (placed_all at_end (comments_from cs (size_of u)))
        ∙ sym (placed_alike entry_of (λ i. at_end) (size_of u) entry_after cs)
        ∙ ap (placed entry_of) (sym (ap (comments_from (comments_from cs 2)) end_is ∙ from-from cs 2 (size_of u) (omega arith))) in
        ap (λ xs. code_positions 0 0 L.0 L.1 ++ xs) later
        ∙ list_positions 0 entry_of (comments_from cs 2) (from_ascends cs 2 0 ascends) u.code 1 0 [] are_entries
        ∙ ap (placed entry_of) (from_fewer cs 1 2 (omega arith))
        ∙ sym (placed_alike place_of entry_of 2 places_are_entries cs)

    unit_comments : placed place_of cs ≡ written_positions (written cs (one_unit u))
    unit_comments =
        let L = written_list (comments_from cs 2) 1 [] u.code in
        let one_is : (nat_lt 1 (size_of u)) ≡ true = lt-ltb 1 (size_of u) (omega arith) in
        let head : placed place_of (comments_at cs 0) ≡ placed_at (before_header 0) (remarks_at cs 0) = placed_there place_of (before_header 0) 0 (place_within 0 (omega arith)) cs in
        let inner : placed place_of (comments_at cs 1) ≡ placed_at (after_header 0) (remarks_at cs 1) = placed_there place_of (after_header 0) 1 (place_within 1 (omega arith)) cs in
        let H = placed_at (before_header 0) (remarks_at cs 0) in
        let I = placed_at (after_header 0) (remarks_at cs 1) in
        let C = code_positions 0 0 L.0 L.1 in
        let E = placed_at at_end (map remark_of (comments_from cs (sizes_of (u ∷ [])))) in
        ap (placed place_of) (sym (all_from cs 0 0 (omega arith) ascends) ∙ parted cs 0 0 ascends)
        ∙ placed_append place_of (comments_at cs 0) (comments_from cs 1)
        ∙ ap (λ xs. xs ++ placed place_of (comments_from cs 1)) head
        ∙ ap (λ xs. H ++ placed place_of xs) (parted cs 1 0 ascends)
        ∙ ap (λ xs. H ++ xs) (placed_append place_of (comments_at cs 1) (comments_from cs 2))
        ∙ ap (λ xs. H ++ (xs ++ placed place_of (comments_from cs 2))) inner
        ∙ ap (λ xs. H ++ (I ++ xs)) (sym body_positions)
        ∙ ap (λ xs. H ++ xs) (sym (append_assoc I C E))
        ∙ sym (append_assoc H (I ++ C) E)
        ∙ ap (λ xs. xs ++ E) (sym (append_assoc H I C))

-- the comments of a source stand at the same positions in what is written
pub comments_kept : (bytes : List ℕ) (p : SourceProgram) → IsSource 0 bytes p → source_positions bytes p ≡ written_positions (written (comments bytes) p)
comments_kept bytes p s =
    subst (λ (q : SourceProgram). source_positions bytes q ≡ written_positions (written (comments bytes) q)) (sym s.whole) (unit_comments (source_unit s.unit) (comments bytes) (comments_ascend bytes))
