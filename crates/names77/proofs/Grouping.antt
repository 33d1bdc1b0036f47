-- A table that grows by one note after another says of each key what all notes say of it.
use Rattle.std.proofs.Common.{◌≡◌, Bool, true, false, not, ◌&&◌, List, [], ◌∷◌, map, filter, fold, Option, Some, None, refl, sym, ap, ◌∙◌, arith}
use Rattle.std.specs.Prelude.{cond, is_some}
use Rattle.std.specs.Map.{lookup}
use Rattle.indexmap.specs.IndexMap.{insert_entry}
use Rattle.names77.specs.Grouped.{Said, Grouped, facts_about, row_about, first_seen, rows_of, look_up_or, has_key, put, with_note, with_notes}

-- the test holds of equal keys alone
abbrev pub Tests : {K : Type 0} → (K → K → Bool) → Type 0
Tests {K} same = (x y : K) → (same x y ≡ true → x ≡ y) × (x ≡ y → same x y ≡ true)

-- ---- what two tests leave of a list

filtered_twice : {A : Type 0} (p q : A → Bool) (xs : List A) → filter q (filter p xs) ≡ filter (λ x. p x && q x) xs
filtered_twice p q [] = refl
filtered_twice p q (x ∷ xs) = grind (arith, filtered_twice p q xs)

mapped_twice : {A B : Type 0} (f g : A → B) (p q : A → Bool) → ((x : A) → q x ≡ true → f x ≡ g x) → (xs : List A)
    → map f (filter p (filter q xs)) ≡ map g (filter (λ x. p x && q x) xs)
mapped_twice f g p q e [] = refl
mapped_twice f g p q e (x ∷ xs) = grind (arith, mapped_twice f g p q e xs, e x)

all_kept : {A : Type 0} (xs : List A) → filter (λ x. true) xs ≡ xs
all_kept [] = refl
all_kept (x ∷ xs) = ap (λ l. x ∷ l) (all_kept xs)

module _ {K F R : Type 0} (same : K → K → Bool) (decides : Tests same) (add : R → F → R) (blank : R) where
  same_comm : (x y : K) → same x y ≡ same y x
  same_comm x y = grind (arith, (decides x y).0, (decides x y).1, (decides y x).0, (decides y x).1)

  abbrev differs : K → K → Bool
  differs x y = not (same x y)

  abbrev keys : List (Said K F) → List K
  keys ns = map (λ (n : Said K F). n.key) ns

  -- the notes about some keys
  abbrev kept : (K → Bool) → List (Said K F) → List (Said K F)
  kept p ns = filter (λ (n : Said K F). p n.key) ns

  abbrev row : List (Said K F) → K → K × R
  row ns x = (x, row_about same add blank x ns)

  -- the first row takes the facts about its key, and the others the other notes
  first_row : (k : K) (r : R) (t : Grouped K R) (ns : List (Said K F))
      → with_notes same add blank ((k, r) ∷ t) ns ≡ (k, fold add r (facts_about same k ns)) ∷ with_notes same add blank t (kept (differs k) ns)
  first_row k r t [] = refl
  first_row k r t (n ∷ ns) = grind (arith, first_row k (add r n.fact) t ns, first_row k r (with_note same add blank t n) ns, same_comm k n.key)

  -- a note says nothing of other keys
  row_beside : (n : Said K F) (ns : List (Said K F)) (x : K) → differs n.key x ≡ true → row (n ∷ ns) x ≡ row ns x
  row_beside n ns x e = grind (arith, same_comm n.key x)

  facts_kept : (p : K → Bool) (k : K) → p k ≡ true → (ns : List (Said K F)) → facts_about same k (kept p ns) ≡ facts_about same k ns
  facts_kept p k e [] = refl
  facts_kept p k e (n ∷ ns) = grind (arith, facts_kept p k e ns, (decides k n.key).0)

  left_out : (p : K → Bool) (k : K) → p k ≡ false → (xs : List K) → filter (λ x. p x && differs k x) xs ≡ filter p xs
  left_out p k e [] = refl
  left_out p k e (x ∷ xs) = grind (arith, left_out p k e xs, (decides k x).0)

  -- one note before the others
  rows_more : (p : K → Bool) (n : Said K F) (ns : List (Said K F)) (xs : List K) (b : Bool) → p n.key ≡ b
      → with_notes same add blank [] (kept p ns) ≡ map (row ns) (filter p xs)
      → with_notes same add blank [] (kept (λ x. p x && differs n.key x) ns) ≡ map (row ns) (filter (λ x. p x && differs n.key x) xs)
      → with_notes same add blank [] (cond b (n ∷ kept p ns) (kept p ns))
      ≡ map (row (n ∷ ns)) (cond b (n.key ∷ filter p (filter (differs n.key) xs)) (filter p (filter (differs n.key) xs)))
  rows_more p n ns xs true e all without =
      let others = mapped_twice (row (n ∷ ns)) (row ns) p (differs n.key) (row_beside n ns) xs in
      grind (arith, first_row n.key (add blank n.fact) [] (kept p ns), filtered_twice (λ (m : Said K F). p m.key) (λ (m : Said K F). differs n.key m.key) ns, facts_kept p n.key e ns, others, (decides n.key n.key).1 refl)
  rows_more p n ns xs false e all without = all ∙ ap (map (row ns)) (sym (left_out p n.key e xs)) ∙ sym (mapped_twice (row (n ∷ ns)) (row ns) p (differs n.key) (row_beside n ns) xs)

  rows_kept : (p : K → Bool) (ns : List (Said K F)) → with_notes same add blank [] (kept p ns) ≡ map (row ns) (filter p (first_seen same (keys ns)))
  rows_kept p [] = refl
  rows_kept p (n ∷ ns) = rows_more p n ns (first_seen same (keys ns)) (p n.key) refl (rows_kept p ns) (rows_kept (λ x. p x && differs n.key x) ns)

  -- all notes, taken one after another
  pub one_name : (ns : List (Said K F)) → with_notes same add blank [] ns ≡ rows_of same add blank ns
  one_name ns = ap (with_notes same add blank []) (sym (all_kept ns)) ∙ rows_kept (λ x. true) ns ∙ ap (map (row ns)) (all_kept (first_seen same (keys ns)))

-- ---- the same table as a map of the code: keys and rows are seen as those of the table

module _ {K R L Q : Type 0} (same : K → K → Bool) (key_of : L → K) (row_of : Q → R) (blank : R) where
  abbrev pub entry_by : L × Q → K × R
  entry_by e = (key_of e.0, row_of e.1)

  abbrev pub same_by : L → L → Bool
  same_by a b = same (key_of a) (key_of b)

  abbrev pub found_or : Option Q → R
  found_or None = blank
  found_or (Some r) = row_of r

  pub looked_up : (x : K) (es : List (L × Q)) → look_up_or same blank (map entry_by es) x ≡ found_or (lookup (λ k. same x (key_of k)) es)
  looked_up x [] = refl
  looked_up x (e ∷ es) = grind (arith, looked_up x es)

  pub has_looked_up : (x : K) (es : List (L × Q)) → has_key same (map entry_by es) x ≡ is_some (lookup (λ k. same x (key_of k)) es)
  has_looked_up x [] = refl
  has_looked_up x (e ∷ es) = grind (arith, has_looked_up x es)

  pub put_inserted : (x : L) (r : Q) (es : List (L × Q)) → map entry_by (insert_entry same_by es x r) ≡ put same (map entry_by es) (key_of x) (row_of r)
  put_inserted x r [] = refl
  put_inserted x r (e ∷ es) = grind (arith, put_inserted x r es)
