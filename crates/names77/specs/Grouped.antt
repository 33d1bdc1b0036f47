-- What is said of keys, grouped by key: a list of notes, and a table with one row for each key.
use Rattle.std.specs.Prelude.{Bool, true, false, not, List, [], ◌∷◌, map, filter, fold, if◌then◌else◌}

-- something that is said of a key
pub record Said (K F : Type 0) : Type 0 where
  pub key : K
  pub fact : F

abbrev pub Grouped : Type 0 → Type 0 → Type 0
Grouped K R = List (K × R)

module _ {K : Type 0} (same : K → K → Bool) where
  -- the facts about one key
  abbrev pub facts_about : {F : Type 0} → K → List (Said K F) → List F
  facts_about {F} x notes = map (λ (n : Said K F). n.fact) (filter (λ (n : Said K F). same x n.key) notes)

  -- each key once, where it appears first
  abbrev pub first_seen : List K → List K
  first_seen [] = []
  first_seen (x ∷ xs) = x ∷ filter (λ y. not (same x y)) (first_seen xs)

  abbrev pub has_key : {R : Type 0} → Grouped K R → K → Bool
  has_key [] x = false
  has_key (e ∷ es) x = if same x e.0 then true else has_key es x

  abbrev pub put : {R : Type 0} → Grouped K R → K → R → Grouped K R
  put [] x r = (x, r) ∷ []
  put (e ∷ es) x r = if same x e.0 then (e.0, r) ∷ es else e ∷ put es x r

  abbrev pub look_up_or : {R : Type 0} → R → Grouped K R → K → R
  look_up_or blank [] x = blank
  look_up_or blank (e ∷ es) x = if same x e.0 then e.1 else look_up_or blank es x

-- a row takes one more fact by `add`, and is `blank` where nothing is said
module _ {K F R : Type 0} (same : K → K → Bool) (add : R → F → R) (blank : R) where
  -- ---- one key among all notes

  abbrev pub row_about : K → List (Said K F) → R
  row_about x notes = fold add blank (facts_about same x notes)

  -- each key in the order of first appearance, with all that the notes say of it
  abbrev pub rows_of : List (Said K F) → Grouped K R
  rows_of notes = map (λ x. (x, row_about x notes)) (first_seen same (map (λ (n : Said K F). n.key) notes))

  -- ---- a table that grows by one note after another

  abbrev pub with_note : Grouped K R → Said K F → Grouped K R
  with_note t n = put same t n.key (add (look_up_or same blank t n.key) n.fact)

  abbrev pub with_notes : Grouped K R → List (Said K F) → Grouped K R
  with_notes t notes = fold with_note t notes
