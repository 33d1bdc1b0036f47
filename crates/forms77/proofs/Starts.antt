-- What pieces of a form begin with.
use Rattle.std.proofs.Common.{◌≡◌, ◌⊎◌, inl, inr, ℕ, Bool, true, false, not, ◌&&◌, ◌||◌, ◌==◌, List, [], ◌∷◌, ◌++◌, map, Some, None, refl, ap, ◌∙◌, append_assoc, arith}
use Rattle.std.specs.Prelude.{if◌then◌else◌}
use Rattle.std.specs.List.{list_all}
use Rattle.std.proofs.lemmas.Bool.{and_parts, and_from, eq-eqb}
use Rattle.std.proofs.lemmas.Bool.Decides.{nat_tests}
use Rattle.text_base.specs.Chars.{is_upper, is_digit, is_name_byte}
use Rattle.text_base.specs.Pieces.{Piece, plain, whole, broken}
use Rattle.tree77.specs.Kinds.{is_word, is_number}
use Rattle.tree77.specs.Tokens.{is_mark}
use Rattle.tree77.specs.Stops.{begins_expression, Begins}
use Rattle.tree77.specs.Lexemes.{Part, is_label}
use Rattle.forms77.proofs.Marks.{each_mark}
use Rattle.forms77.proofs.Lower.{Lower}
use Rattle.tree77.specs.Forms.{Form, nothing, mark, word, name, label, numeral, number, format_text, portion, inside, both, choice, told, perhaps, repeated, seen, judged, refused, Repeats, repeats_none, repeats_more, Matches, ahead, sort_of, first_sort, is_in}
use Rattle.forms77.specs.Goodness.{is_good_look, are_told, stops, is_null, implies, begins, is_good}
use Rattle.forms77.proofs.Sorts.{letter_sort, digit_sort, mark_sort}

-- ---- what forms begin with

pub or_left : (a b : Bool) → a ≡ true → (a || b) ≡ true
or_left a b is = ap (λ x. x || b) is

pub or_right : (a b : Bool) → b ≡ true → (a || b) ≡ true
or_right true b is = refl
or_right false b is = is

-- the pieces begin with what the form begins with, or are none
abbrev pub Starts : {A : Type 0} → Form A → List Piece → List Piece → Type 0
Starts f u v = (begins f (first_sort (u ++ v)) ≡ true) ⊎ ((u ≡ []) × (is_null f ≡ true))

word_starts : (w : List ℕ) (v : List Piece) → is_word w ≡ true → (first_sort (map plain w ++ v) == 65) ≡ true
word_starts [] v is = absurd cc
word_starts (c ∷ w) v is = eq-eqb (sort_of c) 65 (letter_sort c (and_parts (is_upper c) (list_all is_name_byte w) is).0)

pub label_is_number : (w : List ℕ) → is_label w ≡ true → is_number w ≡ true
label_is_number [] is = absurd cc
label_is_number (c ∷ w) is = (and_parts (list_all is_digit (c ∷ w)) _ is).0

number_starts : (w : List ℕ) (v : List Piece) → is_number w ≡ true → (first_sort (map plain w ++ v) == 48) ≡ true
number_starts [] v is = absurd cc
number_starts (c ∷ w) v is = eq-eqb (sort_of c) 48 (digit_sort c (and_parts (is_digit c) (list_all is_digit w) is).0)

abbrev starts_expression : ℕ → Bool
starts_expression = is_in (65 ∷ 48 ∷ 39 ∷ 40 ∷ 46 ∷ 43 ∷ 45 ∷ [])

both_tests : (a b : Bool) → (a && not b) ≡ false → a ≡ true → b ≡ true
both_tests true true e is = refl
both_tests true false e is = absurd cc
both_tests false b e is = absurd cc

nothing_begins : (c : ℕ) → is_upper c ≡ false → is_digit c ≡ false → is_mark c ≡ false → begins_expression c ≡ true → starts_expression 1 ≡ true
nothing_begins c u d m is = grind (arith, nat_tests)

wide_starts : (u v : List Piece) → Begins u → starts_expression (first_sort (u ++ v)) ≡ true
wide_starts [] v is = absurd is
wide_starts (whole t ∷ u) v is = refl
wide_starts (broken t ∷ u) v is = absurd is
wide_starts (plain c ∷ u) v is = go (is_upper c) (is_digit c) (is_mark c) refl refl refl
  where
    go : (upper digit marked : Bool) → is_upper c ≡ upper → is_digit c ≡ digit → is_mark c ≡ marked → starts_expression (if upper then 65 else (if digit then 48 else (if marked then c else 1))) ≡ true
    go true digit marked u d m = refl
    go false true marked u d m = refl
    go false false true u d m = both_tests (begins_expression c) (starts_expression c) (each_mark (λ k. begins_expression k && not (starts_expression k)) c refl refl refl refl refl refl refl refl refl refl m) is
    go false false false u d m = nothing_begins c u d m is

pub never_null : {P : Type 0} (b : Bool) → not b ≡ true → b ≡ true → P
never_null true e is = absurd cc
never_null false e is = absurd cc

abbrev pub StartsForm : {A : Type 0} → Form A → Type 0
StartsForm f = (d : ℕ) (u v : List Piece) (x : _) (ps : List Part) → Matches f d u x ps → Starts f u v

pub repeats_start : {A : Type 0} (f : Form A) → not (is_null f) ≡ true → StartsForm f → (d : ℕ) (u v : List Piece) (xs : List A) (ps : List Part) → Repeats (Matches f d) u xs ps → (begins f (first_sort (u ++ v)) ≡ true) ⊎ (u ≡ [])
repeats_start f some one d u v xs ps (repeats_none none is parts) = inr none
repeats_start f some one d u v xs ps (repeats_more {v = a} {w = w} {qs = qs} {x = x} front m more is parts) = go (one d a (w ++ v) x qs m)
  where
    go : Starts f a (w ++ v) → (begins f (first_sort (u ++ v)) ≡ true) ⊎ (u ≡ [])
    go (inl is) = inl (ap (λ y. begins f (first_sort y)) (ap (λ y. y ++ v) front ∙ append_assoc a w v) ∙ is)
    go (inr none) = never_null (is_null f) some none.1

module _ (low : Lower) where
  pub starts : {A : Type 0} (f : Form A) → is_good f ≡ true → (d : ℕ) (u v : List Piece) (x : A) (ps : List Part) → Matches f d u x ps → Starts f u v
  starts (nothing y) good d u v x ps m = inr (m.0, refl)
  starts (mark c) good d u v x ps m = inl (ap (λ y. first_sort (y ++ v) == c) m.0 ∙ eq-eqb (sort_of c) c (mark_sort c good))
  starts (word w) good d u v x ps m = inl (ap (λ y. first_sort (y ++ v) == 65) m.0 ∙ word_starts w v good)
  starts name good d u v x ps m = inl (ap (λ y. first_sort (y ++ v) == 65) m.1 ∙ word_starts m.0 v m.2)
  starts label good d u v x ps m = inl (ap (λ y. first_sort (y ++ v) == 48) m.1 ∙ number_starts m.0 v (label_is_number m.0 m.2))
  starts numeral good d u v x ps m = inl (ap (λ y. first_sort (y ++ v) == 48) m.0 ∙ number_starts x v m.1)
  starts number good d u v x ps m = inl (ap (λ y. first_sort (y ++ v) == 48) m.1 ∙ number_starts m.0 v m.2)
  starts format_text good d u v x ps m = inl (ap (λ y. first_sort (y ++ v) == 39) m.0)
  starts (portion strict marks) good d u v x ps m = inl (wide_starts u v (low.wide_begins u m.0 x m.1))
  starts (inside f) good d u v x ps m = inl (ap (λ y. first_sort (y ++ v) == 40) m.2)
  starts (both f g) good d u v x ps m =
      let goods = and_parts (is_good f) (is_good g && implies (begins g) (stops f)) good in
      go (starts f goods.0 d m.0 (m.1 ++ v) x.0 m.2 m.5) (starts g (and_parts (is_good g) _ goods.1).0 d m.1 v x.1 m.3 m.6)
    where
      whole : u ++ v ≡ m.0 ++ (m.1 ++ v)
      whole = ap (λ y. y ++ v) m.4 ∙ append_assoc m.0 m.1 v

      go : Starts f m.0 (m.1 ++ v) → Starts g m.1 v → Starts (both f g) u v
      go (inl is) other = inl (ap (λ y. begins f (first_sort y) || (is_null f && begins g (first_sort y))) whole ∙ or_left _ _ is)
      go (inr none) (inl is) =
          let same : u ++ v ≡ m.1 ++ v = whole ∙ ap (λ y. y ++ (m.1 ++ v)) none.0 in
          inl (ap (λ y. begins f (first_sort y) || (is_null f && begins g (first_sort y))) same ∙ or_right _ _ (and_from (is_null f) _ none.1 is))
      go (inr none) (inr more) = inr (m.4 ∙ ap (λ y. y ++ m.1) none.0 ∙ more.0, and_from (is_null f) (is_null g) none.1 more.1)
  starts (choice ks f g) good d u v x ps m =
      let goods = and_parts (is_good f) (is_good g && (not (is_null f) && (implies (begins f) (is_in ks) && implies (begins g) (λ k. not (is_in ks k))))) good in
      let more = and_parts (is_good g) (not (is_null f) && (implies (begins f) (is_in ks) && implies (begins g) (λ k. not (is_in ks k)))) goods.1 in
      go (and_parts (not (is_null f)) _ more.1).0 (starts f goods.0 d u v x ps) (starts g more.0 d u v x ps) m
    where
      go : not (is_null f) ≡ true → (Matches f d u x ps → Starts f u v) → (Matches g d u x ps → Starts g u v) → Matches f d u x ps ⊎ Matches g d u x ps → Starts (choice ks f g) u v
      go some first second (inl m) = at (first m)
        where
          at : Starts f u v → Starts (choice ks f g) u v
          at (inl is) = inl (or_left _ _ is)
          at (inr none) = never_null (is_null f) some none.1
      go some first second (inr m) = at (second m)
        where
          at : Starts g u v → Starts (choice ks f g) u v
          at (inl is) = inl (or_right _ _ is)
          at (inr none) = inr none
  starts (told look f g) good d u v x ps m =
      let goods = and_parts (is_good f) (is_good g && (is_good_look look && are_told look f g)) good in
      go (λ m. starts f goods.0 d u v x ps m) (λ m. starts g (and_parts (is_good g) (is_good_look look && are_told look f g) goods.1).0 d u v x ps m) m
    where
      go : (Matches f d u x ps → Starts f u v) → (Matches g d u x ps → Starts g u v) → ((ahead look u ≡ true) × Matches f d u x ps) ⊎ ((ahead look u ≡ false) × Matches g d u x ps) → Starts (told look f g) u v
      go first second (inl m) = at (first m.1)
        where
          at : Starts f u v → Starts (told look f g) u v
          at (inl is) = inl (or_left _ _ is)
          at (inr none) = inr (none.0, or_left _ _ none.1)
      go first second (inr m) = at (second m.1)
        where
          at : Starts g u v → Starts (told look f g) u v
          at (inl is) = inl (or_right _ _ is)
          at (inr none) = inr (none.0, or_right _ _ none.1)
  starts (perhaps c f) good d u v x ps m = go m
    where
      go : ((u ≡ []) × (x ≡ None) × (ps ≡ [])) ⊎ ((w : List Piece) × (y : _) × (u ≡ plain c ∷ w) × Matches f d w y ps × (x ≡ Some y)) → Starts (perhaps c f) u v
      go (inl none) = inr (none.0, refl)
      go (inr some) = inl (ap (λ y. first_sort (y ++ v) == c) some.2 ∙ eq-eqb (sort_of c) c (mark_sort c (and_parts (is_mark c) (is_good f) good).0))
  starts (repeated ks f) good d u v x ps m =
      let goods = and_parts (is_good f) (not (is_null f) && (implies (begins f) (is_in ks) && implies (begins f) (stops f))) good in
      go (repeats_start f (and_parts (not (is_null f)) _ goods.1).0 (starts f goods.0) d u v x ps m)
    where
      go : (begins f (first_sort (u ++ v)) ≡ true) ⊎ (u ≡ []) → Starts (repeated ks f) u v
      go (inl is) = inl is
      go (inr none) = inr (none, refl)
  starts (seen view f) good d u v x ps m = starts f good d u v m.0 ps m.1
  starts (judged view f) good d u v x ps m = starts f good d u v m.0 m.1 m.3
  starts (refused p f) good d u v x ps m = starts f good d u v x m.0 m.1

-- what stands behind the first of two parts may stand there
pub stops_first : {A B : Type 0} (f : Form A) (g : Form B) (w v : List Piece) → ((z : List Piece) → begins g (first_sort z) ≡ true → stops f (first_sort z) ≡ true) → (not (is_null g) || stops f (first_sort v)) ≡ true → Starts g w v
    → stops f (first_sort (w ++ v)) ≡ true
stops_first f g w v leads last (inl is) = leads (w ++ v) is
stops_first f g w v leads last (inr none) = ap (λ z. stops f (first_sort (z ++ v))) none.0 ∙ by_null (is_null g) none.1 last
  where
    by_null : (b : Bool) → b ≡ true → (not b || stops f (first_sort v)) ≡ true → stops f (first_sort v) ≡ true
    by_null true e is = is
    by_null false e is = absurd cc
