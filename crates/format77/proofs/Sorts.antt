-- Which characters are of a sort.
use Rattle.std.proofs.Common.{◌≡◌, ◌⊎◌, inl, inr, ℕ, Bool, true, ◌||◌, ◌==◌}
use Rattle.std.specs.Prelude.{if◌then◌else◌}
use Rattle.std.proofs.lemmas.Bool.{or_cases, eqb-true}
use Rattle.format77.specs.Reading.{Sort, letter_i, letter_l, letter_a, letter_x, letter_h, letter_p, letter_t, letter_s, letter_b, letter_e, an_opening, a_closing, a_comma, a_slash, a_colon, a_sign, nothing, sort_of}
use Rattle.format77.proofs.Digits.{by_test}

abbrev pub IsOf : ℕ → Sort → Type 0
IsOf c letter_i = c ≡ 73
IsOf c letter_l = c ≡ 76
IsOf c letter_a = c ≡ 65
IsOf c letter_x = c ≡ 88
IsOf c letter_h = c ≡ 72
IsOf c letter_p = c ≡ 80
IsOf c letter_t = c ≡ 84
IsOf c letter_s = c ≡ 83
IsOf c letter_b = c ≡ 66
IsOf c letter_e = (c ≡ 69) ⊎ ((c ≡ 70) ⊎ ((c ≡ 68) ⊎ (c ≡ 71)))
IsOf c an_opening = c ≡ 40
IsOf c a_closing = c ≡ 41
IsOf c a_comma = c ≡ 44
IsOf c a_slash = c ≡ 47
IsOf c a_colon = c ≡ 58
IsOf c a_sign = (c ≡ 43) ⊎ (c ≡ 45)
IsOf c nothing = Unit {0}

either_of : (c d : ℕ) {b : Bool} {B : Type 0} → (b ≡ true → B) → (c == d || b) ≡ true → (c ≡ d) ⊎ B
either_of c d {b} {B} f e = go (or_cases (c == d) b e)
  where
    go : (c == d ≡ true) ⊎ (b ≡ true) → (c ≡ d) ⊎ B
    go (inl is) = inl (eqb-true c d is)
    go (inr is) = inr (f is)

pub sort_is : (c : ℕ) → IsOf c (sort_of c)
sort_is c =
    mark 73 letter_i _ (eqb-true c 73) (mark 76 letter_l _ (eqb-true c 76) (mark 65 letter_a _ (eqb-true c 65) (mark 88 letter_x _ (eqb-true c 88) (mark 72 letter_h _ (eqb-true c 72)
    (mark 80 letter_p _ (eqb-true c 80) (mark 84 letter_t _ (eqb-true c 84) (mark 83 letter_s _ (eqb-true c 83) (mark 66 letter_b _ (eqb-true c 66)
    (by_test (IsOf c) _ letter_e _ (either_of c 69 (either_of c 70 (either_of c 68 (eqb-true c 71)))) (λ off.
    mark 40 an_opening _ (eqb-true c 40) (mark 41 a_closing _ (eqb-true c 41) (mark 44 a_comma _ (eqb-true c 44) (mark 47 a_slash _ (eqb-true c 47) (mark 58 a_colon _ (eqb-true c 58)
    (by_test (IsOf c) _ a_sign nothing (either_of c 43 (eqb-true c 45)) (λ gone. tt))))))))))))))))
  where
    mark : (d : ℕ) (s : Sort) (t : Sort) → (c == d ≡ true → IsOf c s) → IsOf c t → IsOf c (if c == d then s else t)
    mark d s t f g = by_test (IsOf c) (c == d) s t f (λ off. g)
