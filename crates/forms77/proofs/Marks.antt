-- What holds of each mark.
use Rattle.std.proofs.Common.{◌≡◌, ◌⊎◌, inl, inr, ℕ, Bool, true, false, ◌||◌, ◌==◌, refl, ap, ◌∙◌}
use Rattle.std.proofs.lemmas.Bool.{or_cases, eqb-true}
use Rattle.text_base.specs.Chars.{is_digit}
use Rattle.tree77.specs.Tokens.{is_mark}

-- a test that no mark passes
pub each_mark : (test : ℕ → Bool) (c : ℕ) → test 40 ≡ false → test 41 ≡ false → test 44 ≡ false → test 61 ≡ false → test 43 ≡ false → test 45 ≡ false → test 42 ≡ false → test 47 ≡ false → test 58 ≡ false → test 46 ≡ false
    → is_mark c ≡ true → test c ≡ false
each_mark test c a b d e f g h i j k =
    other 46 k (other 58 j (other 47 i (other 42 h (other 45 g (other 43 f (other 61 e (other 44 d (other 41 b (λ same. ap test (eqb-true c 40 same) ∙ a)))))))))
  where
    other : (d : ℕ) {front : Bool} → test d ≡ false → (front ≡ true → test c ≡ false) → (front || c == d) ≡ true → test c ≡ false
    other d {front} off before is = go (or_cases front (c == d) is)
      where
        go : (front ≡ true) ⊎ (c == d ≡ true) → test c ≡ false
        go (inl earlier) = before earlier
        go (inr same) = ap test (eqb-true c d same) ∙ off

pub mark_is_not_digit : (c : ℕ) → is_mark c ≡ true → is_digit c ≡ false
mark_is_not_digit c = each_mark is_digit c refl refl refl refl refl refl refl refl refl refl
