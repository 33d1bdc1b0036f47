-- The first characters of a text that grows.
use Rattle.std.proofs.Common.{◌≡◌, ℕ, zero, suc, ◌-◌, List, [], ◌∷◌, ◌++◌, length, take, refl, sym, ap, subst, ◌∙◌, arith}

-- the first characters of a text, and of what follows as many as are wanting
on : (n : ℕ) (xs ys : List ℕ) → take n xs ++ take (n - length (take n xs)) ys ≡ take n (xs ++ ys)
on zero xs ys = refl
on (suc n) [] ys = ap (λ m. take m ys) (nothing_off (suc n))
  where
    nothing_off : (n : ℕ) → n - 0 ≡ n
    nothing_off n = omega arith
on (suc n) (x ∷ xs) ys = ap (λ m. x ∷ take n xs ++ take m ys) (one_off (length (take n xs))) ∙ ap (λ t. x ∷ t) (on n xs ys)
  where
    one_off : (k : ℕ) → suc n - suc k ≡ n - k
    one_off k = omega arith

pub take_on : (n : ℕ) (made xs ys : List ℕ) → made ≡ take n xs → made ++ take (n - length made) ys ≡ take n (xs ++ ys)
take_on n made xs ys is = subst (λ m. m ++ take (n - length m) ys ≡ take n (xs ++ ys)) (sym is) (on n xs ys)
