-- Texts that are followed by blanks.
use Rattle.std.proofs.Common.{◌≡◌, refl, sym, ap, ◌∙◌, ℕ, zero, suc, ◌+◌, ◌-◌, ◌<◌, ◌≤◌, max, List, [], ◌∷◌, ◌++◌, replicate, length, drop, get_or, true, false, arith, length-append}
use Rattle.std.proofs.lemmas.Bool.{false≢true}
use Rattle.std.proofs.lemmas.List.{at_drop_more, drop_all, length-replicate, replicate-append-replicate, append_assoc}
use Rattle.std.proofs.lemmas.Bool.Decides.{nat_tests}
use Rattle.std.specs.FinMap.{slice_cmp-IsAntisymmetric, nat_cmp-IsAntisymmetric}
use Rattle.std.specs.declared.cmp.Ordering.{Ordering}
use Rattle.std.specs.declared.cmp.Ordering.TheVariants.{Less, Equal, Greater}
use Rattle.std.specs.Ordering.{nat_cmp, ordering_then, is_ne}
use Rattle.std.specs.Cmp.Lexicographic.{slice_cmp}
use Rattle.text_base.specs.Operations.{padded, text_cmp}
use Rattle.value_ops.specs.Laws.{then_blanks, BlanksDontCount, EqualButForBlanks}

abbrev blanks : ℕ → List ℕ
blanks n = replicate n 32

blank_at : (n i : ℕ) → ◌≡◌ {A = ℕ} (get_or (blanks n) i 32) 32
blank_at zero i = refl
blank_at (suc n) zero = refl
blank_at (suc n) (suc i) = blank_at n i

padded_at : (a : List ℕ) (n i : ℕ) → get_or (a ++ replicate n 32) i 32 ≡ get_or a i 32
padded_at [] n i = blank_at n i
padded_at (c ∷ a) n zero = refl
padded_at (c ∷ a) n (suc i) = padded_at a n i

pub length_padded : (a : List ℕ) (n : ℕ) → length (padded n a) ≡ max (length a) n
length_padded a n = omega (arith, length-append a (blanks (n - length a)), length-replicate {A = ℕ} (n - length a) 32)

-- how the rests of two texts from a place on compare
abbrev pub rests_cmp : List ℕ → List ℕ → ℕ → Ordering
rests_cmp a b i = slice_cmp nat_cmp (drop i (padded (length b) a)) (drop i (padded (length a) b))

pub turn : (a b : List ℕ) (i : ℕ) → i < max (length a) (length b) → rests_cmp a b i ≡ ordering_then (nat_cmp (get_or a i 32) (get_or b i 32)) (rests_cmp a b (i + 1))
turn a b i h =
    let p = padded (length b) a in
    let q = padded (length a) b in
    at_drop_more (λ t. slice_cmp nat_cmp t (drop i q)) p i 32 (omega (arith, length_padded a (length b)))
    ∙ at_drop_more (λ t. slice_cmp nat_cmp (get_or p i 32 ∷ drop (i + 1) p) t) q i 32 (omega (arith, length_padded b (length a)))
    ∙ (λ j. ordering_then (nat_cmp (padded_at a (length b - length a) i j) (padded_at b (length a - length b) i j)) (rests_cmp a b (i + 1)))

-- the first characters that differ decide, and those that don't leave it to the rest
pub decided : (o rest : Ordering) → is_ne o ≡ true → ordering_then o rest ≡ o
decided Less rest n = refl
decided Equal rest n = absurd (false≢true n)
decided Greater rest n = refl

pub undecided : (o rest : Ordering) → is_ne o ≡ false → ordering_then o rest ≡ rest
undecided Less rest n = absurd (false≢true (sym n))
undecided Equal rest n = refl
undecided Greater rest n = absurd (false≢true (sym n))

pub end : (a b : List ℕ) (i : ℕ) → max (length a) (length b) ≤ i → rests_cmp a b i ≡ Equal
end a b i h =
    ap (λ t. slice_cmp nat_cmp t (drop i (padded (length a) b))) (drop_all i (padded (length b) a) (omega (arith, length_padded a (length b))))
    ∙ ap (slice_cmp nat_cmp []) (drop_all i (padded (length a) b) (omega (arith, length_padded b (length a))))

-- ---- blanks at the end

same : (xs : List ℕ) → slice_cmp nat_cmp xs xs ≡ Equal
same [] = refl
same (x ∷ xs) = let e : nat_cmp x x ≡ Equal = grind (arith, nat_tests) in (λ i. ordering_then (e i) (same xs i))

-- two texts with as many blanks as make them as long compare alike
alike : (a b : List ℕ) (p q r s : ℕ) → length a + p ≡ length b + q → length a + r ≡ length b + s
    → slice_cmp nat_cmp (a ++ blanks p) (b ++ blanks q) ≡ slice_cmp nat_cmp (a ++ blanks r) (b ++ blanks s)
alike [] [] p q r s e f =
    let d : p ≡ q = omega arith in let g : r ≡ s = omega arith in
    ap (λ p. slice_cmp nat_cmp (blanks p) (blanks q)) d ∙ same (blanks q) ∙ sym (ap (λ r. slice_cmp nat_cmp (blanks r) (blanks s)) g ∙ same (blanks s))
alike [] (d ∷ b) zero q r s e f = absurd (omega arith)
alike [] (d ∷ b) (suc p) q zero s e f = absurd (omega arith)
alike [] (d ∷ b) (suc p) q (suc r) s e f = ap (ordering_then (nat_cmp 32 d)) (alike [] b p q r s (omega arith) (omega arith))
alike (c ∷ a) [] p zero r s e f = absurd (omega arith)
alike (c ∷ a) [] p (suc q) r zero e f = absurd (omega arith)
alike (c ∷ a) [] p (suc q) r (suc s) e f = ap (ordering_then (nat_cmp c 32)) (alike a [] p q r s (omega arith) (omega arith))
alike (c ∷ a) (d ∷ b) p q r s e f = ap (ordering_then (nat_cmp c d)) (alike a b p q r s (omega arith) (omega arith))

more_blanks : (a : List ℕ) (m n : ℕ) → padded n (then_blanks a m) ≡ a ++ blanks (m + (n - (length a + m)))
more_blanks a m n =
    let l : length (then_blanks a m) ≡ length a + m = omega (arith, length-append a (blanks m), length-replicate {A = ℕ} m 32) in
    ap (λ l. then_blanks a m ++ blanks (n - l)) l ∙ append_assoc a (blanks m) (blanks (n - (length a + m))) ∙ ap (λ t. a ++ t) (replicate-append-replicate {A = ℕ} m (n - (length a + m)) 32)

pub dont_count : BlanksDontCount
dont_count a b m n =
    let k : length (then_blanks a m) ≡ length a + m = omega (arith, length-append a (blanks m), length-replicate {A = ℕ} m 32) in
    let l : length (then_blanks b n) ≡ length b + n = omega (arith, length-append b (blanks n), length-replicate {A = ℕ} n 32) in
    (λ i. slice_cmp nat_cmp (more_blanks a m (l i) i) (more_blanks b n (k i) i))
    ∙ alike a b _ _ (length b - length a) (length a - length b) (omega arith) (omega arith)

pub equal : EqualButForBlanks
equal a b = (
  λ e. (length b - length a, length a - length b, slice_cmp-IsAntisymmetric nat_cmp-IsAntisymmetric (padded (length b) a) (padded (length a) b) e),
  λ s. sym (dont_count a b s.0 s.1) ∙ ap (λ t. text_cmp t (then_blanks b s.1)) s.2 ∙ same (padded (length (then_blanks b s.1)) (then_blanks b s.1)),
)
