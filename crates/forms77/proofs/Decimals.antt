-- Labels are small.
use Rattle.std.proofs.Common.{true, ◌≡◌, ℕ, ◌+◌, ◌*◌, ◌-◌, ◌≤◌, List, [], ◌∷◌, length, Some, None, sym, ap, ◌∙◌, arith}
use Rattle.std.specs.Prelude.{if◌then◌else◌, nat_le}
use Rattle.std.proofs.lemmas.Bool.{and_parts}
use Rattle.std.specs.List.{list_all}
use Rattle.std.proofs.lemmas.Bool.Decides.{nat_tests}
use Rattle.text_base.specs.Chars.{is_digit}
use Rattle.tree77.specs.Lexemes.{decimal_from, decimal, is_small, is_label}

digit_bound : (c : ℕ) → is_digit c ≡ true → c - 48 ≤ 9
digit_bound c is = grind (arith, nat_tests)

-- one digit more
grown : (n m c : ℕ) → is_digit c ≡ true → n ≤ m → 10 * n + (c - 48) ≤ 10 * m + 9
grown n m c is few = let b = digit_bound c is in omega (arith, b, few)

-- up to five digits
pub five_digits : (n : ℕ) (w : List ℕ) → n ≤ 0 → list_all is_digit w ≡ true → length w ≤ 5 → decimal_from n w ≤ 99999
five_digits n [] zero all few = omega (arith, zero)
five_digits n (a ∷ []) zero all few = let p = and_parts (is_digit a) _ all in let x = grown n 0 a p.0 zero in omega (arith, x)
five_digits n (a ∷ b ∷ []) zero all few =
    let p = and_parts (is_digit a) (list_all is_digit (b ∷ [])) all in let q = and_parts (is_digit b) (list_all is_digit []) p.1 in
    let x = grown n 0 a p.0 zero in let y = grown _ 9 b q.0 x in omega (arith, y)
five_digits n (a ∷ b ∷ c ∷ []) zero all few =
    let p = and_parts (is_digit a) (list_all is_digit (b ∷ c ∷ [])) all in let q = and_parts (is_digit b) (list_all is_digit (c ∷ [])) p.1 in let r = and_parts (is_digit c) (list_all is_digit []) q.1 in
    let x = grown n 0 a p.0 zero in let y = grown _ 9 b q.0 x in let z = grown _ 99 c r.0 y in omega (arith, z)
five_digits n (a ∷ b ∷ c ∷ d ∷ []) zero all few =
    let p = and_parts (is_digit a) (list_all is_digit (b ∷ c ∷ d ∷ [])) all in let q = and_parts (is_digit b) (list_all is_digit (c ∷ d ∷ [])) p.1 in let r = and_parts (is_digit c) (list_all is_digit (d ∷ [])) q.1 in
    let s = and_parts (is_digit d) (list_all is_digit []) r.1 in
    let x = grown n 0 a p.0 zero in let y = grown _ 9 b q.0 x in let z = grown _ 99 c r.0 y in let v = grown _ 999 d s.0 z in omega (arith, v)
five_digits n (a ∷ b ∷ c ∷ d ∷ e ∷ []) zero all few =
    let p = and_parts (is_digit a) (list_all is_digit (b ∷ c ∷ d ∷ e ∷ [])) all in let q = and_parts (is_digit b) (list_all is_digit (c ∷ d ∷ e ∷ [])) p.1 in let r = and_parts (is_digit c) (list_all is_digit (d ∷ e ∷ [])) q.1 in
    let s = and_parts (is_digit d) (list_all is_digit (e ∷ [])) r.1 in let t = and_parts (is_digit e) (list_all is_digit []) s.1 in
    let x = grown n 0 a p.0 zero in let y = grown _ 9 b q.0 x in let z = grown _ 99 c r.0 y in let v = grown _ 999 d s.0 z in let w = grown _ 9999 e t.0 v in omega (arith, w)
five_digits n (a ∷ b ∷ c ∷ d ∷ e ∷ f ∷ w) zero all few = let none : ⊥ = omega (arith, few) in absurd none

pub label_is_small : (w : List ℕ) → is_label w ≡ true → is_small w ≡ true
label_is_small w is =
    let p = and_parts (list_all is_digit w) _ is in
    let q = and_parts (nat_le (length w) 5) _ p.1 in
    let bound = five_digits 0 w (omega arith) p.0 (le_from q.0) in
    le_test bound
  where
    le_from : nat_le (length w) 5 ≡ true → length w ≤ 5
    le_from e = grind (arith, nat_tests)

    le_test : decimal_from 0 w ≤ 99999 → is_small w ≡ true
    le_test e = grind (arith, nat_tests)

-- a label's number is always found
pub label_found : {P : Type 0} {A : Type 0} (w : List ℕ) (x : A) → is_label w ≡ true → (if is_small w then Some x else None) ≡ None → P
label_found w x is e =
    let found : Some x ≡ None = sym (ap (λ b. if b then Some x else None) (label_is_small w is)) ∙ e in
    absurd cc
