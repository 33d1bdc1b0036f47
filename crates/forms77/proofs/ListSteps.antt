-- The reading of a list, turn by turn.
use Rattle.std.proofs.Common.{◌≡◌, ℕ, zero, suc, ◌+◌, ◌-◌, ◌<◌, true, false, List, [], ◌∷◌, ◌++◌, Option, Some, None, refl, sym, ap, ◌∙◌, append-nil, append_assoc, arith}
use Rattle.std.specs.Prelude.{if◌then◌else◌}
use Rattle.std.specs.Option.{option_map}
use Rattle.tree77.specs.Forms.{is_in}
use Rattle.forms77.specs.Reading.{State, Reader, sort_at, with_first, read_mark, read_repeated}
use Rattle.forms77.specs.Words.{read_behind}

-- what was read, in front of what is read behind it
abbrev pub in_front : {A : Type 0} → List A → Option (List A × State) → Option (List A × State)
in_front xs found = option_map (λ p. (xs ++ p.0, p.1)) found

pub in_front_none : {A : Type 0} (found : Option (List A × State)) → in_front [] found ≡ found
in_front_none None = refl
in_front_none (Some p) = refl

pub repeated_ends : {A : Type 0} (ks : List ℕ) (r : Reader A) (n : ℕ) (xs : List A) (s : State) → is_in ks (sort_at s) ≡ false → in_front xs (read_repeated ks r n s) ≡ Some (xs, s)
repeated_ends ks r zero xs s off = ap (λ ys. Some (ys, s)) (append-nil xs)
repeated_ends ks r (suc n) xs s off = ap (λ b. in_front xs (if b then with_first (r s) (read_repeated ks r n) else Some ([], s))) off ∙ ap (λ ys. Some (ys, s)) (append-nil xs)

pub repeated_stops : {A : Type 0} (ks : List ℕ) (r : Reader A) (n k : ℕ) (xs : List A) (s : State) → n - k ≡ 0 → in_front xs (read_repeated ks r (n - k) s) ≡ Some (xs, s)
repeated_stops ks r n k xs s none = ap (λ m. in_front xs (read_repeated ks r m s)) none ∙ ap (λ ys. Some (ys, s)) (append-nil xs)

moved : {A : Type 0} (xs : List A) (x : A) (found : Option (List A × State)) → in_front xs (option_map (λ p. (x ∷ p.0, p.1)) found) ≡ in_front (xs ++ x ∷ []) found
moved xs x None = refl
moved xs x (Some p) = ap (λ ys. Some (ys, p.1)) (sym (append_assoc xs (x ∷ []) p.0))

pub repeated_goes_on : {A : Type 0} (ks : List ℕ) (r : Reader A) (n k : ℕ) (xs : List A) (s t : State) (x : A) → k < n → is_in ks (sort_at s) ≡ true → r s ≡ Some (x, t)
    → in_front xs (read_repeated ks r (n - k) s) ≡ in_front (xs ++ x ∷ []) (read_repeated ks r (n - (k + 1)) t)
repeated_goes_on ks r n k xs s t x lt on is =
    let turn : n - k ≡ suc (n - (k + 1)) = omega (arith, lt) in
    ap (λ m. in_front xs (read_repeated ks r m s)) turn
    ∙ ap (λ b. in_front xs (if b then with_first (r s) (read_repeated ks r (n - (k + 1))) else Some ([], s))) on
    ∙ ap (λ o. in_front xs (with_first o (read_repeated ks r (n - (k + 1))))) is
    ∙ moved xs x (read_repeated ks r (n - (k + 1)) t)

pub repeated_fails : {A : Type 0} (ks : List ℕ) (r : Reader A) (n k : ℕ) (xs : List A) (s : State) → k < n → is_in ks (sort_at s) ≡ true → r s ≡ None → in_front xs (read_repeated ks r (n - k) s) ≡ None
repeated_fails ks r n k xs s lt on is =
    let turn : n - k ≡ suc (n - (k + 1)) = omega (arith, lt) in
    ap (λ m. in_front xs (read_repeated ks r m s)) turn
    ∙ ap (λ b. in_front xs (if b then with_first (r s) (read_repeated ks r (n - (k + 1))) else Some ([], s))) on
    ∙ ap (λ o. in_front xs (with_first o (read_repeated ks r (n - (k + 1))))) is

-- a mark, and what is read behind it
pub behind_reads : {A : Type 0} (c : ℕ) (r : Reader A) (s t u : State) (x : A) → read_mark c s ≡ Some (tt, t) → r t ≡ Some (x, u) → read_behind c r s ≡ Some (x, u)
behind_reads c r s t u x first second = rw (first, second) refl
