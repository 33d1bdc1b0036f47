-- Lines as they are cut off, and the field of a statement.
use Rattle.std.proofs.Common.{◌≡◌, ℕ, suc, ◌+◌, ◌-◌, ◌<◌, ◌≤◌, ◌==◌, Bool, true, false, not, cond, unwrap_or, Some, None, List, [], ◌∷◌, ◌++◌, length, take, drop, replicate, refl, ap, arith, nat_lt}
use Rattle.std.proofs.lemmas.List.{drop-replicate}
use Rattle.std.proofs.lemmas.List.Elements.{All-take, All-drop}
use Rattle.std.proofs.lemmas.List.Sums.{prefix_len-le-length, AllPass-from_list_all, list_all-from_AllPass}
use Rattle.std.proofs.lemmas.Bool.Decides.{nat_tests}
use Rattle.std.specs.List.{list_all, position, position_or_len}
use Rattle.text_base.specs.Lines.{cut, with_first}

-- a byte that ends a line
abbrev pub is_feed : ℕ → Bool
is_feed c = c == 10

-- the first place that passes lies within the list or at its end
within : (l : List ℕ) → position_or_len is_feed l ≤ length l
within l = prefix_len-le-length (λ c. not (is_feed c)) l

-- the length, where no place passes
at_end : (m n : ℕ) → m ≤ n → nat_lt m n ≡ false → n ≡ m
at_end m n le e = grind (arith, nat_tests)

-- the first place that passes, or the length, from the place as an option
pub place_or_length : (l : List ℕ) → unwrap_or (position is_feed l) (length l) ≡ position_or_len is_feed l
place_or_length l = go (nat_lt (position_or_len is_feed l) (length l)) refl
  where
    go : (b : Bool) → nat_lt (position_or_len is_feed l) (length l) ≡ b → unwrap_or (cond b (Some (position_or_len is_feed l)) None) (length l) ≡ position_or_len is_feed l
    go true e = refl
    go false e = at_end (position_or_len is_feed l) (length l) (within l) e

-- the first line where one byte is all
cut_one : (c : ℕ) (b : Bool) → cond b ([] ∷ []) ((c ∷ []) ∷ []) ≡ take (cond (not b) 1 0) (c ∷ []) ∷ cut (drop 1 (drop (cond (not b) 1 0) (c ∷ [])))
cut_one c true = refl
cut_one c false = refl

-- the first line from the first line of what follows the first byte
cut_more : (c : ℕ) (t : List ℕ) (m : ℕ) → cut t ≡ take m t ∷ cut (drop 1 (drop m t)) → (b : Bool) → cond b ([] ∷ cut t) (with_first c (cut t)) ≡ take (cond (not b) (1 + m) 0) (c ∷ t) ∷ cut (drop 1 (drop (cond (not b) (1 + m) 0) (c ∷ t)))
cut_more c t m e true = refl
cut_more c t m e false = let next : 1 + m ≡ suc m = omega arith in rw next (ap (with_first c) e)

-- the first line of the bytes, and the lines behind its end
pub cut_first : (l : List ℕ) → 0 < length l → cut l ≡ take (position_or_len is_feed l) l ∷ cut (drop 1 (drop (position_or_len is_feed l) l))
cut_first [] some = absurd (omega arith)
cut_first (c ∷ []) some = cut_one c (c == 10)
cut_first (c ∷ (d ∷ t)) some = cut_more c (d ∷ t) (position_or_len is_feed (d ∷ t)) (cut_first (d ∷ t) (omega arith)) (c == 10)

-- no byte of a text ends a line
abbrev pub IsFeedless : List ℕ → Type 0
IsFeedless l = list_all (λ c. not (c == 10)) l ≡ true

-- what stands before the first end of a line has none
pub before_feed : (l : List ℕ) → IsFeedless (take (position_or_len is_feed l) l)
before_feed [] = refl
before_feed (c ∷ t) = go (c == 10) refl (before_feed t)
  where
    go : (b : Bool) → (c == 10) ≡ b → IsFeedless (take (position_or_len is_feed t) t) → IsFeedless (take (cond (not b) (1 + position_or_len is_feed t) 0) (c ∷ t))
    go true e rest = refl
    go false e rest = let next : 1 + position_or_len is_feed t ≡ suc (position_or_len is_feed t) = omega arith in rw (next, e) rest

-- a first part of such a text is one
pub feedless_take : (n : ℕ) (l : List ℕ) → IsFeedless l → IsFeedless (take n l)
feedless_take n l e =
    let p : ℕ → Bool = λ c. not (c == 10) in
    list_all-from_AllPass p (take n l) (All-take (λ c. p c ≡ true) n l (AllPass-from_list_all p l e))

-- what follows some bytes of such a text is one
pub feedless_drop : (n : ℕ) (l : List ℕ) → IsFeedless l → IsFeedless (drop n l)
feedless_drop n l e =
    let p : ℕ → Bool = λ c. not (c == 10) in
    list_all-from_AllPass p (drop n l) (All-drop (λ c. p c ≡ true) n l (AllPass-from_list_all p l e))

-- blanks behind which a text was put
pub padded : (text : List ℕ) (n : ℕ) → text ++ drop (length text) (replicate n 32) ≡ text ++ replicate (n - length text) 32
padded text n = ap (λ more. text ++ more) (drop-replicate (length text) n 32)
