-- What comments that stand at the same position have in common, and nothing else.
use Rattle.std.proofs.Common.{◌≡◌, ℕ, zero, suc, ◌+◌, ◌-◌, ◌<◌, ◌≤◌, Bool, true, false, List, [], ◌∷◌, ◌++◌, length, get_or, map, refl, sym, ap, ◌∙◌, arith}
use Rattle.std.specs.Prelude.{nat_lt, if◌then◌else◌, flat_map}
use Rattle.std.proofs.lemmas.List.{length-map, get_or-append-add}
use Rattle.std.proofs.lemmas.Bool.{ltb-true, ltb-false}
use Rattle.program77.specs.Tree.{SourceUnit}
use Rattle.project_set.specs.Rewrite.{count_of, size_of}
use Rattle.project_set.specs.Positions.{Position, before_header, after_header, before_entry, at_end, entries_in, position_in, position_of}
use Rattle.definition_laws.specs.CommentPlaces.{code_marks, entries_among, entries_before, unit_headers, follows_header}
use Rattle.definition_laws.proofs.EntryCounts.{code_size, among_later, among_within, among_past, tells}

-- the position right after a header
abbrev is_after : Position → Bool
is_after (before_header unit) = false
is_after (after_header unit) = true
is_after (before_entry unit entry) = false
is_after at_end = false

no_header : (xs rest : List Bool) (i : ℕ) → i < length xs → get_or (map (λ b. false) xs ++ rest) i false ≡ false
no_header [] rest i lt = absurd (omega arith)
no_header (x ∷ xs) rest zero lt = refl
no_header (x ∷ xs) rest (suc i) lt = no_header xs rest i (omega arith)

module _ (u : SourceUnit) (us : List SourceUnit) where
  later : (i : ℕ) → i ≤ count_of u.code → follows_header (u ∷ us) (suc (suc i)) ≡ false
  later i le = no_header (code_marks u.code) (flat_map unit_headers us) i (omega (arith, le, code_size u.code))

  -- behind a unit it is as among the units that follow
  past : (k : ℕ) → size_of u ≤ k → follows_header (u ∷ us) k ≡ follows_header us (k - size_of u)
  past k le = go (k - size_of u) (omega (arith, le))
    where
      size : length (unit_headers u) ≡ size_of u
      size = omega (arith, length-map (code_marks u.code) (λ b. false), code_size u.code)

      go : (m : ℕ) → k ≡ size_of u + m → follows_header (u ∷ us) k ≡ follows_header us m
      go zero e = let n : k ≡ suc (suc (count_of u.code)) = omega (arith, e) in ap (follows_header (u ∷ us)) n ∙ later (count_of u.code) (omega arith)
      go (suc m) e =
          let n : k ≡ suc (length (unit_headers u) + m) = omega (arith, e, size) in
          ap (follows_header (u ∷ us)) n ∙ get_or-append-add (unit_headers u) (flat_map unit_headers us) m false

  follows_in : (b k : ℕ) → k < size_of u → follows_header (u ∷ us) k ≡ is_after (position_in b u k)
  follows_in b zero lt = refl
  follows_in b (suc zero) lt = refl
  follows_in b (suc (suc i)) lt = later i (omega arith)

  same_in : (b j k : ℕ) → j < size_of u → k < size_of u → entries_among (u ∷ us) j ≡ entries_among (u ∷ us) k → follows_header (u ∷ us) j ≡ follows_header (u ∷ us) k → position_in b u j ≡ position_in b u k
  same_in b zero zero lt_j lt_k e f = refl
  same_in b zero (suc zero) lt_j lt_k e f = absurd (omega (arith, e))
  same_in b zero (suc (suc i)) lt_j lt_k e f = absurd (omega (arith, e, among_later u us i (omega arith)))
  same_in b (suc zero) zero lt_j lt_k e f = absurd (omega (arith, e))
  same_in b (suc zero) (suc zero) lt_j lt_k e f = refl
  same_in b (suc zero) (suc (suc i)) lt_j lt_k e f = let wrong : true ≡ false = f ∙ later i (omega arith) in absurd cc
  same_in b (suc (suc h)) zero lt_j lt_k e f = absurd (omega (arith, e, among_later u us h (omega arith)))
  same_in b (suc (suc h)) (suc zero) lt_j lt_k e f = let wrong : false ≡ true = sym (later h (omega arith)) ∙ f in absurd cc
  same_in b (suc (suc h)) (suc (suc i)) lt_j lt_k e f =
      let entry : entries_in u.code (h + 1) ≡ entries_in u.code (i + 1) = omega (arith, e, among_later u us h (omega arith), among_later u us i (omega arith)) in
      ap (before_entry b) entry

follows : (us : List SourceUnit) (b k : ℕ) → follows_header us k ≡ is_after (position_of b us k)
follows [] b zero = refl
follows [] b (suc k) = refl
follows (u ∷ us) b k = go (nat_lt k (size_of u)) refl (follows us (b + 1) (k - size_of u))
  where
    go : (c : Bool) → nat_lt k (size_of u) ≡ c → follows_header us (k - size_of u) ≡ is_after (position_of (b + 1) us (k - size_of u))
        → follows_header (u ∷ us) k ≡ is_after (if c then position_in b u k else position_of (b + 1) us (k - size_of u))
    go true test rest = follows_in u us b k (ltb-true k (size_of u) test)
    go false test rest = past u us k (ltb-false k (size_of u) test) ∙ rest

same : (us : List SourceUnit) (b j k : ℕ) → entries_among us j ≡ entries_among us k → follows_header us j ≡ follows_header us k → position_of b us j ≡ position_of b us k
same [] b j k e f = refl
same (u ∷ us) b j k e f = go (nat_lt j (size_of u)) refl (nat_lt k (size_of u)) refl (same us (b + 1) (j - size_of u) (k - size_of u))
  where
    go : (c : Bool) → nat_lt j (size_of u) ≡ c → (d : Bool) → nat_lt k (size_of u) ≡ d
        → (entries_among us (j - size_of u) ≡ entries_among us (k - size_of u) → follows_header us (j - size_of u) ≡ follows_header us (k - size_of u)
        → position_of (b + 1) us (j - size_of u) ≡ position_of (b + 1) us (k - size_of u))
        → (if c then position_in b u j else position_of (b + 1) us (j - size_of u)) ≡ (if d then position_in b u k else position_of (b + 1) us (k - size_of u))
    go true test_j true test_k rest = same_in u us b j k (ltb-true j (size_of u) test_j) (ltb-true k (size_of u) test_k) e f
    go true test_j false test_k rest = absurd (omega (arith, e, among_within u us j (ltb-true j (size_of u) test_j), among_past u us k (ltb-false k (size_of u) test_k)))
    go false test_j true test_k rest = absurd (omega (arith, e, among_within u us k (ltb-true k (size_of u) test_k), among_past u us j (ltb-false j (size_of u) test_j)))
    go false test_j false test_k rest =
        let le_j = ltb-false j (size_of u) test_j in
        let le_k = ltb-false k (size_of u) test_k in
        rest (omega (arith, e, among_past u us j le_j, among_past u us k le_k)) (sym (past u us j le_j) ∙ f ∙ past u us k le_k)

pub told : (us : List SourceUnit) (j k : ℕ) → position_of 0 us j ≡ position_of 0 us k → (entries_among us j ≡ entries_among us k) × (follows_header us j ≡ follows_header us k)
told us j k e = (sym (tells us j) ∙ ap (entries_before us) e ∙ tells us k, follows us 0 j ∙ ap is_after e ∙ sym (follows us 0 k))

pub tell : (us : List SourceUnit) (j k : ℕ) → (entries_among us j ≡ entries_among us k) × (follows_header us j ≡ follows_header us k) → position_of 0 us j ≡ position_of 0 us k
tell us j k e = same us 0 j k e.0 e.1
