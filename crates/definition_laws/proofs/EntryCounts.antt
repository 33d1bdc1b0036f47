-- The position of a comment tells how many statements that aren't CONTINUE stand before it.
use Rattle.std.proofs.Common.{◌≡◌, ◌≢◌, ℕ, zero, suc, ◌+◌, ◌-◌, ◌<◌, ◌≤◌, Bool, true, false, cond, List, [], ◌∷◌, ◌++◌, length, take, refl, sym, ap, ◌∙◌, arith}
use Rattle.std.specs.Prelude.{nat_lt, if◌then◌else◌, flat_map}
use Rattle.std.proofs.lemmas.List.{append-nil, append_assoc, take_at, take-take, length_push}
use Rattle.std.proofs.lemmas.List.Sums.{sum_by-cons, sum_by-append, sum_by-take-le}
use Rattle.std.proofs.lemmas.Grind.{flat_map-append}
use Rattle.std.proofs.lemmas.Bool.{ltb-true, ltb-false}
use Rattle.program77.specs.Tree as source
use Rattle.program77.specs.Tree.{SourceUnit}
use Rattle.project_set.specs.Rewrite.{count_of, size_of}
use Rattle.project_set.specs.Positions.{entries_in, position_in, position_of}
use Rattle.definition_laws.specs.CommentPlaces.{code_marks, unit_marks, how_many, entries_among, entries_before}

abbrev pub one : Bool → ℕ
one b = cond b 1 0

-- the marks of some units
abbrev marks_of : List SourceUnit → List Bool
marks_of us = flat_map unit_marks us

take_past : (xs ys : List Bool) (k : ℕ) → length xs ≤ k → take k (xs ++ ys) ≡ xs ++ take (k - length xs) ys
take_past [] ys k le = let n : k ≡ k - 0 = omega arith in ap (λ j. take j ys) n
take_past (x ∷ xs) ys zero le = absurd (omega arith)
take_past (x ∷ xs) ys (suc k) le = let n : k - length xs ≡ suc k - suc (length xs) = omega arith in ap (λ zs. x ∷ zs) (take_past xs ys k (omega arith) ∙ ap (λ j. xs ++ take j ys) n)

-- ---- a list of statements

pub code_size : (c : source.Code) → length (code_marks c) ≡ count_of c + 1
code_size source.done = refl
code_size (source.item label here (source.simple a) rest) = omega (arith, code_size rest)
code_size (source.item label here source.continue rest) = omega (arith, code_size rest)

in_list : (c : source.Code) (j : ℕ) (rest : List Bool) → j ≤ count_of c → how_many (take j (code_marks c ++ rest)) ≡ entries_in c j
in_list source.done zero rest le = refl
in_list source.done (suc j) rest le = absurd (omega arith)
in_list (source.item label here s more) zero rest le = refl
in_list (source.item label here (source.simple a) more) (suc j) rest le = omega (arith, sum_by-cons one true (take j (code_marks more ++ rest)), in_list more j rest (omega arith))
in_list (source.item label here source.continue more) (suc j) rest le = omega (arith, sum_by-cons one false (take j (code_marks more ++ rest)), in_list more j rest (omega arith))

-- END comes after all of them
below_end : (c : source.Code) (i : ℕ) → i ≤ count_of c → entries_in c i + 1 ≤ how_many (code_marks c)
below_end source.done i le = omega arith
below_end (source.item label here (source.simple a) rest) zero le = omega (arith, sum_by-cons one true (code_marks rest))
below_end (source.item label here (source.simple a) rest) (suc i) le = omega (arith, sum_by-cons one true (code_marks rest), below_end rest i (omega arith))
below_end (source.item label here source.continue rest) zero le = omega (arith, sum_by-cons one false (code_marks rest), below_end rest 0 (omega arith))
below_end (source.item label here source.continue rest) (suc i) le = omega (arith, sum_by-cons one false (code_marks rest), below_end rest i (omega arith))

-- ---- units

-- the entries among the statements of a unit, and among those of further units
pub among_later : (u : SourceUnit) (us : List SourceUnit) (i : ℕ) → i < count_of u.code → entries_among (u ∷ us) (suc (suc i)) ≡ 1 + entries_in u.code (i + 1)
among_later u us i lt =
    let n : i + 1 ≡ suc i = omega arith in
    omega (arith, ap (entries_in u.code) n, in_list u.code (suc i) (marks_of us) (omega arith), sum_by-cons one true (take (suc i) (code_marks u.code ++ marks_of us)))

pub among_within : (u : SourceUnit) (us : List SourceUnit) (k : ℕ) → k < size_of u → entries_among (u ∷ us) k < how_many (unit_marks u)
among_within u us zero lt = omega (arith, sum_by-cons one true (code_marks u.code))
among_within u us (suc zero) lt = omega (arith, sum_by-cons one true (code_marks u.code), below_end u.code 0 (omega arith))
among_within u us (suc (suc i)) lt = omega (arith, sum_by-cons one true (code_marks u.code), among_later u us i (omega arith), below_end u.code (i + 1) (omega arith))

pub among_past : (u : SourceUnit) (us : List SourceUnit) (k : ℕ) → size_of u ≤ k → entries_among (u ∷ us) k ≡ how_many (unit_marks u) + entries_among us (k - size_of u)
among_past u us k le =
    let size : length (unit_marks u) ≡ size_of u = omega (arith, code_size u.code) in
    ap how_many (take_past (unit_marks u) (marks_of us) k (omega (arith, size, le)) ∙ ap (λ n. unit_marks u ++ take (k - n) (marks_of us)) size) ∙ sum_by-append one (unit_marks u) (take (k - size_of u) (marks_of us))

module _ (pre : List SourceUnit) (u : SourceUnit) (us : List SourceUnit) (b : ℕ) (number : length pre ≡ b) where
  before_unit : how_many (marks_of (take b (pre ++ u ∷ us))) ≡ how_many (marks_of pre)
  before_unit = ap (λ (vs : List SourceUnit). how_many (marks_of vs)) (take_at pre (u ∷ us) b number)

  in_unit : (k : ℕ) → k < size_of u → entries_before (pre ++ u ∷ us) (position_in b u k) ≡ how_many (marks_of pre) + how_many (take k (marks_of (u ∷ us)))
  in_unit zero lt = omega (arith, before_unit)
  in_unit (suc zero) lt = omega (arith, before_unit)
  in_unit (suc (suc i)) lt = omega (arith, before_unit, among_later u us i (omega arith))

  past_unit : (k : ℕ) → size_of u ≤ k
      → entries_before ((pre ++ u ∷ []) ++ us) (position_of (b + 1) us (k - size_of u)) ≡ how_many (marks_of (pre ++ u ∷ [])) + how_many (take (k - size_of u) (marks_of us))
      → entries_before (pre ++ u ∷ us) (position_of (b + 1) us (k - size_of u)) ≡ how_many (marks_of pre) + how_many (take k (marks_of (u ∷ us)))
  past_unit k le rest =
      let one_more : how_many (marks_of (pre ++ u ∷ [])) ≡ how_many (marks_of pre) + how_many (unit_marks u) =
      ap how_many (flat_map-append unit_marks pre (u ∷ []) ∙ ap (λ xs. marks_of pre ++ xs) (append-nil (unit_marks u))) ∙ sum_by-append one (marks_of pre) (unit_marks u) in
      ap (λ vs. entries_before vs (position_of (b + 1) us (k - size_of u))) (sym (append_assoc pre (u ∷ []) us)) ∙ omega (arith, rest, one_more, among_past u us k le)

tells_from : (pre us : List SourceUnit) (b k : ℕ) → length pre ≡ b → entries_before (pre ++ us) (position_of b us k) ≡ how_many (marks_of pre) + how_many (take k (marks_of us))
tells_from pre [] b k number = ap (λ (vs : List SourceUnit). how_many (marks_of vs)) (append-nil pre) ∙ none k
  where
    none : (k : ℕ) → how_many (marks_of pre) ≡ how_many (marks_of pre) + how_many (take k [])
    none zero = omega arith
    none (suc k) = omega arith
tells_from pre (u ∷ us) b k number = go (nat_lt k (size_of u)) refl (tells_from (pre ++ u ∷ []) us (b + 1) (k - size_of u) (omega (arith, length_push pre u, number)))
  where
    go : (c : Bool) → nat_lt k (size_of u) ≡ c
        → entries_before ((pre ++ u ∷ []) ++ us) (position_of (b + 1) us (k - size_of u)) ≡ how_many (marks_of (pre ++ u ∷ [])) + how_many (take (k - size_of u) (marks_of us))
        → entries_before (pre ++ u ∷ us) (if c then position_in b u k else position_of (b + 1) us (k - size_of u)) ≡ how_many (marks_of pre) + how_many (take k (marks_of (u ∷ us)))
    go true test rest = in_unit pre u us b number k (ltb-true k (size_of u) test)
    go false test rest = past_unit pre u us b number k (ltb-false k (size_of u) test) rest

pub tells : (us : List SourceUnit) (k : ℕ) → entries_before us (position_of 0 us k) ≡ entries_among us k
tells us k = tells_from [] us 0 k refl ∙ omega arith

pub apart : (us : List SourceUnit) (j k : ℕ) → entries_among us j ≢ entries_among us k → position_of 0 us j ≢ position_of 0 us k
apart us j k differ same = differ (sym (tells us j) ∙ ap (entries_before us) same ∙ tells us k)

pub ascend : (us : List SourceUnit) (j k : ℕ) → j ≤ k → entries_before us (position_of 0 us j) ≤ entries_before us (position_of 0 us k)
ascend us j k le =
    let fewer : how_many (take j (take k (marks_of us))) ≤ how_many (take k (marks_of us)) = sum_by-take-le one (take k (marks_of us)) j in
    omega (arith, tells us j, tells us k, fewer, ap how_many (take-take j k (marks_of us) le))
