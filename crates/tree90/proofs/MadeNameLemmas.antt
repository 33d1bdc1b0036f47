-- What a fresh name is: a name, and one of the first that are tried.
use Rattle.std.proofs.Common.{◌≡◌, ℕ, zero, suc, ◌+◌, ◌-◌, ◌^◌, ◌<◌, ◌≤◌, Bool, true, false, ◌||◌, slice_index, if◌then◌else◌, eqb, eq-eqb, IsTrue, List, [], ◌∷◌, ◌++◌, length, take, drop, map, codes, decimal, inl, inr, refl, sym, ap, ◌∙◌, arith, rules}
use Rattle.std.specs.List.{list_any, list_all}
use Rattle.std.specs.Str.{bytes_eq}
use Rattle.std.specs.Str.Parse.{digits_value}
use Rattle.std.proofs.lemmas.Bool.{or_left, or_right, or_cases, and_parts, and_from, le-leb, cases_lt}
use Rattle.std.proofs.lemmas.Fmt.{length-decimal-le, decimal_is_IsNumeral, digits_decimal}
use Rattle.std.proofs.lemmas.Str.Parse.{numerals_by_value}
use Rattle.std.proofs.lemmas.List.{map-append, length-map, length-append, length-take, take-append-drop}
use Rattle.std.proofs.Math.Seq.{drop-append_seam}
use borrow.Author.Count.{below_more}
use Rattle.std.proofs.lemmas.Map.Steps.{le-length_from_below}
use Rattle.std.proofs.lemmas.Slice.Eq.{bytes_eq-Decides}
use Rattle.std.proofs.lemmas.List.Folds.{list_all-append}
use Rattle.text_base.specs.Chars.{is_name, is_digit, is_name_byte, is_upper}
use Rattle.text_base.specs.declared.limits.TheConstants.{LONGEST_NAME}
use Rattle.text_base.proofs.CharTests.{digits_are_name_bytes, all_append}
use Rattle.arrayvec.specs.ArrayVec.{ArrayVec}
use Rattle.tree90.specs.MadeNames.{is_taken, tried, numbered, is_base, IsFresh}
use Rattle.tree90.specs.declared.names.TheConstants.{LONGEST_STEM, MOST_NAMES}

-- a number of names has at most nine digits
pub decimal_is_short : (n : ℕ) → n ≤ MOST_NAMES → length (decimal n) ≤ 9
decimal_is_short n small = length-decimal-le 9 n (omega arith) (omega arith) (omega arith)

-- the characters that are held
abbrev pub items : ArrayVec ℕ → List ℕ
items v = v.items

-- a name is taken where its characters are held
pub is_taken_held : (name : List ℕ) (vs : List (ArrayVec ℕ)) → list_any (λ (v : ArrayVec ℕ). bytes_eq name v.items) vs ≡ is_taken (map items vs) name
is_taken_held name [] = refl
is_taken_held name (v ∷ vs) = ap (λ b. bytes_eq name v.items || b) (is_taken_held name vs)

-- characters that aren't held go last
pub with_held : (v : ArrayVec ℕ) (vs ws : List (ArrayVec ℕ)) (taken : List (List ℕ)) → map items vs ≡ taken → is_taken taken v.items ≡ false
    → ws ≡ (if list_any (λ (w : ArrayVec ℕ). bytes_eq v.items w.items) vs then vs else vs ++ v ∷ []) → map items ws ≡ taken ++ v.items ∷ []
with_held v vs ws taken held free added =
    let free_here : list_any (λ (w : ArrayVec ℕ). bytes_eq v.items w.items) vs ≡ false =
    is_taken_held v.items vs ∙ ap (λ names. is_taken names v.items) held ∙ free in
    ap (map items) (added ∙ ap (λ b. if b then vs else vs ++ v ∷ []) free_here)
    ∙ map-append items vs (v ∷ []) ∙ ap (λ names. names ++ v.items ∷ []) held

-- ---- numbers that are taken

list_any_map : (h : List ℕ → ℕ) (p : List ℕ → Bool) (q : ℕ → Bool) (xs : List (List ℕ)) → ((x : List ℕ) → p x ≡ true → q (h x) ≡ true)
    → list_any p xs ≡ true → list_any q (map h xs) ≡ true
list_any_map h p q [] leads found = found
list_any_map h p q (x ∷ xs) leads found =
    elim (or_cases (p x) (list_any p xs) found)
    [ inl here ↦ or_left (q (h x)) _ (leads x here) | inr later ↦ or_right (q (h x)) _ (list_any_map h p q xs leads later) ]

-- as many numbers from 1 on are taken as there are names at most
pub numbers_taken : (taken : List (List ℕ)) (base : List ℕ) (m : ℕ) → m ≤ MOST_NAMES
    → ((n : ℕ) → n < m + 1 → IsTrue (is_taken taken (tried base n))) → m ≤ length taken
numbers_taken taken base m small all_taken =
    rw (← length-map taken before) (le-length_from_below (map before taken) m there)
  where
    stem : List ℕ
    stem = take LONGEST_STEM base ++ codes "_"

    before : List ℕ → ℕ
    before name = digits_value 10 (drop (length stem) name) - 1

    there : (n : ℕ) → n < m → list_any (eqb n) (map before taken) ≡ true
    there n below =
        list_any_map before (bytes_eq (numbered base (suc n))) (eqb n) taken ends (all_taken (suc n) (omega arith))
      where
        ends : (name : List ℕ) → bytes_eq (numbered base (suc n)) name ≡ true → eqb n (before name) ≡ true
        ends name same =
            let is : numbered base (suc n) ≡ name = (bytes_eq-Decides (numbered base (suc n)) name).0 same in
            let digits = ap (digits_value 10) (drop-append_seam stem (decimal (suc n))) ∙ (decimal_is_IsNumeral (suc n) (omega arith)).1 in
            eq-eqb n (before name) (omega (arith, digits, ap before is))

-- a number whose name is taken is no greater than there are names
pub so_far : (taken : List (List ℕ)) (base name : List ℕ) (m : ℕ) (found : Bool)
    → (name ≡ tried base m) × (m ≤ length taken + 1) × ((n : ℕ) → n < m → IsTrue (is_taken taken (tried base n)))
    → length taken < MOST_NAMES → found ≡ is_taken taken name → found ≡ true
    → (m ≤ length taken) × ((n : ℕ) → n < m + 1 → IsTrue (is_taken taken (tried base n)))
so_far taken base name m found before room test here =
    let here_too : is_taken taken (tried base m) ≡ true = ap (is_taken taken) (sym before.0) ∙ sym test ∙ here in
    let below = below_more (λ n. IsTrue (is_taken taken (tried base n))) m before.2 here_too in
    (numbers_taken taken base m (omega arith) below, below)

-- ---- what is tried is a name

-- a text's first characters keep what holds of each
take_all_pass : (p : ℕ → Bool) (n : ℕ) (text : List ℕ) → list_all p text ≡ true → list_all p (take n text) ≡ true
take_all_pass p n text all =
    let both = sym (list_all-append p (take n text) (drop n text)) ∙ ap (list_all p) (take-append-drop n text) ∙ all in
    (and_parts (list_all p (take n text)) (list_all p (drop n text)) both).0

all_digits : (n : ℕ) → n < 2 ^ 64 → list_all is_digit (decimal n) ≡ true
all_digits n small = digits_decimal (numerals_by_value (λ (ds : List ℕ). list_all is_digit ds ≡ true) (search rules)) n small

is_name_from : (text : List ℕ) → is_upper (slice_index text 0) ≡ true → list_all is_name_byte text ≡ true → length text ≤ LONGEST_NAME → is_name text ≡ true
is_name_from text first all short =
    and_from (is_upper (slice_index text 0)) _ first (and_from (list_all is_name_byte text) _ all (le-leb (length text) LONGEST_NAME short))

tried_is_name : (base : List ℕ) (m : ℕ) → IsTrue (is_base base) → m ≤ MOST_NAMES → IsTrue (is_name (tried base m))
tried_is_name [] m good small = absurd cc
tried_is_name (c ∷ rest) zero good small =
    let parts = and_parts (is_upper c) (list_all is_name_byte (c ∷ rest)) good in
    is_name_from (take LONGEST_NAME (c ∷ rest)) parts.0 (take_all_pass is_name_byte LONGEST_NAME (c ∷ rest) parts.1) (omega (arith, length-take LONGEST_NAME (c ∷ rest)))
tried_is_name (c ∷ rest) (suc n) good small =
    let parts = and_parts (is_upper c) (list_all is_name_byte (c ∷ rest)) good in
    let digits = digits_are_name_bytes (decimal (suc n)) (all_digits (suc n) (omega arith)) in
    let stem = take LONGEST_STEM (c ∷ rest) in
    is_name_from (numbered (c ∷ rest) (suc n)) parts.0
    (all_append is_name_byte (stem ++ codes "_") (decimal (suc n)) (all_append is_name_byte stem (codes "_") (take_all_pass is_name_byte LONGEST_STEM (c ∷ rest) parts.1) refl) digits)
    (simp length-append (omega (arith, length-take LONGEST_STEM (c ∷ rest), decimal_is_short (suc n) small)))

-- a fresh name is a name, while there is room
pub fresh_is_name : (taken : List (List ℕ)) (base name : List ℕ) → IsFresh taken base name → IsTrue (is_base base) → length taken < MOST_NAMES
    → IsTrue (is_name name)
fresh_is_name taken base name fresh good room =
    elim (cases_lt MOST_NAMES fresh.number) [
      | inl above ↦ absurd (omega (arith, numbers_taken taken base MOST_NAMES (omega arith) (λ n below. fresh.first n (omega arith))))
      | inr small ↦ ap is_name fresh.is ∙ tried_is_name base fresh.number good small
    ]

-- from a number on, where all before it are taken, the first that isn't taken is fresh
fresh_from : (taken : List (List ℕ)) (base : List ℕ) (m left : ℕ) → length taken < MOST_NAMES → m + left ≡ length taken + 2
    → ((n : ℕ) → n < m → IsTrue (is_taken taken (tried base n))) → (name : List ℕ) × IsFresh taken base name
fresh_from taken base m zero room sum before =
    absurd (omega (arith, numbers_taken taken base (length taken + 1) (omega arith) (λ n below. before n (omega arith))))
fresh_from taken base m (suc left) room sum before =
    elim (is_taken taken (tried base m)) as (λ b. is_taken taken (tried base m) ≡ b → (name : List ℕ) × IsFresh taken base name) [
      | true ↦ λ here. fresh_from taken base (m + 1) left room (omega arith) (below_more (λ n. IsTrue (is_taken taken (tried base n))) m before here)
      | false ↦ λ here. (tried base m, record { number = m; is = refl; free = here; first = before })
    ]
    refl

-- while there is room, each base has a fresh name
pub fresh_is_there : (taken : List (List ℕ)) (base : List ℕ) → IsTrue (is_base base) → length taken < MOST_NAMES
    → (name : List ℕ) × IsFresh taken base name × IsTrue (is_name name)
fresh_is_there taken base good room =
    let found = fresh_from taken base 0 (length taken + 2) room (omega arith) (λ n none. absurd (omega arith)) in
    (found.0, found.1, fresh_is_name taken base found.0 found.1 good room)
