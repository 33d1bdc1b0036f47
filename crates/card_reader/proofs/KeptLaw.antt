-- The marks of a statement are those of its pieces, and no others.
use Rattle.std.proofs.Common.{◌≡◌, ◌≢◌, ◌⊎◌, ℕ, zero, suc, ◌-◌, ◌<◌, ◌≤◌, min, Bool, true, false, ◌==◌, List, [], ◌∷◌, ◌++◌, length, take, drop, slice_index, None, refl, sym, ap, ◌∙◌, subst, inl, inr, append-nil, length-append, length-take, take-append-drop, arith}
use Rattle.std.specs.Str.Parse.{digits_value}
use Rattle.std.proofs.lemmas.Bool.{eqb-true, eqb-false, cases_lt}
use Rattle.text_base.specs.Kept.{is_format, is_h, last_digits, count_before, IsPlain, IsInside, inside_nothing, inside_other, inside_doubled, nothing_kept, all_kept, IsMarked, marked_plain, marked_constant, marked_open, marked_count, count_or_none, marks_from, kept}
use Rattle.card_reader.proofs.LastDigits.{most, count_of}
use Rattle.card_reader.proofs.ScanSteps.{plain_state, constant_state, keeping_state, opens, h_step, inside_marks, keeping_marks}
use Rattle.card_reader.proofs.PlainText.{plain_marks, quiet_plain, First, nowhere, at_apostrophe, at_count, first}
use Rattle.card_reader.proofs.FormatFlag.{by_flag}

-- the marks of a text, where it is known whether it is of a FORMAT
abbrev marks_of : Bool → List ℕ → List ℕ
marks_of f text = marks_from (plain_state f None) text

-- ---- the marks of pieces

only_plain : (f : Bool) (text : List ℕ) → IsPlain f text → marks_of f text ≡ nothing_kept text
only_plain f text plain = ap (marks_of f) (sym (append-nil text)) ∙ plain_marks f text [] plain ∙ append-nil (nothing_kept text)

constant_marks : (f : Bool) (plain inside rest : List ℕ) → IsPlain f plain → IsInside inside
    → marks_of f (plain ++ 39 ∷ (inside ++ 39 ∷ rest)) ≡ nothing_kept plain ++ 1 ∷ (all_kept inside ++ 1 ∷ marks_of f rest)
constant_marks f plain inside rest is_plain is_inside =
    plain_marks f plain (39 ∷ (inside ++ 39 ∷ rest)) is_plain
    ∙ ap (λ (ms : List ℕ). nothing_kept plain ++ ms) (opens f (count_of (last_digits plain)) (inside ++ 39 ∷ rest))
    ∙ ap (λ (ms : List ℕ). nothing_kept plain ++ 1 ∷ ms) (inside_marks f inside (39 ∷ rest) is_inside)

open_marks : (f : Bool) (plain inside : List ℕ) → IsPlain f plain → IsInside inside → marks_of f (plain ++ 39 ∷ inside) ≡ nothing_kept plain ++ 1 ∷ all_kept inside
open_marks f plain inside is_plain is_inside =
    plain_marks f plain (39 ∷ inside) is_plain
    ∙ ap (λ (ms : List ℕ). nothing_kept plain ++ ms) (opens f (count_of (last_digits plain)) inside)
    ∙ ap (λ (xs : List ℕ). nothing_kept plain ++ 1 ∷ marks_from (constant_state f) xs) (sym (append-nil inside))
    ∙ ap (λ (ms : List ℕ). nothing_kept plain ++ 1 ∷ ms) (inside_marks f inside [] is_inside ∙ append-nil (all_kept inside))

-- as many characters as the number says, or as there are
abbrev pub IsCounted : List ℕ → List ℕ → ℕ → Type 0
IsCounted inside rest n = (length inside ≡ n) ⊎ ((length inside ≤ n) × (rest ≡ []))

pub counted : (ds : List ℕ) → ds ≢ [] → count_or_none (count_of ds) ≡ min (digits_value 10 ds) most
counted [] some = absurd (some refl)
counted (d ∷ ds) some = refl

-- as many characters as are kept
kept_count : (f : Bool) (inside rest : List ℕ) (n : ℕ) → IsCounted inside rest n → marks_from (keeping_state f n) (inside ++ rest) ≡ all_kept inside ++ marks_of f rest
kept_count f inside rest n (inl whole) =
    let none : n - length inside ≡ 0 = omega (arith, whole) in
    keeping_marks f inside rest n (omega (arith, whole))
    ∙ ap (λ k. all_kept inside ++ marks_from (keeping_state f k) rest) none
kept_count f inside rest n (inr cut) =
    keeping_marks f inside rest n cut.0
    ∙ ap (λ (xs : List ℕ). all_kept inside ++ marks_from (keeping_state f (n - length inside)) xs) cut.1
    ∙ ap (λ (xs : List ℕ). all_kept inside ++ marks_of f xs) (sym cut.1)

count_marks : (f : Bool) (plain : List ℕ) (h : ℕ) (inside rest : List ℕ) → f ≡ true → IsPlain f plain → last_digits plain ≢ [] → is_h h ≡ true
    → IsCounted inside rest (count_before plain)
    → marks_of f (plain ++ h ∷ (inside ++ rest)) ≡ nothing_kept plain ++ 0 ∷ (all_kept inside ++ marks_of f rest)
count_marks f plain h inside rest is is_plain some letter counts =
    plain_marks f plain (h ∷ (inside ++ rest)) is_plain
    ∙ ap (λ (ms : List ℕ). nothing_kept plain ++ ms)
    (subst (λ g. marks_from (plain_state g (count_of (last_digits plain))) (h ∷ (inside ++ rest)) ≡ 0 ∷ marks_from (keeping_state g (count_or_none (count_of (last_digits plain)))) (inside ++ rest)) (sym is)
    (h_step (count_of (last_digits plain)) h (inside ++ rest) letter))
    ∙ ap (λ n. nothing_kept plain ++ 0 ∷ marks_from (keeping_state f n) (inside ++ rest)) (counted (last_digits plain) some)
    ∙ ap (λ (ms : List ℕ). nothing_kept plain ++ 0 ∷ ms) (kept_count f inside rest (count_before plain) counts)

-- ---- lengths of pieces

pub rest_shorter : (plain : List ℕ) (c : ℕ) (rest : List ℕ) → length rest < length (plain ++ c ∷ rest)
rest_shorter plain c rest = let whole = length-append plain (c ∷ rest) in omega (arith, whole)

pub inner_no_longer : (inside rest : List ℕ) → (length inside ≤ length (inside ++ rest)) × (length rest ≤ length (inside ++ rest))
inner_no_longer inside rest = let whole = length-append inside rest in (omega (arith, whole), omega (arith, whole))

-- ---- no others

only_marks : (f : Bool) (text marks : List ℕ) → IsMarked f text marks → marks ≡ marks_of f text
only_marks f text marks (marked_plain plain m) = m ∙ sym (only_plain f text plain)
only_marks f text marks (marked_constant {rest = rest} {more = more} plain inside is_plain is_inside ends t next m) =
    m
    ∙ ap (λ (ms : List ℕ). nothing_kept plain ++ 1 ∷ (all_kept inside ++ 1 ∷ ms)) (only_marks f rest more next)
    ∙ sym (constant_marks f plain inside rest is_plain is_inside)
    ∙ ap (marks_of f) (sym t)
only_marks f text marks (marked_open plain inside is_plain is_inside t m) =
    m ∙ sym (open_marks f plain inside is_plain is_inside) ∙ ap (marks_of f) (sym t)
only_marks f text marks (marked_count {rest = rest} {more = more} plain h inside is is_plain some letter counts t next m) =
    m
    ∙ ap (λ (ms : List ℕ). nothing_kept plain ++ 0 ∷ (all_kept inside ++ ms)) (only_marks f rest more next)
    ∙ sym (count_marks f plain h inside rest is is_plain some letter counts)
    ∙ ap (marks_of f) (sym t)

-- ---- those of its pieces

-- where a character constant ends
pub data Ends : List ℕ → Type 0 where
  ends_never : {text : List ℕ} → IsInside text → Ends text
  ends_after : {text : List ℕ} (inside rest : List ℕ) → IsInside inside → slice_index rest 0 ≢ 39 → text ≡ inside ++ 39 ∷ rest → Ends text

ends_other : (c : ℕ) (t : List ℕ) → c ≢ 39 → Ends t → Ends (c ∷ t)
ends_other c t differ (ends_never inner) = ends_never (inside_other refl differ inner)
ends_other c t differ (ends_after inside rest inner apart e) = ends_after (c ∷ inside) rest (inside_other refl differ inner) apart (ap (λ (xs : List ℕ). c ∷ xs) e)

ends_doubled : (t : List ℕ) → Ends t → Ends (39 ∷ 39 ∷ t)
ends_doubled t (ends_never inner) = ends_never (inside_doubled refl inner)
ends_doubled t (ends_after inside rest inner apart e) = ends_after (39 ∷ 39 ∷ inside) rest (inside_doubled refl inner) apart (ap (λ (xs : List ℕ). 39 ∷ 39 ∷ xs) e)

pub ends : (text : List ℕ) → Ends text
ends [] = ends_never (inside_nothing refl)
ends (c ∷ []) = go (c == 39) refl
  where
    go : (a : Bool) → (c == 39) ≡ a → Ends (c ∷ [])
    go true a = ends_after [] [] (inside_nothing refl) (λ e. omega (arith, e)) (ap (λ d. d ∷ []) (eqb-true c 39 a))
    go false a = ends_other c [] (eqb-false c 39 a) (ends_never (inside_nothing refl))
ends (c ∷ d ∷ t) = go (ends (d ∷ t)) (ends t) (c == 39) refl (d == 39) refl
  where
    go : Ends (d ∷ t) → Ends t → (a : Bool) → (c == 39) ≡ a → (b : Bool) → (d == 39) ≡ b → Ends (c ∷ d ∷ t)
    go later behind false a b next = ends_other c (d ∷ t) (eqb-false c 39 a) later
    go later behind true a true next =
        let quotes : 39 ∷ 39 ∷ t ≡ c ∷ d ∷ t = λ i. sym (eqb-true c 39 a) i ∷ sym (eqb-true d 39 next) i ∷ t in
        subst Ends quotes (ends_doubled t behind)
    go later behind true a false next = ends_after [] (d ∷ t) (inside_nothing refl) (eqb-false d 39 next) (ap (λ x. x ∷ d ∷ t) (eqb-true c 39 a))

-- from the pieces behind the first kept text
abbrev AreMarkedBehind : Bool → List ℕ → Type 0
AreMarkedBehind f text = (rest : List ℕ) → length rest < length text → IsMarked f rest (marks_of f rest)

after_apostrophe : (f : Bool) (text plain rest : List ℕ) → IsPlain f plain → text ≡ plain ++ 39 ∷ rest → AreMarkedBehind f text → Ends rest → IsMarked f text (marks_of f text)
after_apostrophe f text plain rest is_plain e later (ends_never inner) = marked_open plain rest is_plain inner e (ap (marks_of f) e ∙ open_marks f plain rest is_plain inner)
after_apostrophe f text plain rest is_plain e later (ends_after inside behind inner apart e2) =
    let whole : text ≡ plain ++ 39 ∷ (inside ++ 39 ∷ behind) = e ∙ ap (λ (xs : List ℕ). plain ++ 39 ∷ xs) e2 in
    let long = ap length whole in
    let after = rest_shorter plain 39 (inside ++ 39 ∷ behind) in
    let shorter = rest_shorter inside 39 behind in
    marked_constant plain inside is_plain inner apart whole (later behind (omega (arith, long, after, shorter))) (ap (marks_of f) whole ∙ constant_marks f plain inside behind is_plain inner)

after_count : (f : Bool) (text plain : List ℕ) (h : ℕ) (inside rest : List ℕ) → f ≡ true → IsPlain f plain → last_digits plain ≢ [] → is_h h ≡ true
    → IsCounted inside rest (count_before plain) → text ≡ plain ++ h ∷ (inside ++ rest) → AreMarkedBehind f text → IsMarked f text (marks_of f text)
after_count f text plain h inside rest is is_plain some letter counts e later =
    let long = ap length e in
    let after = rest_shorter plain h (inside ++ rest) in
    let inner = inner_no_longer inside rest in
    marked_count plain h inside is is_plain some letter counts e (later rest (omega (arith, long, after, inner.1)))
    (ap (marks_of f) e ∙ count_marks f plain h inside rest is is_plain some letter counts)

by_first : (f : Bool) (text : List ℕ) → AreMarkedBehind f text → First f [] text → IsMarked f text (marks_of f text)
by_first f text later (nowhere quiet) = let is_plain = quiet_plain f text quiet in marked_plain is_plain (only_plain f text is_plain)
by_first f text later (at_apostrophe plain rest quiet e) = after_apostrophe f text plain rest (quiet_plain f plain quiet) e later (ends rest)
by_first f text later (at_count plain h rest is quiet some letter e) = go (cases_lt (length rest) n)
  where
    n : ℕ
    n = count_before plain

    go : (length rest < n) ⊎ (n ≤ length rest) → IsMarked f text (marks_of f text)
    go (inl less) =
        after_count f text plain h rest [] is (quiet_plain f plain quiet) some letter (inr (omega (arith, less), refl))
        (e ∙ ap (λ (xs : List ℕ). plain ++ h ∷ xs) (sym (append-nil rest))) later
    go (inr enough) =
        let cut = length-take n rest in
        after_count f text plain h (take n rest) (drop n rest) is (quiet_plain f plain quiet) some letter (inl (omega (arith, cut, enough)))
        (e ∙ ap (λ (xs : List ℕ). plain ++ h ∷ xs) (sym (take-append-drop n rest))) later

up_to : (f : Bool) (n : ℕ) (text : List ℕ) → length text ≤ n → IsMarked f text (marks_of f text)
up_to f zero text le = by_first f text (λ rest less. absurd (omega (arith, le, less))) (first f [] text)
up_to f (suc n) text le = by_first f text (λ rest less. up_to f n rest (omega (arith, le, less))) (first f [] text)

-- ---- statements

pub marked : (label : ℕ) (text : List ℕ) → IsMarked (is_format label text) text (kept label text)
marked label text = subst (IsMarked (is_format label text) text) (sym (by_flag label text)) (up_to (is_format label text) (length text) text (omega arith))

pub only : (label : ℕ) (text marks : List ℕ) → IsMarked (is_format label text) text marks → marks ≡ kept label text
only label text marks m = only_marks (is_format label text) text marks m ∙ sym (by_flag label text)
