-- Plain text, one character at a time.
use Rattle.std.proofs.Common.{◌≡◌, ◌≢◌, ℕ, Bool, true, false, not, ◌==◌, List, [], ◌∷◌, ◌++◌, None, refl, sym, ap, ◌∙◌, append_assoc}
use Rattle.std.specs.List.{list_all}
use Rattle.std.proofs.lemmas.List.{append-nil}
use Rattle.std.proofs.lemmas.Bool.{eqb-true, eqb-false, ne_eqb, and_parts, and_from, not-true}
use Rattle.text_base.specs.Kept.{IsPlain, is_h, last_digits, nothing_kept, marks_from}
use Rattle.card_reader.proofs.LastDigits.{count_of, count_step}
use Rattle.card_reader.proofs.ScanSteps.{plain_state, plain_step}

-- text after some plain text, in which no kept text begins
abbrev pub IsQuiet : Bool → List ℕ → List ℕ → Type 0
IsQuiet f before [] = Unit {0}
IsQuiet f before (c ∷ t) = (c ≢ 39) × (f ≡ true → is_h c ≡ true → last_digits before ≡ []) × IsQuiet f (before ++ c ∷ []) t

-- more text in two steps
pub onward : (before : List ℕ) (c : ℕ) (t : List ℕ) → (before ++ c ∷ []) ++ t ≡ before ++ c ∷ t
onward before c t = append_assoc before (c ∷ []) t

-- ---- plain text is quiet

all_quiet : (f : Bool) (before text : List ℕ) → list_all (λ c. not (c == 39)) text ≡ true
    → ((front back : List ℕ) (h : ℕ) → f ≡ true → is_h h ≡ true → text ≡ front ++ h ∷ back → last_digits (before ++ front) ≡ [])
    → IsQuiet f before text
all_quiet f before [] bare none = tt
all_quiet f before (c ∷ t) bare none =
    let parts = and_parts (not (c == 39)) (list_all (λ d. not (d == 39)) t) bare in (
      eqb-false c 39 (not-true (c == 39) parts.0),
      (λ is letter. ap last_digits (sym (append-nil before)) ∙ none [] t c is letter refl),
      all_quiet f (before ++ c ∷ []) t parts.1 (λ front back h is letter e. ap last_digits (onward before c front) ∙ none (c ∷ front) back h is letter (ap (λ (xs : List ℕ). c ∷ xs) e)),
    )

pub plain_quiet : (f : Bool) (text : List ℕ) → IsPlain f text → IsQuiet f [] text
plain_quiet f text plain = all_quiet f [] text plain.no_apostrophe (λ front back h. plain.no_count front back h)

no_apostrophes : (f : Bool) (before text : List ℕ) → IsQuiet f before text → list_all (λ c. not (c == 39)) text ≡ true
no_apostrophes f before [] quiet = refl
no_apostrophes f before (c ∷ t) quiet = and_from (not (c == 39)) (list_all (λ d. not (d == 39)) t) (ap not (ne_eqb c 39 quiet.0)) (no_apostrophes f (before ++ c ∷ []) t quiet.2)

no_counts : (f : Bool) (before text front back : List ℕ) (h : ℕ) → IsQuiet f before text → f ≡ true → is_h h ≡ true → text ≡ front ++ h ∷ back → last_digits (before ++ front) ≡ []
no_counts f before [] [] back h quiet is letter e = absurd cc
no_counts f before [] (d ∷ front) back h quiet is letter e = absurd cc
no_counts f before (c ∷ t) [] back h quiet is letter e =
    let same : c ≡ h = cc in
    ap last_digits (append-nil before) ∙ quiet.1 is (ap is_h same ∙ letter)
no_counts f before (c ∷ t) (d ∷ front) back h quiet is letter e =
    let same : d ≡ c = cc in
    let behind : t ≡ front ++ h ∷ back = cc in
    ap (λ x. last_digits (before ++ x ∷ front)) same
    ∙ ap last_digits (sym (onward before c front))
    ∙ no_counts f (before ++ c ∷ []) t front back h quiet.2 is letter behind

pub quiet_plain : (f : Bool) (text : List ℕ) → IsQuiet f [] text → IsPlain f text
quiet_plain f text quiet = record {
  no_apostrophe = no_apostrophes f [] text quiet;
  no_count = λ front back h is letter e. no_counts f [] text front back h quiet is letter e;
}

-- ---- its marks

pub count_none : (ds : List ℕ) → ds ≡ [] → count_of ds ≡ None
count_none ds e = ap count_of e

marks_after : (f : Bool) (before text rest : List ℕ) → IsQuiet f before text
    → marks_from (plain_state f (count_of (last_digits before))) (text ++ rest) ≡ nothing_kept text ++ marks_from (plain_state f (count_of (last_digits (before ++ text)))) rest
marks_after f before [] rest quiet = ap (λ xs. marks_from (plain_state f (count_of (last_digits xs))) rest) (sym (append-nil before))
marks_after f before (c ∷ t) rest quiet =
    plain_step f (count_of (last_digits before)) c (t ++ rest) quiet.0 (λ is letter. count_none (last_digits before) (quiet.1 is letter))
    ∙ ap (λ n. 0 ∷ marks_from (plain_state f n) (t ++ rest)) (sym (count_step before c))
    ∙ ap (λ (ms : List ℕ). 0 ∷ ms) (marks_after f (before ++ c ∷ []) t rest quiet.2)
    ∙ ap (λ (xs : List ℕ). 0 ∷ (nothing_kept t ++ marks_from (plain_state f (count_of (last_digits xs))) rest)) (onward before c t)

pub plain_marks : (f : Bool) (text rest : List ℕ) → IsPlain f text → marks_from (plain_state f None) (text ++ rest) ≡ nothing_kept text ++ marks_from (plain_state f (count_of (last_digits text))) rest
plain_marks f text rest plain = marks_after f [] text rest (plain_quiet f text plain)

-- ---- where kept text begins

-- the first place in a text, after some plain text, where kept text begins
pub data First (f : Bool) (before : List ℕ) : List ℕ → Type 0 where
  nowhere : {text : List ℕ} → IsQuiet f before text → First f before text
  at_apostrophe : {text : List ℕ} (plain rest : List ℕ) → IsQuiet f before plain → text ≡ plain ++ 39 ∷ rest → First f before text
  at_count : {text : List ℕ} (plain : List ℕ) (h : ℕ) (rest : List ℕ) → f ≡ true → IsQuiet f before plain → last_digits (before ++ plain) ≢ [] → is_h h ≡ true → text ≡ plain ++ h ∷ rest → First f before text

first_later : (f : Bool) (before : List ℕ) (c : ℕ) (t : List ℕ) → c ≢ 39 → (f ≡ true → is_h c ≡ true → last_digits before ≡ []) → First f (before ++ c ∷ []) t → First f before (c ∷ t)
first_later f before c t differ none (nowhere quiet) = nowhere (differ, none, quiet)
first_later f before c t differ none (at_apostrophe plain rest quiet e) = at_apostrophe (c ∷ plain) rest (differ, none, quiet) (ap (λ (xs : List ℕ). c ∷ xs) e)
first_later f before c t differ none (at_count plain h rest is quiet some letter e) =
    at_count (c ∷ plain) h rest is (differ, none, quiet) (λ x. some (ap last_digits (onward before c plain) ∙ x)) letter (ap (λ (xs : List ℕ). c ∷ xs) e)

pub first : (f : Bool) (before text : List ℕ) → First f before text
first f before [] = nowhere tt
first f before (c ∷ t) = go (first f (before ++ c ∷ []) t) (c == 39) refl f refl (is_h c) refl (last_digits before) refl
  where
    go : First f (before ++ c ∷ []) t → (a : Bool) → (c == 39) ≡ a → (g : Bool) → f ≡ g → (b : Bool) → is_h c ≡ b → (ds : List ℕ) → last_digits before ≡ ds → First f before (c ∷ t)
    go later true a g is b letter ds digits = at_apostrophe [] t tt (ap (λ d. d ∷ t) (eqb-true c 39 a))
    go later false a true is true letter [] digits = first_later f before c t (eqb-false c 39 a) (λ i j. digits) later
    go later false a true is true letter (d ∷ ds) digits = at_count [] c t is tt (λ x. let both : [] ≡ d ∷ ds = sym x ∙ ap last_digits (append-nil before) ∙ digits in absurd cc) letter refl
    go later false a true is false letter ds digits = first_later f before c t (eqb-false c 39 a) (λ i j. absurd cc) later
    go later false a false is b letter ds digits = first_later f before c t (eqb-false c 39 a) (λ i j. absurd cc) later
