-- The scan of a statement finds out whether it is a FORMAT before that matters.
use Rattle.std.proofs.Common.{◌≡◌, ◌≢◌, ◌⊎◌, ℕ, ◌+◌, ◌-◌, ◌<◌, ◌≤◌, Bool, true, false, not, ◌&&◌, cond, ◌==◌, List, [], ◌∷◌, length, take, slice_index, codes, Option, Some, None, bytes_eq, refl, sym, ap, ◌∙◌, subst, inl, inr, map, nat_le, arith, rules}
use Rattle.std.specs.Prelude.{if◌then◌else◌}
use Rattle.std.proofs.lemmas.Bool.{eqb-true, eqb-false, ne_eqb, eq-eqb, lt-ltb, lt-leb, or_cases}
use Rattle.text_base.specs.Chars.{is_digit, to_upper, without_blanks, characters}
use Rattle.text_base.specs.Kept.{is_format, Scan, scan_start, more_matched, is_h, scan_plain, mark_of, scan_after, marks_from, kept}
use Rattle.card_reader.proofs.LastDigits.{next_count, digit_range}
use Rattle.card_reader.proofs.ScanSteps.{decided, scan_at, plain_state, after_plain}

-- the characters of `FORMAT(` from the place k on; none is a digit, H or an apostrophe
abbrev IsPart : ℕ → List ℕ → Type 0
IsPart k [] = k ≡ 7
IsPart k (x ∷ p) = (k < 7) × (slice_index (codes "FORMAT(") k ≡ x) × (is_digit x ≡ false) × ((x == 72) ≡ false) × ((x == 39) ≡ false) × IsPart (k + 1) p

is_part : IsPart 0 (codes "FORMAT(")
is_part = search rules

-- a text begins with some characters
abbrev pub begins : List ℕ → List ℕ → Bool
begins p text = bytes_eq (take (length p) (characters text)) p

-- after so many characters of `FORMAT(`, which leave no count
abbrev matching_state : ℕ → Scan
matching_state k = scan_at k None

-- ---- one character

small_stays : (c : ℕ) → c ≤ 57 → to_upper c ≡ c
small_stays c le = ap (λ b. if b && nat_le c 122 then c - 32 else c) (lt-leb 97 c (omega (arith, le)))

-- what matches a character that is no digit is no digit
no_digit_matches : (x c : ℕ) → (x == to_upper c) ≡ true → is_digit x ≡ false → is_digit c ≡ false
no_digit_matches x c same no_digit = go (is_digit c) refl
  where
    go : (b : Bool) → is_digit c ≡ b → b ≡ false
    go false e = refl
    go true e =
        let is : x ≡ c = eqb-true x (to_upper c) same ∙ small_stays c (digit_range c e).1 in
        let digit : is_digit x ≡ true = ap is_digit is ∙ e in
        absurd cc

-- and what matches one that is no H is no H
no_h_matches : (x c : ℕ) → (x == to_upper c) ≡ true → (x == 72) ≡ false → is_h c ≡ false
no_h_matches x c same no_h = go (is_h c) refl
  where
    upper : ((c == 72) ≡ true) ⊎ ((c == 104) ≡ true) → to_upper c ≡ 72
    upper (inl e) = ap to_upper (eqb-true c 72 e)
    upper (inr e) = ap to_upper (eqb-true c 104 e)

    go : (b : Bool) → is_h c ≡ b → b ≡ false
    go false e = refl
    go true e =
        let is : x ≡ 72 = eqb-true x (to_upper c) same ∙ upper (or_cases (c == 72) (c == 104) e) in
        let h : (x == 72) ≡ true = ap (λ y. y == 72) is in
        absurd cc

-- one more that matches, and one that doesn't
one_more : (k x c : ℕ) → k < 7 → slice_index (codes "FORMAT(") k ≡ x → (x == to_upper c) ≡ true → more_matched k c ≡ k + 1
one_more k x c lt at e =
    ap (λ b. cond (b && slice_index (codes "FORMAT(") k == to_upper c) (k + 1) (cond (k == 7) 7 8)) (lt-ltb k 7 lt)
    ∙ ap (λ y. cond (y == to_upper c) (k + 1) (cond (k == 7) 7 8)) at
    ∙ ap (λ b. cond b (k + 1) (cond (k == 7) 7 8)) e

no_more : (k x c : ℕ) → k < 7 → slice_index (codes "FORMAT(") k ≡ x → (x == to_upper c) ≡ false → more_matched k c ≡ 8
no_more k x c lt at e =
    ap (λ b. cond (b && slice_index (codes "FORMAT(") k == to_upper c) (k + 1) (cond (k == 7) 7 8)) (lt-ltb k 7 lt)
    ∙ ap (λ y. cond (y == to_upper c) (k + 1) (cond (k == 7) 7 8)) at
    ∙ ap (λ b. cond b (k + 1) (cond (k == 7) 7 8)) e
    ∙ ap (λ b. cond b 7 8) (ne_eqb k 7 (λ is. omega (arith, lt, is)))

-- before `FORMAT(` is complete, H counts as any other character
after_matching : (k c : ℕ) → k < 7 → c ≢ 39 → (c == 32) ≡ false → scan_after (matching_state k) c ≡ scan_at (more_matched k c) (next_count None c)
after_matching k c lt differ unblank =
    ap (λ b. cond b (record { matched = more_matched k c; inside = true; left = 0; count = None }) (cond (c == 32) (matching_state k) (scan_plain (matching_state k) c))) (ne_eqb c 39 differ)
    ∙ ap (λ b. cond b (matching_state k) (scan_plain (matching_state k) c)) unblank
    ∙ ap (λ b. cond (is_digit c) (scan_at (more_matched k c) (Some (c - 48))) (cond (b && is_h c) (matching_state k) (scan_at (more_matched k c) None))) (ne_eqb k 7 (λ is. omega (arith, lt, is)))
    ∙ go (is_digit c)
    ∙ ap (λ b. scan_at (more_matched k c) (cond b None (cond (is_digit c) (Some (c - 48)) None))) (sym unblank)
  where
    go : (b : Bool) → cond b (scan_at (more_matched k c) (Some (c - 48))) (scan_at (more_matched k c) None)
        ≡ (scan_at (more_matched k c) (cond b (Some (c - 48)) None))
    go true = refl
    go false = refl

-- what a text begins with, after a character that is no blank
pub begins_at : (x c : ℕ) (p t : List ℕ) → (c == 32) ≡ false → begins (x ∷ p) (c ∷ t) ≡ ((to_upper c == x) && begins p t)
begins_at x c p t e = ap (λ b. bytes_eq (take (length (x ∷ p)) (map to_upper (cond (not b) (c ∷ without_blanks t) (without_blanks t)))) (x ∷ p)) e

-- ---- the flag

-- Something that is read off a text from a state on: outside kept text it looks only at each character and at the state
-- after it.
pub record IsReadAlong {X : Type 0} (run : Scan → List ℕ → X) : Type 0 where
  pub at_end : (k m : ℕ) (n o : Option ℕ) → run (scan_at k n) [] ≡ run (scan_at m o) []
  pub opening : (k m : ℕ) (n o : Option ℕ) (t : List ℕ) → scan_after (scan_at k n) 39 ≡ scan_after (scan_at m o) 39 → run (scan_at k n) (39 ∷ t) ≡ run (scan_at m o) (39 ∷ t)
  pub other : (k m : ℕ) (n o : Option ℕ) (c : ℕ) (t : List ℕ) → c ≢ 39 → run (scan_after (scan_at k n) c) t ≡ run (scan_after (scan_at m o) c) t → run (scan_at k n) (c ∷ t) ≡ run (scan_at m o) (c ∷ t)

-- after some characters of `FORMAT(`, the scan goes on as one that knows whether the text begins with the others
flag : {X : Type 0} (run : Scan → List ℕ → X) → IsReadAlong run → (k : ℕ) (p text : List ℕ) → IsPart k p → run (matching_state k) text ≡ run (plain_state (begins p text) None) text
flag run along k [] text part = ap (λ m. run (matching_state m) text) part
flag run along k (x ∷ p) [] part = along.at_end k 8 None None
flag run along k (x ∷ p) (c ∷ t) part = go (flag run along k (x ∷ p) t part) (flag run along (k + 1) p t part.5) (c == 39) refl (c == 32) refl (x == to_upper c) refl
  where
    go : run (matching_state k) t ≡ run (plain_state (begins (x ∷ p) t) None) t → run (matching_state (k + 1)) t ≡ run (plain_state (begins p t) None) t
        → (a : Bool) → (c == 39) ≡ a → (b : Bool) → (c == 32) ≡ b → (m : Bool) → (x == to_upper c) ≡ m
        → run (matching_state k) (c ∷ t) ≡ run (plain_state (begins (x ∷ p) (c ∷ t)) None) (c ∷ t)
    go same next true a b blank m e =
        let none : more_matched k 39 ≡ 8 = no_more k x 39 part.0 part.1 part.4 in
        let begins_other : begins (x ∷ p) (39 ∷ t) ≡ false = ap (λ d. d && begins p t) (ne_eqb 39 x (λ is. eqb-false x 39 part.4 (sym is))) in
        subst (λ d. run (matching_state k) (d ∷ t) ≡ run (plain_state (begins (x ∷ p) (d ∷ t)) None) (d ∷ t)) (sym (eqb-true c 39 a))
        (along.opening k 8 None None t (ap (λ n. record { matched = n; inside = true; left = 0; count = None }) none)
        ∙ ap (λ f. run (plain_state f None) (39 ∷ t)) (sym begins_other))
    go same next false a true blank m e =
        subst (λ d. run (matching_state k) (d ∷ t) ≡ run (plain_state (begins (x ∷ p) (d ∷ t)) None) (d ∷ t)) (sym (eqb-true c 32 blank))
        (along.other k (decided (begins (x ∷ p) t)) None None 32 t (λ is. omega (arith, is)) same)
    go same next false a false blank true e =
        let differ = eqb-false c 39 a in
        let no_digit = no_digit_matches x c e part.2 in
        let no_h = no_h_matches x c e part.3 in
        let no_count : next_count None c ≡ None = ap (λ d. cond d None (cond (is_digit c) (Some (c - 48)) None)) blank ∙ ap (λ d. cond d (Some (c - 48)) None) no_digit in
        let here : begins (x ∷ p) (c ∷ t) ≡ begins p t = begins_at x c p t blank ∙ ap (λ d. d && begins p t) (eq-eqb (to_upper c) x (sym (eqb-true x (to_upper c) e))) in
        let one : scan_after (matching_state k) c ≡ matching_state (k + 1) =
        after_matching k c part.0 differ blank ∙ ap (λ n. scan_at n (next_count None c)) (one_more k x c part.0 part.1 e) ∙ ap (λ n. scan_at (k + 1) n) no_count in
        let other : scan_after (plain_state (begins p t) None) c ≡ plain_state (begins p t) None =
        after_plain (begins p t) None c differ (λ f h. refl) ∙ ap (λ n. plain_state (begins p t) n) no_count in
        along.other k (decided (begins p t)) None None c t differ (ap (λ (s : Scan). run s t) one ∙ next ∙ ap (λ (s : Scan). run s t) (sym other))
        ∙ ap (λ f. run (plain_state f None) (c ∷ t)) (sym here)
    go same next false a false blank false e =
        let differ = eqb-false c 39 a in
        let here : begins (x ∷ p) (c ∷ t) ≡ false = begins_at x c p t blank ∙ ap (λ d. d && begins p t) (ne_eqb (to_upper c) x (λ is. eqb-false x (to_upper c) e (sym is))) in
        let one : scan_after (matching_state k) c ≡ scan_at 8 (next_count None c) =
        after_matching k c part.0 differ blank ∙ ap (λ n. scan_at n (next_count None c)) (no_more k x c part.0 part.1 e) in
        along.other k 8 None None c t differ (ap (λ (s : Scan). run s t) (one ∙ sym (after_plain false None c differ (λ f h. refl))))
        ∙ ap (λ f. run (plain_state f None) (c ∷ t)) (sym here)

-- a statement is read as by the scan that knows whether it is a FORMAT
pub by_flag_along : {X : Type 0} (run : Scan → List ℕ → X) → IsReadAlong run → (label : ℕ) (text : List ℕ) → run (scan_start label) text ≡ run (plain_state (is_format label text) None) text
by_flag_along run along label text = go (label == 0)
  where
    go : (b : Bool) → run (scan_at (if b then 8 else 0) None) text ≡ run (plain_state (not b && begins (codes "FORMAT(") text) None) text
    go true = refl
    go false = flag run along 0 (codes "FORMAT(") text is_part

-- ---- marks

marks_along : IsReadAlong marks_from
marks_along = record {
  at_end = λ k m n o. refl;
  opening = λ k m n o t same. ap (λ (s : Scan). 1 ∷ marks_from s t) same;
  other = λ k m n o c t differ same. ap (λ (ms : List ℕ). mark_of (scan_at k n) c ∷ ms) same;
}

pub by_flag : (label : ℕ) (text : List ℕ) → kept label text ≡ marks_from (plain_state (is_format label text) None) text
by_flag label text = by_flag_along marks_from marks_along label text
