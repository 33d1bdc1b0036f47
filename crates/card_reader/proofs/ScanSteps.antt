-- The scan of a statement that is known to be a FORMAT or known to be none, one character at a time.
use Rattle.std.proofs.Common.{◌≡◌, ◌≢◌, ◌⊎◌, ℕ, zero, suc, ◌-◌, ◌≤◌, Bool, true, false, not, ◌&&◌, ◌||◌, cond, ◌==◌, List, [], ◌∷◌, ◌++◌, length, Option, None, refl, sym, ap, ◌∙◌, subst, inl, inr, arith}
use Rattle.std.proofs.lemmas.Bool.{eqb-true, ne_eqb, or_cases}
use Rattle.text_base.specs.Chars.{is_digit}
use Rattle.text_base.specs.Kept.{Scan, more_matched, more_count, count_or_none, is_h, scan_plain, mark_of, scan_after, marks_from, IsInside, inside_nothing, inside_other, inside_doubled, all_kept}
use Rattle.card_reader.proofs.LastDigits.{next_count}

-- ---- states

-- what is matched of `FORMAT(`, where that is decided
abbrev pub decided : Bool → ℕ
decided f = cond f 7 8

-- in plain text, after so many characters of `FORMAT(` and this count
abbrev pub scan_at : ℕ → Option ℕ → Scan
scan_at m n = record { matched = m; inside = false; left = 0; count = n }

abbrev pub plain_state : Bool → Option ℕ → Scan
plain_state f n = scan_at (decided f) n

-- in a character constant
abbrev pub constant_state : Bool → Scan
constant_state f = record { matched = decided f; inside = true; left = 0; count = None }

-- where so many characters are still kept
abbrev pub keeping_state : Bool → ℕ → Scan
keeping_state f n = record { matched = decided f; inside = false; left = n; count = None }

-- ---- the state after a character

stays_decided : (f : Bool) (c : ℕ) → more_matched (decided f) c ≡ decided f
stays_decided true c = refl
stays_decided false c = refl

-- an apostrophe opens a character constant
pub after_opening : (f : Bool) (n : Option ℕ) → scan_after (plain_state f n) 39 ≡ constant_state f
after_opening f n = ap (λ m. record { matched = m; inside = true; left = 0; count = None }) (stays_decided f 39)

-- nothing but an apostrophe closes it
pub after_inside : (f : Bool) (c : ℕ) → c ≢ 39 → scan_after (constant_state f) c ≡ constant_state f
after_inside f c differ = ap (λ b. record { matched = decided f; inside = not b; left = 0; count = None }) (ne_eqb c 39 differ)

-- a character of plain text, where no kept text begins
pub after_plain : (f : Bool) (n : Option ℕ) (c : ℕ) → c ≢ 39 → (f ≡ true → is_h c ≡ true → n ≡ None) → scan_after (plain_state f n) c ≡ plain_state f (next_count n c)
after_plain f n c differ quiet =
    ap (λ b. cond b (record { matched = more_matched (decided f) c; inside = true; left = 0; count = None }) (cond (c == 32) (plain_state f n) (scan_plain (plain_state f n) c))) (ne_eqb c 39 differ)
    ∙ go f quiet (c == 32) refl (is_digit c) refl
  where
    -- after a digit, after H, and after anything else
    after : Bool → Bool → Bool → Scan
    after g d h =
        cond d (scan_at (more_matched (decided g) c) (more_count n c))
        (cond ((decided g == 7) && h) (record { matched = decided g; inside = false; left = count_or_none n; count = None }) (scan_at (more_matched (decided g) c) None))

    other : (g : Bool) → (g ≡ true → is_h c ≡ true → n ≡ None) → (h : Bool) → is_h c ≡ h → after g false h ≡ plain_state g None
    other true still true v = ap (λ m. record { matched = 7; inside = false; left = count_or_none m; count = None }) (still refl v)
    other true still false v = refl
    other false still h v = refl

    go : (g : Bool) → (g ≡ true → is_h c ≡ true → n ≡ None) → (b : Bool) → (c == 32) ≡ b → (d : Bool) → is_digit c ≡ d
        → cond b (plain_state g n) (scan_plain (plain_state g n) c) ≡ plain_state g (cond b n (cond d (more_count n c) None))
    go g still true e d u = refl
    go g still false e true u = ap (λ b. after g b (is_h c)) u ∙ ap (λ m. scan_at m (more_count n c)) (stays_decided g c)
    go g still false e false u = ap (λ b. after g b (is_h c)) u ∙ other g still (is_h c) refl

-- H is no apostrophe, no blank and no digit
pub record IsLetter (c : ℕ) : Type 0 where
  pub no_apostrophe : (c == 39) ≡ false
  pub no_blank : (c == 32) ≡ false
  pub no_digit : is_digit c ≡ false

pub h_is_letter : (h : ℕ) → is_h h ≡ true → IsLetter h
h_is_letter h e = go (or_cases (h == 72) (h == 104) e)
  where
    go : ((h == 72) ≡ true) ⊎ ((h == 104) ≡ true) → IsLetter h
    go (inl is) = let same = eqb-true h 72 is in record { no_apostrophe = ap (λ c. c == 39) same; no_blank = ap (λ c. c == 32) same; no_digit = ap is_digit same }
    go (inr is) = let same = eqb-true h 104 is in record { no_apostrophe = ap (λ c. c == 39) same; no_blank = ap (λ c. c == 32) same; no_digit = ap is_digit same }

-- H after a number keeps as many characters
pub after_h : (n : Option ℕ) (h : ℕ) → is_h h ≡ true → scan_after (plain_state true n) h ≡ keeping_state true (count_or_none n)
after_h n h e =
    let letter = h_is_letter h e in
    ap (λ b. cond b (record { matched = 7; inside = true; left = 0; count = None }) (cond (h == 32) (plain_state true n) (scan_plain (plain_state true n) h))) letter.no_apostrophe
    ∙ ap (λ b. cond b (plain_state true n) (scan_plain (plain_state true n) h)) letter.no_blank
    ∙ ap (λ b. cond b (scan_at (more_matched 7 h) (more_count n h)) (cond (is_h h) (keeping_state true (count_or_none n)) (scan_at (more_matched 7 h) None))) letter.no_digit
    ∙ ap (λ b. cond b (keeping_state true (count_or_none n)) (scan_at (more_matched 7 h) None)) e

pub some_left : (n : ℕ) → (suc n == 0) ≡ false
some_left n = ne_eqb (suc n) 0 (λ e. omega (arith, e))

-- and then one fewer
pub after_kept : (f : Bool) (n c : ℕ) → scan_after (keeping_state f (suc n)) c ≡ keeping_state f n
after_kept f n c =
    let less : suc n - 1 ≡ n = omega arith in
    ap (λ b. cond (not b) (keeping_state f (suc n - 1)) (cond (c == 39) (record { matched = more_matched (decided f) c; inside = true; left = suc n; count = None }) (cond (c == 32) (keeping_state f (suc n)) (scan_plain (keeping_state f (suc n)) c)))) (some_left n)
    ∙ ap (λ m. keeping_state f m) less

-- ---- its mark

pub opens : (f : Bool) (n : Option ℕ) (t : List ℕ) → marks_from (plain_state f n) (39 ∷ t) ≡ 1 ∷ marks_from (constant_state f) t
opens f n t = ap (λ (s : Scan). 1 ∷ marks_from s t) (after_opening f n)

pub closes : (f : Bool) (t : List ℕ) → marks_from (constant_state f) (39 ∷ t) ≡ 1 ∷ marks_from (plain_state f None) t
closes f t = refl

pub stays_inside : (f : Bool) (c : ℕ) (t : List ℕ) → c ≢ 39 → marks_from (constant_state f) (c ∷ t) ≡ 1 ∷ marks_from (constant_state f) t
stays_inside f c t differ = ap (λ (s : Scan). 1 ∷ marks_from s t) (after_inside f c differ)

plain_mark : (f : Bool) (n : Option ℕ) (c : ℕ) → (c == 39) ≡ false → mark_of (plain_state f n) c ≡ 0
plain_mark f n c e = ap (λ b. cond b 1 0) e

pub plain_step : (f : Bool) (n : Option ℕ) (c : ℕ) (t : List ℕ) → c ≢ 39 → (f ≡ true → is_h c ≡ true → n ≡ None)
    → marks_from (plain_state f n) (c ∷ t) ≡ 0 ∷ marks_from (plain_state f (next_count n c)) t
plain_step f n c t differ quiet =
    ap (λ m. m ∷ marks_from (scan_after (plain_state f n) c) t) (plain_mark f n c (ne_eqb c 39 differ))
    ∙ ap (λ (s : Scan). 0 ∷ marks_from s t) (after_plain f n c differ quiet)

pub h_step : (n : Option ℕ) (h : ℕ) (t : List ℕ) → is_h h ≡ true → marks_from (plain_state true n) (h ∷ t) ≡ 0 ∷ marks_from (keeping_state true (count_or_none n)) t
h_step n h t e =
    let letter = h_is_letter h e in
    ap (λ m. m ∷ marks_from (scan_after (plain_state true n) h) t) (plain_mark true n h letter.no_apostrophe)
    ∙ ap (λ (s : Scan). 0 ∷ marks_from s t) (after_h n h e)

-- ---- kept text

-- what stands between apostrophes is kept
pub inside_marks : (f : Bool) (text rest : List ℕ) → IsInside text → marks_from (constant_state f) (text ++ rest) ≡ all_kept text ++ marks_from (constant_state f) rest
inside_marks f text rest (inside_nothing e) = subst (λ (t : List ℕ). marks_from (constant_state f) (t ++ rest) ≡ all_kept t ++ marks_from (constant_state f) rest) (sym e) refl
inside_marks f text rest (inside_other {c = c} {more = more} e differ inner) =
    subst (λ (t : List ℕ). marks_from (constant_state f) (t ++ rest) ≡ all_kept t ++ marks_from (constant_state f) rest) (sym e)
    (stays_inside f c (more ++ rest) differ ∙ ap (λ (ms : List ℕ). 1 ∷ ms) (inside_marks f more rest inner))
inside_marks f text rest (inside_doubled {more = more} e inner) =
    subst (λ (t : List ℕ). marks_from (constant_state f) (t ++ rest) ≡ all_kept t ++ marks_from (constant_state f) rest) (sym e)
    (closes f (39 ∷ more ++ rest) ∙ ap (λ (ms : List ℕ). 1 ∷ ms) (opens f None (more ++ rest)) ∙ ap (λ (ms : List ℕ). 1 ∷ 1 ∷ ms) (inside_marks f more rest inner))

keeping_step : (f : Bool) (n c : ℕ) (t : List ℕ) → marks_from (keeping_state f (suc n)) (c ∷ t) ≡ 1 ∷ marks_from (keeping_state f n) t
keeping_step f n c t =
    ap (λ b. cond (not b || c == 39) 1 0 ∷ marks_from (scan_after (keeping_state f (suc n)) c) t) (some_left n)
    ∙ ap (λ (s : Scan). 1 ∷ marks_from s t) (after_kept f n c)

-- as many characters as are still to be kept
pub keeping_marks : (f : Bool) (text rest : List ℕ) (n : ℕ) → length text ≤ n → marks_from (keeping_state f n) (text ++ rest) ≡ all_kept text ++ marks_from (keeping_state f (n - length text)) rest
keeping_marks f [] rest n le = let same : n ≡ n - 0 = omega arith in ap (λ m. marks_from (keeping_state f m) rest) same
keeping_marks f (c ∷ text) rest zero le = absurd (omega (arith, le))
keeping_marks f (c ∷ text) rest (suc n) le =
    let fewer : n - length text ≡ suc n - suc (length text) = omega arith in
    keeping_step f n c (text ++ rest)
    ∙ ap (λ (ms : List ℕ). 1 ∷ ms) (keeping_marks f text rest n (omega (arith, le)))
    ∙ ap (λ m. 1 ∷ (all_kept text ++ marks_from (keeping_state f m) rest)) fewer
