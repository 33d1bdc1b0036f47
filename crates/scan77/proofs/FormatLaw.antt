-- A statement is a FORMAT by its own characters exactly where it is one by its outline.
use Rattle.std.proofs.Common.{◌≡◌, ℕ, ◌+◌, ◌<◌, Bool, true, false, not, ◌&&◌, ◌||◌, cond, ◌==◌, List, [], ◌∷◌, slice_index, codes, map, filter, Option, None, refl, sym, ap, ◌∙◌, subst, arith, rules}
use Rattle.std.specs.Prelude.{if◌then◌else◌}
use Rattle.std.specs.List.{zip}
use Rattle.std.proofs.lemmas.Bool.{eqb-true, eqb-false, ne_eqb, eq-eqb, lt-ltb}
use Rattle.text_base.specs.Chars.{is_digit, to_upper}
use Rattle.text_base.specs.Kept.{is_format, Scan, more_matched, more_count, count_or_none, is_h, scan_plain, scan_after, marks_from, kept}
use Rattle.card_reader.proofs.FormatFlag.{begins, begins_at}
use Rattle.tree77.specs.Kinds.{outline, IsFormat}
use Rattle.scan77.specs.KindReading.{behind_text, stands, reads_format}
use Rattle.scan77.proofs.KindSteps.{format_reads, format_found}

-- the characters of `FORMAT(` from the place k on; none is an apostrophe
abbrev IsPart : ℕ → List ℕ → Type 0
IsPart k [] = Unit {0}
IsPart k (x ∷ p) = (k < 7) × (slice_index (codes "FORMAT(") k ≡ x) × ((x == 39) ≡ false) × IsPart (k + 1) p

-- all of `FORMAT(` is such a part
is_part : IsPart 0 (codes "FORMAT(")
is_part = search rules

-- after so many characters of `FORMAT(`
abbrev matching : ℕ → Option ℕ → Scan
matching k n = record { matched = k; inside = false; left = 0; count = n }

-- the outline of a text from a state on begins with some characters
abbrev outline_begins : List ℕ → Scan → List ℕ → Bool
outline_begins p s text = stands (behind_text p (outline text (marks_from s text)))

-- ---- one character

-- a character that goes on with `FORMAT(` makes one more that is matched, and H counts as any other
after_match : (k x c : ℕ) (n : Option ℕ) → k < 7 → slice_index (codes "FORMAT(") k ≡ x → (c == 39) ≡ false → (c == 32) ≡ false → (x == to_upper c) ≡ true
    → scan_after (matching k n) c ≡ matching (k + 1) (cond (is_digit c) (more_count n c) None)
after_match k x c n lt at differ unblank e =
    ap (λ b. cond b (record { matched = more_matched k c; inside = true; left = 0; count = None }) (cond (c == 32) (matching k n) (scan_plain (matching k n) c))) differ
    ∙ ap (λ b. cond b (matching k n) (scan_plain (matching k n) c)) unblank
    ∙ ap (λ b. cond (is_digit c) (matching (more_matched k c) (more_count n c)) (cond (b && is_h c) (record { matched = k; inside = false; left = count_or_none n; count = None }) (matching (more_matched k c) None))) (ne_eqb k 7 (λ is. omega (arith, lt, is)))
    ∙ joined (is_digit c)
    ∙ ap (λ m. matching m (cond (is_digit c) (more_count n c) None)) one_more
  where
    joined : (b : Bool) → cond b (matching (more_matched k c) (more_count n c)) (matching (more_matched k c) None) ≡ matching (more_matched k c) (cond b (more_count n c) None)
    joined true = refl
    joined false = refl

    one_more : more_matched k c ≡ k + 1
    one_more =
        ap (λ b. cond (b && slice_index (codes "FORMAT(") k == to_upper c) (k + 1) (cond (k == 7) 7 8)) (lt-ltb k 7 lt)
        ∙ ap (λ y. cond (y == to_upper c) (k + 1) (cond (k == 7) 7 8)) at
        ∙ ap (λ b. cond b (k + 1) (cond (k == 7) 7 8)) e

-- an outline after a character that isn't kept
outline_plain : (c : ℕ) (t ms : List ℕ) → (c == 32) ≡ false → outline (c ∷ t) (0 ∷ ms) ≡ to_upper c ∷ outline t ms
outline_plain c t ms e =
    ap (λ b. map (λ p. if p.1 == 1 then 39 else to_upper p.0) (cond (not b) ((c, 0) ∷ filter (λ p. p.1 == 1 || not (p.0 == 32)) (zip t ms)) (filter (λ p. p.1 == 1 || not (p.0 == 32)) (zip t ms)))) e

-- what an outline begins with, at a character that is neither an apostrophe nor a blank
outline_begins_at : (x c k : ℕ) (n : Option ℕ) (p t : List ℕ) → (c == 39) ≡ false → (c == 32) ≡ false
    → outline_begins (x ∷ p) (matching k n) (c ∷ t) ≡ ((to_upper c == x) && outline_begins p (scan_after (matching k n) c) t)
outline_begins_at x c k n p t differ unblank =
    ap (λ b. stands (behind_text (x ∷ p) (outline (c ∷ t) (cond b 1 0 ∷ marks_from (scan_after (matching k n) c) t)))) differ
    ∙ ap (λ o. stands (behind_text (x ∷ p) o)) (outline_plain c t (marks_from (scan_after (matching k n) c) t) unblank)
    ∙ go (to_upper c == x)
  where
    go : (b : Bool) → stands (cond b (behind_text p (outline t (marks_from (scan_after (matching k n) c) t))) None) ≡ (b && outline_begins p (scan_after (matching k n) c) t)
    go true = refl
    go false = refl

-- ---- a text

-- after some characters of `FORMAT(`, a text begins with the others exactly where its outline does
outline_is : (k : ℕ) (n : Option ℕ) (p text : List ℕ) → IsPart k p → outline_begins p (matching k n) text ≡ begins p text
outline_is k n [] text part = refl
outline_is k n (x ∷ p) [] part = refl
outline_is k n (x ∷ p) (c ∷ t) part =
    go (outline_is k n (x ∷ p) t part) (outline_is (k + 1) (cond (is_digit c) (more_count n c) None) p t part.3) (c == 39) refl (c == 32) refl (to_upper c == x) refl
  where
    go : outline_begins (x ∷ p) (matching k n) t ≡ begins (x ∷ p) t
        → outline_begins p (matching (k + 1) (cond (is_digit c) (more_count n c) None)) t ≡ begins p t
        → (a : Bool) → (c == 39) ≡ a → (b : Bool) → (c == 32) ≡ b → (m : Bool) → (to_upper c == x) ≡ m
        → outline_begins (x ∷ p) (matching k n) (c ∷ t) ≡ begins (x ∷ p) (c ∷ t)
    go same next true a b blank m e =
        let other : (39 == x) ≡ false = ne_eqb 39 x (λ is. eqb-false x 39 part.2 (sym is)) in
        subst (λ d. outline_begins (x ∷ p) (matching k n) (d ∷ t) ≡ begins (x ∷ p) (d ∷ t)) (sym (eqb-true c 39 a))
        (ap (λ b. stands (cond b (behind_text p (outline t (marks_from (scan_after (matching k n) 39) t))) None)) other
        ∙ sym (begins_at x 39 p t refl ∙ ap (λ b. b && begins p t) other))
    go same next false a true blank m e =
        subst (λ d. outline_begins (x ∷ p) (matching k n) (d ∷ t) ≡ begins (x ∷ p) (d ∷ t)) (sym (eqb-true c 32 blank)) same
    go same next false a false blank true e =
        let one = after_match k x c n part.0 part.1 a blank (eq-eqb x (to_upper c) (sym (eqb-true (to_upper c) x e))) in
        outline_begins_at x c k n p t a blank
        ∙ ap (λ b. (to_upper c == x) && b) (ap (λ (s : Scan). outline_begins p s t) one ∙ next)
        ∙ sym (begins_at x c p t blank)
    go same next false a false blank false e =
        outline_begins_at x c k n p t a blank
        ∙ ap (λ b. b && outline_begins p (scan_after (matching k n) c) t) e
        ∙ sym (begins_at x c p t blank ∙ ap (λ b. b && begins p t) e)

-- a statement is a FORMAT exactly where its outline is read as one
format_is_read : (label : ℕ) (text : List ℕ) → reads_format label (outline text (kept label text)) ≡ is_format label text
format_is_read label text = go (label == 0)
  where
    go : (b : Bool) → (not b && outline_begins (codes "FORMAT(") (matching (if b then 8 else 0) None) text) ≡ (not b && begins (codes "FORMAT(") text)
    go true = refl
    go false = outline_is 0 None (codes "FORMAT(") text is_part

-- a FORMAT by its characters is one by its outline
pub format_by_outline : (label : ℕ) (text : List ℕ) → is_format label text ≡ true → IsFormat label (outline text (kept label text))
format_by_outline label text e = format_found label (outline text (kept label text)) (format_is_read label text ∙ e)

-- a FORMAT by its outline is one by its characters
pub format_by_characters : (label : ℕ) (text : List ℕ) → IsFormat label (outline text (kept label text)) → is_format label text ≡ true
format_by_characters label text f = sym (format_is_read label text) ∙ format_reads label (outline text (kept label text)) f
