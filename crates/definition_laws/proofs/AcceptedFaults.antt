-- When a line has no fault.
use Rattle.std.proofs.Common.{◌≡◌, ◌≢◌, ◌↔◌, ◌∙◌, sym, refl, ℕ, ◌+◌, ◌≤◌, Bool, true, false, not, cond, ◌&&◌, ◌||◌, List, [], ◌∷◌, ◌++◌, length, drop, Option, Some, None, arith}
use Rattle.std.specs.Prelude.{◌==◌, nat_lt, if◌then◌else◌}
use Rattle.std.specs.List.{list_all, position_from, zip}
use Rattle.std.specs.Option.{option_or}
use Rattle.std.proofs.lemmas.Bool.{ltb-false, le-ltb, eqb-false, ne_eqb}
use Rattle.text_base.specs.Chars.{is_digit}
use Rattle.text_base.specs.Kept.{Scan, scan_start, scan_after, mark_of, marks_from, scan_all}
use Rattle.text_base.specs.Lines.{is_blank, column_6, label_field, label_of, statement_field}
use Rattle.text_base.specs.LineRefusals.{Begun, begun_by, long_fault, column_fault, label_fault, is_bad, character_fault, initial_fault, place_fault, continuation_fault}
use Rattle.text_base.specs.declared.limits.TheConstants.{LONGEST_LINE, MOST_CONTINUED}
use Rattle.text_base.specs.declared.refusal.Cause.{Cause}
use Rattle.definition_laws.specs.AcceptedLines.{CanStand, HasLabel}

-- ---- facts both ways

pub after : {A B C : Type 0} → A ↔ B → B ↔ C → A ↔ C
after f g = (λ a. g.0 (f.0 a), λ c. f.1 (g.1 c))

pub beside : {A B C D : Type 0} → A ↔ B → C ↔ D → (A × C) ↔ (B × D)
beside f g = (λ h. (f.0 h.0, g.0 h.1), λ h. (f.1 h.0, g.1 h.1))

pub along : {A : Type 0} {x y z : A} → x ≡ y → (x ≡ z) ↔ (y ≡ z)
along e = (λ f. sym e ∙ f, λ f. e ∙ f)

-- ---- no fault

no_either : {A : Type 0} (o p : Option A) → (option_or o p ≡ None) ↔ ((o ≡ None) × (p ≡ None))
no_either None p = (λ e. (refl, e), λ h. h.1)
no_either (Some x) p = (λ e. absurd cc, λ h. absurd cc)

no_column : (cause : Cause) (o : Option ℕ) → (column_fault cause o ≡ None) ↔ (o ≡ None)
no_column cause None = (λ e. refl, λ e. refl)
no_column cause (Some k) = (λ e. absurd cc, λ e. absurd cc)

no_first : {A : Type 0} (b : Bool) (x : A) (o : Option A) → ((if b then Some x else o) ≡ None) ↔ ((b ≡ false) × (o ≡ None))
no_first true x o = (λ e. absurd cc, λ h. absurd cc)
no_first false x o = (λ e. (refl, e), λ h. h.1)

-- no item fails the test
none_fails : (p : ℕ → Bool) (n : ℕ) (xs : List ℕ) → (position_from (λ c. not (p c)) n xs ≡ None) ↔ (list_all p xs ≡ true)
none_fails p n [] = (λ e. refl, λ e. refl)
none_fails p n (x ∷ xs) = go (p x) (none_fails p (n + 1) xs)
  where
    go : (b : Bool) → (position_from (λ c. not (p c)) (n + 1) xs ≡ None) ↔ (list_all p xs ≡ true)
        → (cond (not b) (Some n) (position_from (λ c. not (p c)) (n + 1) xs) ≡ None) ↔ ((b && list_all p xs) ≡ true)
    go true more = more
    go false more = (λ e. absurd cc, λ e. absurd cc)

-- ---- characters

can_stand : (c mark : ℕ) → (is_bad c mark ≡ false) ↔ CanStand c mark
can_stand c mark = (λ e. (grind (arith, e), grind (arith, e), grind (arith, e)), λ h. grind (arith, h))

-- the characters of a text can stand where it follows others
abbrev pub Stand : Scan → List ℕ → Type 0
Stand s [] = Unit {0}
Stand s (c ∷ t) = CanStand c (mark_of s c) × Stand (scan_after s c) t

pub stand_append : (s : Scan) (t u : List ℕ) → Stand s (t ++ u) ↔ (Stand s t × Stand (scan_all s t) u)
stand_append s [] u = (λ h. (tt, h), λ h. h.1)
stand_append s (c ∷ t) u = let more = stand_append (scan_after s c) t u in (λ h. let r = more.0 h.1 in ((h.0, r.0), r.1), λ h. (h.0.0, more.1 (h.0.1, h.1)))

none_bad : (s : Scan) (n : ℕ) (t : List ℕ) → (position_from (λ p. is_bad p.0 p.1) n (zip t (marks_from s t)) ≡ None) ↔ Stand s t
none_bad s n [] = (λ e. tt, λ h. refl)
none_bad s n (c ∷ t) = after (no_first (is_bad c (mark_of s c)) n _) (beside (can_stand c (mark_of s c)) (none_bad (scan_after s c) (n + 1) t))

-- the marks of what follows some characters are those from where the characters end
marks_behind : (s : Scan) (t u : List ℕ) → drop (length t) (marks_from s (t ++ u)) ≡ marks_from (scan_all s t) u
marks_behind s [] u = refl
marks_behind s (c ∷ t) u = marks_behind (scan_after s c) t u

pub scan_append : (s : Scan) (t u : List ℕ) → scan_all s (t ++ u) ≡ scan_all (scan_all s t) u
scan_append s [] u = refl
scan_append s (c ∷ t) u = scan_append (scan_after s c) t u

-- columns 6 to 72 of a line after some lines of its statement
abbrev pub IsText : Begun → List ℕ → Type 0
IsText b l = CanStand (column_6 l) 0 × Stand (scan_all (scan_start b.label) b.text) (statement_field l)

text_fault : (b : Begun) (l : List ℕ) → (character_fault b l ≡ None) ↔ IsText b l
text_fault b l =
    rw (marks_behind (scan_start b.label) b.text (statement_field l))
    (after (no_column _ _) (after (no_first _ _ _) (beside (can_stand (column_6 l) 0) (none_bad (scan_all (scan_start b.label) b.text) 7 (statement_field l)))))

-- ---- lines

pub long_line : (l : List ℕ) → (long_fault l ≡ None) ↔ (length l ≤ LONGEST_LINE)
long_line l = after (no_first (nat_lt LONGEST_LINE (length l)) _ None) (λ h. ltb-false _ _ h.0, λ le. (le-ltb _ _ le, refl))

zero : (column : ℕ) (blank : Bool) (label : ℕ) → (cond (not blank && label == 0) (Some column) None ≡ None) ↔ (label ≡ 0 → blank ≡ true)
zero column true label = (λ e z. refl, λ h. refl)
zero column false label = (λ e z. grind (arith, e, z), λ h. grind (arith, h))

label_line : (l : List ℕ) → (label_fault l ≡ None) ↔ HasLabel l
label_line l = after (no_column _ _) (after (no_either _ _) (beside (none_fails (λ c. c == 32 || is_digit c) 1 (label_field l)) (zero 1 (is_blank (label_field l)) (label_of l))))

pub initial_line : (l : List ℕ) → (initial_fault l ≡ None) ↔ ((length l ≤ LONGEST_LINE) × (HasLabel l × IsText (begun_by l) l))
initial_line l = after (no_either _ _) (beside (long_line l) (after (no_either _ _) (beside (label_line l) (text_fault (begun_by l) l))))

place : (b : Begun) (l : List ℕ) → (place_fault (Some b) l ≡ None) ↔ ((b.continued ≢ MOST_CONTINUED) × IsText b l)
place b l = after (no_first _ _ _) (beside (λ e. eqb-false _ _ e, λ ne. ne_eqb _ _ ne) (text_fault b l))

pub continuation_line : (b : Begun) (l : List ℕ)
    → (continuation_fault (Some b) l ≡ None) ↔ ((length l ≤ LONGEST_LINE) × ((is_blank (label_field l) ≡ true) × ((b.continued ≢ MOST_CONTINUED) × IsText b l)))
continuation_line b l =
    after (no_either _ _) (beside (long_line l) (after (no_either _ _) (beside (after (no_column _ _) (none_fails (λ c. c == 32) 1 (label_field l))) (place b l))))

some≢none : {A : Type 0} {x : A} → Some x ≡ None → ⊥
some≢none e = absurd cc

pub unbegun_line : (l : List ℕ) → continuation_fault None l ≡ None → ⊥
unbegun_line l e = let last = (no_either _ (place_fault None l)).0 ((no_either (long_fault l) _).0 e).1 in some≢none last.1
