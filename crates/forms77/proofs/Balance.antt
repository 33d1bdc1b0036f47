-- Each parenthesis in pieces of a form has its partner in them.
use Rattle.std.proofs.Common.{◌≡◌, ◌⊎◌, inl, inr, ℕ, zero, suc, ◌+◌, ◌-◌, Bool, true, false, not, ◌&&◌, ◌==◌, List, [], ◌∷◌, ◌++◌, map, Some, None, refl, sym, ap, ◌∙◌, subst, append_assoc, arith}
use Rattle.std.specs.Prelude.{if◌then◌else◌}
use Rattle.std.specs.List.{list_all}
use Rattle.std.proofs.lemmas.Bool.{and_parts, eqb-true}
use Rattle.std.proofs.lemmas.Bool.Decides.{nat_tests}
use Rattle.text_base.specs.Chars.{is_name_byte}
use Rattle.text_base.specs.Pieces.{Piece, plain, whole, broken}
use Rattle.tree77.specs.Kinds.{open_after}
use Rattle.tree77.specs.Lexemes.{Part}
use Rattle.tree77.specs.Forms.{Form, nothing, mark, word, name, label, numeral, number, format_text, portion, inside, both, choice, told, perhaps, repeated, seen, judged, refused, Repeats, repeats_none, repeats_more, Matches, ahead, is_in, stays}
use Rattle.forms77.specs.Goodness.{is_balanced}
use Rattle.forms77.proofs.Passing.{never_0, letters, figures, opens_nothing}
use Rattle.forms77.proofs.Starts.{label_is_number}

-- where so many parentheses are open, the pieces close the first
abbrev pub closes : ℕ → List Piece → Bool
closes n [] = false
closes n (plain c ∷ rest) = if open_after n c == 0 then true else closes (open_after n c) rest
closes n (whole t ∷ rest) = closes n rest
closes n (broken t ∷ rest) = closes n rest

abbrev closes_by : Bool → ℕ → List Piece → Bool
closes_by b k r = if b then true else closes k r

-- the pieces close what they open
abbrev pub Balanced : List Piece → Type 0
Balanced u = (m : ℕ) (r : List Piece) → closes (suc m) (u ++ r) ≡ closes (suc m) r

at_pieces : {a b : List Piece} → a ≡ b → Balanced b → Balanced a
at_pieces e is = subst Balanced (sym e) is

one_more : (c m : ℕ) (r : List Piece) → open_after (suc m) c ≡ suc m → closes (suc m) (plain c ∷ r) ≡ closes (suc m) r
one_more c m r same = ap (λ k. closes_by (k == 0) k r) same ∙ ap (λ b. closes_by b (suc m) r) (never_0 m)

text_balanced : (w : List ℕ) → list_all is_name_byte w ≡ true → Balanced (map plain w)
text_balanced [] all m r = refl
text_balanced (c ∷ w) all m r =
    let p = and_parts (is_name_byte c) (list_all is_name_byte w) all in
    one_more c m (map plain w ++ r) (opens_nothing c (suc m) p.0) ∙ text_balanced w p.1 m r

other_mark : (c n : ℕ) → (not (c == 40) && not (c == 41)) ≡ true → open_after n c ≡ n
other_mark c n is = go (c == 40) (c == 41) is
  where
    go : (a b : Bool) → (not a && not b) ≡ true → (if a then n + 1 else (if b then n - 1 else n)) ≡ n
    go true b e = absurd cc
    go false true e = absurd cc
    go false false e = refl

mark_balanced : (c : ℕ) → (not (c == 40) && not (c == 41)) ≡ true → Balanced (plain c ∷ [])
mark_balanced c is m r = one_more c m r (other_mark c (suc m) is)

then_balanced : (u v : List Piece) → Balanced u → Balanced v → Balanced (u ++ v)
then_balanced u v a b m r = ap (closes (suc m)) (append_assoc u v r) ∙ a m (v ++ r) ∙ b m r

suc_one : (m : ℕ) → suc m + 1 ≡ suc (suc m)
suc_one m = omega arith

suc_less : (m : ℕ) → suc (suc m) - 1 ≡ suc m
suc_less m = omega arith

inside_balanced : (v : List Piece) → Balanced v → Balanced (plain 40 ∷ (v ++ plain 41 ∷ []))
inside_balanced v is m r =
    ap (λ k. closes_by (k == 0) k ((v ++ plain 41 ∷ []) ++ r)) (suc_one m)
    ∙ ap (λ b. closes_by b (suc (suc m)) ((v ++ plain 41 ∷ []) ++ r)) (never_0 (suc m))
    ∙ ap (closes (suc (suc m))) (append_assoc v (plain 41 ∷ []) r)
    ∙ is (suc m) (plain 41 ∷ r)
    ∙ ap (λ k. closes_by (k == 0) k r) (suc_less m)
    ∙ ap (λ b. closes_by b (suc m) r) (never_0 m)

-- what stays open in an expression is closed in it
pub shifted : (n m c : ℕ) (marks : List ℕ) → is_in marks 41 ≡ true → (n == 0 && is_in marks c) ≡ false → open_after (n + suc m) c ≡ open_after n c + suc m
shifted n m c marks closing off = go (c == 40) (c == 41) refl
  where
    some : c ≡ 41 → (k : ℕ) → n ≡ k → n + suc m - 1 ≡ n - 1 + suc m
    some same zero none =
        let on : (true && true) ≡ false = ap (λ b. true && b) (sym closing) ∙ ap (λ k. true && is_in marks k) (sym same) ∙ ap (λ k. k == 0 && is_in marks c) (sym none) ∙ off in
        absurd cc
    some same (suc k) more = let e = more in omega (arith, e)

    go : (a b : Bool) → (c == 41) ≡ b → (if a then n + suc m + 1 else (if b then n + suc m - 1 else n + suc m)) ≡ (if a then n + 1 else (if b then n - 1 else n)) + suc m
    go true b e = omega arith
    go false true e = some (eqb-true c 41 e) n refl
    go false false e = refl

zero_more : (n : ℕ) → 0 + n ≡ n
zero_more n = omega arith

stays_closed : (marks : List ℕ) → is_in marks 41 ≡ true → (n : ℕ) (u : List Piece) → stays marks n u ≡ true → (m : ℕ) (r : List Piece) → closes (n + suc m) (u ++ r) ≡ closes (suc m) r
stays_closed marks closing n [] s m r = ap (λ k. closes (k + suc m) r) (eqb-true n 0 s) ∙ ap (λ k. closes k r) (zero_more (suc m))
stays_closed marks closing n (whole t ∷ u) s m r = stays_closed marks closing n u s m r
stays_closed marks closing n (broken t ∷ u) s m r = stays_closed marks closing n u s m r
stays_closed marks closing n (plain c ∷ u) s m r = go (n == 0 && is_in marks c) refl (λ s. stays_closed marks closing (open_after n c) u s m r) s
  where
    never : (k : ℕ) → (k + suc m == 0) ≡ false
    never k = grind (arith, nat_tests)

    go : (b : Bool) → (n == 0 && is_in marks c) ≡ b → (stays marks (open_after n c) u ≡ true → closes (open_after n c + suc m) (u ++ r) ≡ closes (suc m) r) → (if b then false else stays marks (open_after n c) u) ≡ true
        → closes (n + suc m) (plain c ∷ (u ++ r)) ≡ closes (suc m) r
    go true on more s = absurd cc
    go false off more s =
        ap (λ k. closes_by (k == 0) k (u ++ r)) (shifted n m c marks closing off) ∙ ap (λ b. closes_by b (open_after n c + suc m) (u ++ r)) (never (open_after n c)) ∙ more s

repeated_balanced : {A : Type 0} (One : List Piece → A → List Part → Type 0) → ((u : List Piece) (x : A) (ps : List Part) → One u x ps → Balanced u) → (u : List Piece) (xs : List A) (ps : List Part) → Repeats One u xs ps → Balanced u
repeated_balanced One one u xs ps (repeats_none none is parts) = at_pieces none (λ m r. refl)
repeated_balanced One one u xs ps (repeats_more {v = v} {w = w} {ys = ys} {qs = qs} {rs = rs} {x = x} front m more is parts) = at_pieces front (then_balanced v w (one v x qs m) (repeated_balanced One one w ys rs more))

pub balanced : {A : Type 0} (f : Form A) → is_balanced f ≡ true → (d : ℕ) (u : List Piece) (x : A) (ps : List Part) → Matches f d u x ps → Balanced u
balanced (nothing y) is d u x ps m = at_pieces m.0 (λ m r. refl)
balanced (mark c) is d u x ps m = at_pieces m.0 (mark_balanced c is)
balanced (word w) is d u x ps m = at_pieces m.0 (text_balanced w (letters w is))
balanced name is d u x ps m = at_pieces m.1 (text_balanced m.0 (letters m.0 m.2))
balanced label is d u x ps m = at_pieces m.1 (text_balanced m.0 (figures m.0 (label_is_number m.0 m.2)))
balanced numeral is d u x ps m = at_pieces m.0 (text_balanced x (figures x m.1))
balanced number is d u x ps m = at_pieces m.1 (text_balanced m.0 (figures m.0 m.2))
balanced format_text is d u x ps m = at_pieces m.0 (λ m r. refl)
balanced (portion strict marks) is d u x ps m = λ k r. ap (λ n. closes n (u ++ r)) (sym (zero_more (suc k))) ∙ stays_closed marks is 0 u m.2 k r
balanced (inside f) is d u x ps m = at_pieces m.2 (inside_balanced m.0 (balanced f is (d + 1) m.0 x m.1 m.3))
balanced (both f g) is d u x ps m =
    let p = and_parts (is_balanced f) (is_balanced g) is in
    at_pieces m.4 (then_balanced m.0 m.1 (balanced f p.0 d m.0 x.0 m.2 m.5) (balanced g p.1 d m.1 x.1 m.3 m.6))
balanced (choice ks f g) is d u x ps m =
    let p = and_parts (is_balanced f) (is_balanced g) is in
    go (balanced f p.0 d u x ps) (balanced g p.1 d u x ps) m
  where
    go : (Matches f d u x ps → Balanced u) → (Matches g d u x ps → Balanced u) → Matches f d u x ps ⊎ Matches g d u x ps → Balanced u
    go a b (inl m) = a m
    go a b (inr m) = b m
balanced (told look f g) is d u x ps m =
    let p = and_parts (is_balanced f) (is_balanced g) is in
    go (balanced f p.0 d u x ps) (balanced g p.1 d u x ps) m
  where
    go : (Matches f d u x ps → Balanced u) → (Matches g d u x ps → Balanced u) → ((ahead look u ≡ true) × Matches f d u x ps) ⊎ ((ahead look u ≡ false) × Matches g d u x ps) → Balanced u
    go a b (inl m) = a m.1
    go a b (inr m) = b m.1
balanced (perhaps c f) is d u x ps m =
    let p = and_parts (not (c == 40) && not (c == 41)) (is_balanced f) is in
    go (λ w y m. then_balanced (plain c ∷ []) w (mark_balanced c p.0) (balanced f p.1 d w y ps m)) m
  where
    go : ((w : List Piece) (y : _) → Matches f d w y ps → Balanced (plain c ∷ w)) → ((u ≡ []) × (x ≡ None) × (ps ≡ [])) ⊎ ((w : List Piece) × (y : _) × (u ≡ plain c ∷ w) × Matches f d w y ps × (x ≡ Some y)) → Balanced u
    go one (inl none) = at_pieces none.0 (λ m r. refl)
    go one (inr some) = at_pieces some.2 (one some.0 some.1 some.3)
balanced (repeated ks f) is d u x ps m = repeated_balanced (Matches f d) (balanced f is d) u x ps m
balanced (seen view f) is d u x ps m = balanced f is d u m.0 ps m.1
balanced (judged view f) is d u x ps m = balanced f is d u m.0 m.1 m.3
balanced (refused p f) is d u x ps m = balanced f is d u x m.0 m.1
