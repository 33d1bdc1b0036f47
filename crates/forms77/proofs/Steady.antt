-- What stands behind pieces doesn't change a look at them.
use Rattle.std.proofs.Common.{◌≡◌, ℕ, zero, suc, ◌+◌, ◌-◌, arith, Bool, true, false, not, ◌&&◌, ◌||◌, ◌==◌, List, [], ◌∷◌, ◌++◌, refl, sym, ap, ◌∙◌, append-nil}
use Rattle.std.specs.Prelude.{if◌then◌else◌}
use Rattle.std.specs.Str.{bytes_eq}
use Rattle.std.proofs.lemmas.Bool.{and_parts, eqb-true, not-true}
use Rattle.text_base.specs.Chars.{is_upper, is_digit, is_name_byte}
use Rattle.text_base.specs.Pieces.{Piece, plain, whole, broken}
use Rattle.tree77.specs.Kinds.{is_word, open_after}
use Rattle.tree77.specs.Tokens.{is_mark, StopsAt}
use Rattle.tree77.specs.Lexemes.{Part}
use Rattle.forms77.proofs.Marks.{each_mark}
use Rattle.tree77.specs.Forms.{sort_of, first_sort, is_in, passing, first_text, behind_first, Look, one, two, three, text, group, equated, equals_inside, Form, Matches, ahead}
use Rattle.forms77.specs.Goodness.{is_balanced, are_told, agree, look_stops, is_good_look}
use Rattle.forms77.proofs.Passing.{none_passes, never_0}
use Rattle.forms77.proofs.Balance.{closes, Balanced, balanced}
use Rattle.forms77.proofs.Sorts.{ends_name, ends_digits}

pub is_end : (v : List Piece) → (first_sort v == 0) ≡ true → v ≡ []
is_end [] is = refl
is_end (whole t ∷ rest) is = absurd cc
is_end (broken t ∷ rest) is = absurd cc
is_end (plain c ∷ rest) is = go (is_upper c) (is_digit c) (is_mark c) refl is
  where
    go : (upper digit marked : Bool) → is_mark c ≡ marked → ((if upper then 65 else (if digit then 48 else (if marked then c else 1))) == 0) ≡ true → plain c ∷ rest ≡ []
    go true digit marked m is = absurd cc
    go false true marked m is = absurd cc
    go false false true m is = let other : (c == 0) ≡ false = each_mark (λ k. k == 0) c refl refl refl refl refl refl refl refl refl refl m in absurd cc
    go false false false m is = absurd cc

-- `passing` at one character, by what the test answers, and with pieces behind
abbrev passing_by : Bool → ℕ → List Piece → List ℕ × List Piece → List ℕ × List Piece
passing_by b c u q = if b then (c ∷ q.0, q.1) else ([], plain c ∷ u)

abbrev followed : List Piece → List ℕ × List Piece → List ℕ × List Piece
followed v q = (q.0, q.1 ++ v)

passing_append : (test : ℕ → Bool) (u v : List Piece) → StopsAt test v → passing test (u ++ v) ≡ followed v (passing test u)
passing_append test [] v stop = none_passes test v stop
passing_append test (whole t ∷ u) v stop = refl
passing_append test (broken t ∷ u) v stop = refl
passing_append test (plain c ∷ u) v stop = go (test c) (passing_append test u v stop)
  where
    go : (b : Bool) → passing test (u ++ v) ≡ followed v (passing test u) → passing_by b c (u ++ v) (passing test (u ++ v)) ≡ followed v (passing_by b c u (passing test u))
    go true e = ap (λ (q : List ℕ × List Piece). passing_by true c (u ++ v) q) e
    go false e = refl

-- what stands behind one character
behind_append : (c : ℕ) (u v : List Piece) → StopsAt is_name_byte v → StopsAt is_digit v → behind_first (plain c ∷ (u ++ v)) ≡ behind_first (plain c ∷ u) ++ v
behind_append c u v name digits = go (is_upper c) (is_digit c)
  where
    go : (upper digit : Bool) → (if upper then (passing is_name_byte (u ++ v)).1 else (if digit then (passing is_digit (u ++ v)).1 else u ++ v))
        ≡ (if upper then (passing is_name_byte u).1 else (if digit then (passing is_digit u).1 else u)) ++ v
    go true digit = ap (λ (q : List ℕ × List Piece). q.1) (passing_append is_name_byte u v name)
    go false true = ap (λ (q : List ℕ × List Piece). q.1) (passing_append is_digit u v digits)
    go false false = refl

text_append : (c : ℕ) (u v : List Piece) → StopsAt is_name_byte v → first_text (plain c ∷ (u ++ v)) ≡ first_text (plain c ∷ u)
text_append c u v name = ap (λ t. if is_upper c then c ∷ t else []) (ap (λ (q : List ℕ × List Piece). q.0) (passing_append is_name_byte u v name))

-- one of some sorts stands first, or none does
sort_append : (ks : List ℕ) (r v : List Piece) → is_in ks (first_sort v) ≡ is_in ks 0 → is_in ks (first_sort (r ++ v)) ≡ is_in ks (first_sort r)
sort_append ks [] v same = same
sort_append ks (plain c ∷ r) v same = refl
sort_append ks (whole t ∷ r) v same = refl
sort_append ks (broken t ∷ r) v same = refl

agreed : (a b : Bool) → agree a b ≡ true → a ≡ b
agreed true b e = sym e
agreed false true e = e
agreed false false e = refl

no_digit : (k : ℕ) → not (is_in (65 ∷ 48 ∷ 1 ∷ []) k) ≡ true → not (k == 48) ≡ true
no_digit k e = go (k == 65) (k == 48) e
  where
    go : (a b : Bool) → not (a || (b || (k == 1 || false))) ≡ true → not b ≡ true
    go true b e = absurd cc
    go false true e = absurd cc
    go false false e = refl

no_letter : (v : List Piece) → not (is_in (65 ∷ 48 ∷ 1 ∷ []) (first_sort v)) ≡ true → first_text v ≡ []
no_letter [] e = refl
no_letter (whole t ∷ v) e = refl
no_letter (broken t ∷ v) e = refl
no_letter (plain c ∷ v) e = go (is_upper c) e
  where
    go : (b : Bool) → not (is_in (65 ∷ 48 ∷ 1 ∷ []) (if b then 65 else (if is_digit c then 48 else (if is_mark c then c else 1)))) ≡ true → (if b then c ∷ (passing is_name_byte v).0 else []) ≡ []
    go true e = absurd cc
    go false e = refl

not_both : (a b : Bool) → not a ≡ true → (a && b) ≡ false
not_both true b e = absurd cc
not_both false b e = refl

steady_two : (c : ℕ) (ks : List ℕ) (u v : List Piece) → not (0 == c) ≡ true → look_stops (two c ks) (first_sort v) ≡ true → ahead (two c ks) (u ++ v) ≡ ahead (two c ks) u
steady_two c ks u v good stop =
    let a = and_parts (not (first_sort v == c)) (not (is_in (65 ∷ 48 ∷ 1 ∷ []) (first_sort v)) && agree (is_in ks (first_sort v)) (is_in ks 0)) stop in
    let b = and_parts (not (is_in (65 ∷ 48 ∷ 1 ∷ []) (first_sort v))) (agree (is_in ks (first_sort v)) (is_in ks 0)) a.1 in
    let same = agreed (is_in ks (first_sort v)) (is_in ks 0) b.1 in
    go u a.0 (ends_name v b.0) (ends_digits v (no_digit (first_sort v) b.0)) same
  where
    go : (u : List Piece) → not (first_sort v == c) ≡ true → StopsAt is_name_byte v → StopsAt is_digit v → is_in ks (first_sort v) ≡ is_in ks 0 → ahead (two c ks) (u ++ v) ≡ ahead (two c ks) u
    go [] off name digits same = not_both (first_sort v == c) (is_in ks (first_sort (behind_first v))) off ∙ sym (not_both (0 == c) (is_in ks 0) good)
    go (plain x ∷ u) off name digits same = ap (λ b. sort_of x == c && b) (ap (λ r. is_in ks (first_sort r)) (behind_append x u v name digits) ∙ sort_append ks (behind_first (plain x ∷ u)) v same)
    go (whole t ∷ u) off name digits same = ap (λ b. 39 == c && b) (sort_append ks u v same)
    go (broken t ∷ u) off name digits same = ap (λ b. 1 == c && b) (sort_append ks u v same)

-- what stands first, where something else stands behind
same_first : (c : ℕ) (u v : List Piece) → not (0 == c) ≡ true → not (first_sort v == c) ≡ true → (first_sort (u ++ v) == c) ≡ (first_sort u == c)
same_first c [] v good off = not-true (first_sort v == c) off ∙ sym (not-true (0 == c) good)
same_first c (plain x ∷ u) v good off = refl
same_first c (whole t ∷ u) v good off = refl
same_first c (broken t ∷ u) v good off = refl

module _ (a b c : ℕ) (v : List Piece) (good : is_good_look (three a b c) ≡ true) (stop : look_stops (three a b c) (first_sort v) ≡ true) where
  abbrev goods : (not (0 == a) ≡ true) × (not (0 == b) ≡ true) × (not (0 == c) ≡ true)
  goods = let x = and_parts (not (0 == a)) (not (0 == b) && not (0 == c)) good in let y = and_parts (not (0 == b)) (not (0 == c)) x.1 in (x.0, y.0, y.1)

  abbrev offs : (not (first_sort v == a) ≡ true) × (not (first_sort v == b) ≡ true) × (not (first_sort v == c) ≡ true) × (not (is_in (65 ∷ 48 ∷ 1 ∷ []) (first_sort v)) ≡ true)
  offs =
      let w = and_parts (not (first_sort v == a) && (not (first_sort v == b) && not (first_sort v == c))) (not (is_in (65 ∷ 48 ∷ 1 ∷ []) (first_sort v))) stop in
      let x = and_parts (not (first_sort v == a)) (not (first_sort v == b) && not (first_sort v == c)) w.0 in
      let y = and_parts (not (first_sort v == b)) (not (first_sort v == c)) x.1 in
      (x.0, y.0, y.1, w.1)

  behind_is_behind : (x : ℕ) (u : List Piece) → behind_first (plain x ∷ (u ++ v)) ≡ behind_first (plain x ∷ u) ++ v
  behind_is_behind x u = behind_append x u v (ends_name v offs.3) (ends_digits v (no_digit (first_sort v) offs.3))

  second_and_third : (u : List Piece) → (first_sort (u ++ v) == b && first_sort (behind_first (u ++ v)) == c) ≡ (first_sort u == b && first_sort (behind_first u) == c)
  second_and_third [] = not_both (first_sort v == b) (first_sort (behind_first v) == c) offs.1 ∙ sym (not_both (0 == b) (0 == c) goods.1)
  second_and_third (plain x ∷ u) =
      ap (λ z. sort_of x == b && first_sort z == c) (behind_is_behind x u) ∙ ap (λ z. sort_of x == b && z) (same_first c (behind_first (plain x ∷ u)) v goods.2 offs.2)
  second_and_third (whole t ∷ u) = ap (λ z. 39 == b && z) (same_first c u v goods.2 offs.2)
  second_and_third (broken t ∷ u) = ap (λ z. 1 == b && z) (same_first c u v goods.2 offs.2)

  steady_three : (u : List Piece) → ahead (three a b c) (u ++ v) ≡ ahead (three a b c) u
  steady_three [] = not_both (first_sort v == a) (first_sort (behind_first v) == b && first_sort (behind_first (behind_first v)) == c) offs.0 ∙ sym (not_both (0 == a) (0 == b && 0 == c) goods.0)
  steady_three (plain x ∷ u) =
      ap (λ z. sort_of x == a && (first_sort z == b && first_sort (behind_first z) == c)) (behind_is_behind x u) ∙ ap (λ z. sort_of x == a && z) (second_and_third (behind_first (plain x ∷ u)))
  steady_three (whole t ∷ u) = ap (λ z. 39 == a && z) (second_and_third u)
  steady_three (broken t ∷ u) = ap (λ z. 1 == a && z) (second_and_third u)

no_text : (w : List ℕ) → is_word w ≡ true → bytes_eq [] w ≡ false
no_text [] e = absurd cc
no_text (c ∷ w) e = refl

steady_text : (w ks : List ℕ) (u v : List Piece) → is_word w ≡ true → look_stops (text w ks) (first_sort v) ≡ true → ahead (text w ks) (u ++ v) ≡ ahead (text w ks) u
steady_text w ks u v good stop =
    let b = and_parts (not (is_in (65 ∷ 48 ∷ 1 ∷ []) (first_sort v))) (agree (is_in ks (first_sort v)) (is_in ks 0)) stop in
    let same = agreed (is_in ks (first_sort v)) (is_in ks 0) b.1 in
    go u (no_letter v b.0) (ends_name v b.0) (ends_digits v (no_digit (first_sort v) b.0)) same
  where
    none : (x : List ℕ) (b : Bool) → x ≡ [] → (bytes_eq x w && b) ≡ false
    none x b e = ap (λ y. bytes_eq y w && b) e ∙ ap (λ a. a && b) (no_text w good)

    go : (u : List Piece) → first_text v ≡ [] → StopsAt is_name_byte v → StopsAt is_digit v → is_in ks (first_sort v) ≡ is_in ks 0 → ahead (text w ks) (u ++ v) ≡ ahead (text w ks) u
    go [] off name digits same = none (first_text v) (is_in ks (first_sort (behind_first v))) off ∙ sym (none [] (is_in ks 0) refl)
    go (plain x ∷ u) off name digits same =
        ap (λ t. bytes_eq t w && is_in ks (first_sort (behind_first (plain x ∷ (u ++ v))))) (text_append x u v name)
        ∙ ap (λ b. bytes_eq (first_text (plain x ∷ u)) w && b) (ap (λ r. is_in ks (first_sort r)) (behind_append x u v name digits) ∙ sort_append ks (behind_first (plain x ∷ u)) v same)
    go (whole t ∷ u) off name digits same = none [] (is_in ks (first_sort (u ++ v))) refl ∙ sym (none [] (is_in ks (first_sort u)) refl)
    go (broken t ∷ u) off name digits same = none [] (is_in ks (first_sort (u ++ v))) refl ∙ sym (none [] (is_in ks (first_sort u)) refl)

-- ---- an equals sign in parentheses

-- the parenthesis that stands first is closed
abbrev pub ClosesFirst : Look → List Piece → Type 0
ClosesFirst equated u = first_sort u == 40 ≡ true → closes 0 u ≡ true
ClosesFirst _ u = Unit {0}

-- what closes with one more open closes
one_less : (m : ℕ) (z : List Piece) → closes (suc (suc m)) (z ++ plain 41 ∷ []) ≡ true → closes (suc m) z ≡ true
one_less m [] e =
    let off : false ≡ true = sym (ap (λ k. if k == 0 then true else closes k []) (less m) ∙ ap (λ b. if b then true else closes (suc m) []) (never_0 m)) ∙ e in
    absurd cc
  where
    less : (m : ℕ) → suc (suc m) - 1 ≡ suc m
    less m = omega arith
one_less m (whole t ∷ z) e = one_less m z e
one_less m (broken t ∷ z) e = one_less m z e
one_less m (plain c ∷ z) e = go (open_after (suc m) c) refl (λ k. one_less k z) e
  where
    more : (c m : ℕ) → open_after (suc (suc m)) c ≡ open_after (suc m) c + 1
    more c m = by (c == 40) (c == 41)
      where
        by : (a b : Bool) → (if a then suc (suc m) + 1 else (if b then suc (suc m) - 1 else suc (suc m))) ≡ (if a then suc m + 1 else (if b then suc m - 1 else suc m)) + 1
        by true b = omega arith
        by false true = omega arith
        by false false = omega arith

    plus : (k : ℕ) → k + 1 ≡ suc k
    plus k = omega arith

    go : (k : ℕ) → open_after (suc m) c ≡ k → ((j : ℕ) → closes (suc (suc j)) (z ++ plain 41 ∷ []) ≡ true → closes (suc j) z ≡ true) → (if open_after (suc (suc m)) c == 0 then true else closes (open_after (suc (suc m)) c) (z ++ plain 41 ∷ [])) ≡ true
        → (if open_after (suc m) c == 0 then true else closes (open_after (suc m) c) z) ≡ true
    go zero is further e = ap (λ k. if k == 0 then true else closes k z) is
    go (suc k) is further e =
        let up : open_after (suc (suc m)) c ≡ suc (suc k) = more c m ∙ ap (λ n. n + 1) is ∙ plus (suc k) in
        let deep : closes (suc (suc k)) (z ++ plain 41 ∷ []) ≡ true = sym (ap (λ n. if n == 0 then true else closes n (z ++ plain 41 ∷ [])) up ∙ ap (λ b. if b then true else closes (suc (suc k)) (z ++ plain 41 ∷ [])) (never_0 (suc k))) ∙ e in
        ap (λ n. if n == 0 then true else closes n z) is ∙ ap (λ b. if b then true else closes (suc k) z) (never_0 k) ∙ further k deep

only_opening : (c : ℕ) → sort_of c == 40 ≡ true → c ≡ 40
only_opening c e = go (is_upper c) (is_digit c) (is_mark c) e
  where
    go : (upper digit marked : Bool) → (if upper then 65 else (if digit then 48 else (if marked then c else 1))) == 40 ≡ true → c ≡ 40
    go true digit marked e = absurd cc
    go false true marked e = absurd cc
    go false false true e = eqb-true c 40 e
    go false false false e = absurd cc

is_closed : (u : List Piece) → Balanced u → first_sort u == 40 ≡ true → closes 0 u ≡ true
is_closed [] is first = absurd cc
is_closed (whole t ∷ u) is first = absurd cc
is_closed (broken t ∷ u) is first = absurd cc
is_closed (plain c ∷ u) is first =
    let same = only_opening c first in
    let again : closes 2 (u ++ plain 41 ∷ []) ≡ true = ap (λ k. closes 1 (plain k ∷ (u ++ plain 41 ∷ []))) (sym same) ∙ is 0 (plain 41 ∷ []) in
    ap (λ k. closes 0 (plain k ∷ u)) same ∙ one_less 0 u again

closed_by : (look : Look) (u : List Piece) → (look ≡ equated → Balanced u) → ClosesFirst look u
closed_by (one ks) u is = tt
closed_by (two k ks) u is = tt
closed_by (three a b c) u is = tt
closed_by (text w ks) u is = tt
closed_by (group ks) u is = tt
closed_by equated u is = is_closed u (is refl)

are_balanced : {A : Type 0} (look : Look) (f g : Form A) → are_told look f g ≡ true → look ≡ equated → (is_balanced f ≡ true) × (is_balanced g ≡ true)
are_balanced look f g told same = and_parts (is_balanced f) (is_balanced g) (ap (λ l. are_told l f g) (sym same) ∙ told)

-- so it is in pieces of two forms that can be told
pub first_closed : {A : Type 0} (look : Look) (f g : Form A) → are_told look f g ≡ true → (d : ℕ) (u : List Piece) (x : A) (ps : List Part) → Matches f d u x ps → ClosesFirst look u
first_closed look f g told d u x ps m = closed_by look u (λ same. balanced f (are_balanced look f g told same).0 d u x ps m)

pub second_closed : {A : Type 0} (look : Look) (f g : Form A) → are_told look f g ≡ true → (d : ℕ) (u : List Piece) (x : A) (ps : List Part) → Matches g d u x ps → ClosesFirst look u
second_closed look f g told d u x ps m = closed_by look u (λ same. balanced g (are_balanced look f g told same).1 d u x ps m)

same_equals : (n : ℕ) (u v : List Piece) → closes n u ≡ true → equals_inside n (u ++ v) ≡ equals_inside n u
same_equals n [] v e = absurd cc
same_equals n (whole t ∷ u) v e = same_equals n u v e
same_equals n (broken t ∷ u) v e = same_equals n u v e
same_equals n (plain c ∷ u) v e = go (open_after n c == 0) (same_equals (open_after n c) u v) e
  where
    go : (b : Bool) → (closes (open_after n c) u ≡ true → equals_inside (open_after n c) (u ++ v) ≡ equals_inside (open_after n c) u) → (if b then true else closes (open_after n c) u) ≡ true
        → (if b then false else ((n == 1 && c == 61) || equals_inside (open_after n c) (u ++ v))) ≡ (if b then false else ((n == 1 && c == 61) || equals_inside (open_after n c) u))
    go true more e = refl
    go false more e = ap (λ b. (n == 1 && c == 61) || b) (more e)

steady_equated : (u v : List Piece) → ClosesFirst equated u → not (first_sort v == 40) ≡ true → ahead equated (u ++ v) ≡ ahead equated u
steady_equated [] v closed off = not_both (first_sort v == 40) (equals_inside 0 v) off
steady_equated (whole t ∷ u) v closed off = refl
steady_equated (broken t ∷ u) v closed off = refl
steady_equated (plain c ∷ u) v closed off = go (sort_of c == 40) refl
  where
    go : (b : Bool) → sort_of c == 40 ≡ b → (sort_of c == 40 && equals_inside 0 (plain c ∷ (u ++ v))) ≡ (sort_of c == 40 && equals_inside 0 (plain c ∷ u))
    go false e = ap (λ b. b && equals_inside 0 (plain c ∷ (u ++ v))) e ∙ sym (ap (λ b. b && equals_inside 0 (plain c ∷ u)) e)
    go true e = ap (λ b. sort_of c == 40 && b) (same_equals 0 (plain c ∷ u) v (closed e))

pub steady : (look : Look) (u v : List Piece) → is_good_look look ≡ true → ClosesFirst look u → look_stops look (first_sort v) ≡ true → ahead look (u ++ v) ≡ ahead look u
steady (one ks) u v good closed stop = sort_append ks u v (agreed (is_in ks (first_sort v)) (is_in ks 0) stop)
steady (two c ks) u v good closed stop = steady_two c ks u v good stop
steady (three a b c) u v good closed stop = steady_three a b c v good stop u
steady (text w ks) u v good closed stop = steady_text w ks u v good stop
steady (group ks) u v good closed stop = ap (ahead (group ks)) (ap (λ y. u ++ y) (is_end v stop) ∙ append-nil u)
steady equated u v good closed stop = steady_equated u v closed stop
