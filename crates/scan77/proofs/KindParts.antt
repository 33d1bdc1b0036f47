-- Parts of a statement: what the functions that read them leave, and what stands before that.
use Rattle.std.proofs.Common.{◌≡◌, ◌≢◌, ℕ, zero, suc, ◌+◌, ◌-◌, Bool, true, false, ◌&&◌, List, [], ◌∷◌, ◌++◌, Some, None, refl, sym, ap, ◌∙◌, subst, arith, append_assoc}
use Rattle.std.specs.Prelude.{◌==◌, if◌then◌else◌}
use Rattle.std.specs.List.{list_all}
use Rattle.std.proofs.lemmas.Bool.{and_parts, and_from, eqb-true, eq-eqb, ne_eqb, eqb-false, false_from_ne_true}
use Rattle.text_base.specs.Chars.{is_upper, is_digit, is_name_byte}
use Rattle.text_base.proofs.CharTests.{digit_is_no_letter}
use Rattle.tree77.specs.Kinds.{is_word, is_number, open_after, open_at_end, IsBalanced, balanced_nothing, balanced_other, balanced_group, IsGroup}
use Rattle.scan77.specs.KindReading.{behind_text, behind_all, behind_name, behind_number, behind_close, behind_group, has_comma}

-- what is left is known further
pub goes_on : (front : List ℕ) {text rest more : List ℕ} → text ≡ front ++ rest → rest ≡ more → text ≡ front ++ more
goes_on front whole further = whole ∙ ap (λ (x : List ℕ). front ++ x) further

-- ---- words

pub behind_text_is : (word rest : List ℕ) → behind_text word (word ++ rest) ≡ Some rest
behind_text_is [] rest = refl
behind_text_is (d ∷ word) rest = ap (λ b. if b then behind_text word (word ++ rest) else None) (eq-eqb d d refl) ∙ behind_text_is word rest

pub text_stands : (word text rest : List ℕ) → behind_text word text ≡ Some rest → text ≡ word ++ rest
text_stands [] text rest e = cc
text_stands (d ∷ word) [] rest e = absurd cc
text_stands (d ∷ word) (c ∷ text) rest e = go (c == d) refl e (text_stands word text rest)
  where
    go : (b : Bool) → (c == d) ≡ b → (if b then behind_text word text else None) ≡ Some rest → (behind_text word text ≡ Some rest → text ≡ word ++ rest) → c ∷ text ≡ d ∷ (word ++ rest)
    go true is e more = let same = eqb-true c d is in let whole = more e in cc
    go false is e more = absurd cc

-- ---- characters that pass

-- no more of them stand here
abbrev pub Ends : (ℕ → Bool) → List ℕ → Type 0
Ends test [] = Unit {0}
Ends test (c ∷ rest) = test c ≡ false

-- a front that passes, and what is left
pub record Cut (test : List ℕ → Bool) (text rest : List ℕ) : Type 0 where
  pub front : List ℕ
  pub whole : text ≡ front ++ rest
  pub passing : test front ≡ true

behind_all_is : (test : ℕ → Bool) (front rest : List ℕ) → list_all test front ≡ true → Ends test rest → behind_all test (front ++ rest) ≡ rest
behind_all_is test [] [] all ends = refl
behind_all_is test [] (c ∷ rest) all ends = ap (λ b. if b then behind_all test rest else c ∷ rest) ends
behind_all_is test (c ∷ front) rest all ends =
    let parts = and_parts (test c) (list_all test front) all in
    ap (λ b. if b then behind_all test (front ++ rest) else c ∷ (front ++ rest)) parts.0 ∙ behind_all_is test front rest parts.1 ends

all_stand : (test : ℕ → Bool) (text : List ℕ) → Cut (list_all test) text (behind_all test text)
all_stand test [] = record { front = []; whole = refl; passing = refl }
all_stand test (c ∷ text) = go (test c) refl (all_stand test text)
  where
    go : (b : Bool) → test c ≡ b → Cut (list_all test) text (behind_all test text) → Cut (list_all test) (c ∷ text) (if b then behind_all test text else c ∷ text)
    go true is cut = record { front = c ∷ cut.front; whole = ap (λ (x : List ℕ). c ∷ x) cut.whole; passing = and_from (test c) (list_all test cut.front) is cut.passing }
    go false is cut = record { front = []; whole = refl; passing = refl }

-- a first character that passes one test, and then all that pass another
behind_first : (first test : ℕ → Bool) (c : ℕ) (front rest : List ℕ) → (first c && list_all test front) ≡ true → Ends test rest
    → (if first c then Some (behind_all test (front ++ rest)) else None) ≡ Some rest
behind_first first test c front rest e ends =
    let parts = and_parts (first c) (list_all test front) e in
    ap (λ b. if b then Some (behind_all test (front ++ rest)) else None) parts.0 ∙ ap Some (behind_all_is test front rest parts.1 ends)

first_stands : (first test : ℕ → Bool) (c : ℕ) (text rest : List ℕ) → (if first c then Some (behind_all test text) else None) ≡ Some rest
    → (front : List ℕ) × (c ∷ text ≡ c ∷ (front ++ rest)) × ((first c && list_all test front) ≡ true)
first_stands first test c text rest e = go (first c) refl e (all_stand test text)
  where
    go : (b : Bool) → first c ≡ b → (if b then Some (behind_all test text) else None) ≡ Some rest → Cut (list_all test) text (behind_all test text)
        → (front : List ℕ) × (c ∷ text ≡ c ∷ (front ++ rest)) × ((first c && list_all test front) ≡ true)
    go true is e cut =
        let same : behind_all test text ≡ rest = cc in
        (cut.front, ap (λ (x : List ℕ). c ∷ x) (goes_on cut.front cut.whole same), and_from (first c) (list_all test cut.front) is cut.passing)
    go false is e cut = absurd cc

pub behind_name_is : (name rest : List ℕ) → is_word name ≡ true → Ends is_name_byte rest → behind_name (name ++ rest) ≡ Some rest
behind_name_is [] rest named ends = absurd cc
behind_name_is (c ∷ name) rest named ends = behind_first is_upper is_name_byte c name rest named ends

pub name_stands : (text rest : List ℕ) → behind_name text ≡ Some rest → Cut is_word text rest
name_stands [] rest e = absurd cc
name_stands (c ∷ text) rest e = let cut = first_stands is_upper is_name_byte c text rest e in record { front = c ∷ cut.0; whole = cut.1; passing = cut.2 }

pub behind_number_is : (digits rest : List ℕ) → is_number digits ≡ true → Ends is_digit rest → behind_number (digits ++ rest) ≡ Some rest
behind_number_is [] rest named ends = absurd cc
behind_number_is (c ∷ digits) rest named ends = behind_first is_digit is_digit c digits rest named ends

pub number_stands : (text rest : List ℕ) → behind_number text ≡ Some rest → Cut is_number text rest
number_stands [] rest e = absurd cc
number_stands (c ∷ text) rest e = let cut = first_stands is_digit is_digit c text rest e in record { front = c ∷ cut.0; whole = cut.1; passing = cut.2 }

-- ---- letters

abbrev pub BeginsWithLetter : List ℕ → Type 0
BeginsWithLetter [] = ⊥
BeginsWithLetter (c ∷ rest) = is_upper c ≡ true

pub letter_is_not : (c d : ℕ) → is_upper c ≡ true → is_upper d ≡ false → (c == d) ≡ false
letter_is_not c d upper other = ne_eqb c d (λ e. let same = ap is_upper e in cc)

pub word_letter : (word rest : List ℕ) → is_word word ≡ true → BeginsWithLetter (word ++ rest)
word_letter [] rest e = absurd cc
word_letter (c ∷ word) rest e = (and_parts (is_upper c) (list_all is_name_byte word) e).0

pub letter_ends_digits : (rest : List ℕ) → BeginsWithLetter rest → Ends is_digit rest
letter_ends_digits [] letter = tt
letter_ends_digits (c ∷ rest) letter = false_from_ne_true (is_digit c) (λ digit. digit_is_no_letter c digit letter)

-- ---- parentheses

open_other : (n c : ℕ) → c ≢ 40 → c ≢ 41 → open_after n c ≡ n
open_other n c no40 no41 = ap (λ b. if b then n + 1 else (if c == 41 then n - 1 else n)) (ne_eqb c 40 no40) ∙ ap (λ b. if b then n - 1 else n) (ne_eqb c 41 no41)

close_other : (n c : ℕ) (text : List ℕ) → c ≢ 40 → c ≢ 41 → behind_close n (c ∷ text) ≡ behind_close n text
close_other n c text no40 no41 =
    ap (λ b. if b && n == 0 then Some text else behind_close (open_after n c) text) (ne_eqb c 41 no41)
    ∙ ap (λ k. behind_close k text) (open_other n c no40 no41)

close_one : (n : ℕ) (text : List ℕ) → behind_close (n + 1) (41 ∷ text) ≡ behind_close n text
close_one n text =
    ap (λ b. if b then Some text else behind_close (n + 1 - 1) text) (ne_eqb (n + 1) 0 (λ e. omega arith))
    ∙ (let same : n + 1 - 1 ≡ n = omega arith in ap (λ k. behind_close k text) same)

-- balanced text closes nothing
close_goes_on : (text rest : List ℕ) → IsBalanced text → (n : ℕ) → behind_close n (text ++ rest) ≡ behind_close n rest
close_goes_on text rest (balanced_nothing e) n = ap (λ x. behind_close n (x ++ rest)) e
close_goes_on text rest (balanced_other {more = more} c e no40 no41 follows) n =
    ap (λ x. behind_close n (x ++ rest)) e ∙ close_other n c (more ++ rest) no40 no41 ∙ close_goes_on more rest follows n
close_goes_on text rest (balanced_group {inside = inside} {more = more} e balanced follows) n =
    ap (λ x. behind_close n (x ++ rest)) e
    ∙ ap (behind_close (n + 1)) (append_assoc inside (41 ∷ more) rest)
    ∙ close_goes_on inside (41 ∷ (more ++ rest)) balanced (n + 1)
    ∙ close_one n (more ++ rest)
    ∙ close_goes_on more rest follows n

pub behind_group_is : (group rest : List ℕ) → IsGroup group → behind_group (group ++ rest) ≡ Some rest
behind_group_is group rest g =
    ap (λ x. behind_group (x ++ rest)) g.whole
    ∙ ap (behind_close 0) (append_assoc g.inside (41 ∷ []) rest)
    ∙ close_goes_on g.inside (41 ∷ rest) g.balanced 0

-- balanced text, a parenthesis that closes, and what comes then
record Closed (text : List ℕ) (Then : List ℕ → Type 0) : Type 0 where
  front : List ℕ
  more : List ℕ
  whole : text ≡ front ++ 41 ∷ more
  balanced : IsBalanced front
  after : Then more

-- so many more of these, and the rest
abbrev After : ℕ → List ℕ → List ℕ → Type 0
After zero rest text = text ≡ rest
After (suc n) rest text = Closed text (After n rest)

closed_other : (c : ℕ) (text : List ℕ) (Then : List ℕ → Type 0) → c ≢ 40 → c ≢ 41 → Closed text Then → Closed (c ∷ text) Then
closed_other c text Then no40 no41 closed =
    record { front = c ∷ closed.front; more = closed.more; whole = ap (λ (x : List ℕ). c ∷ x) closed.whole; balanced = balanced_other c refl no40 no41 closed.balanced; after = closed.after }

closed_group : (text : List ℕ) (Then : List ℕ → Type 0) → Closed text (λ more. Closed more Then) → Closed (40 ∷ text) Then
closed_group text Then closed =
    let next = closed.after in
    record {
      front = 40 ∷ (closed.front ++ 41 ∷ next.front);
      more = next.more;
      whole = ap (λ (x : List ℕ). 40 ∷ x) (closed.whole ∙ ap (λ (x : List ℕ). closed.front ++ 41 ∷ x) next.whole ∙ sym (append_assoc closed.front (41 ∷ next.front) (41 ∷ next.more)));
      balanced = balanced_group refl closed.balanced next.balanced;
      after = next.after;
    }

closed_here : (n : ℕ) (text rest : List ℕ) → behind_close n (41 ∷ text) ≡ Some rest → ((k : ℕ) → behind_close k text ≡ Some rest → Closed text (After k rest)) → Closed (41 ∷ text) (After n rest)
closed_here zero text rest e more = let same : text ≡ rest = cc in record { front = []; more = text; whole = refl; balanced = balanced_nothing refl; after = same }
closed_here (suc n) text rest e more =
    let one : suc n ≡ n + 1 = omega arith in
    let inner : behind_close n text ≡ Some rest = sym (ap (λ k. behind_close k (41 ∷ text)) one ∙ close_one n text) ∙ e in
    record { front = []; more = text; whole = refl; balanced = balanced_nothing refl; after = more n inner }

close_stands : (n : ℕ) (text rest : List ℕ) → behind_close n text ≡ Some rest → Closed text (After n rest)
close_stands n [] rest e = absurd cc
close_stands n (c ∷ text) rest e = first (c == 40) refl (λ k f. close_stands k text rest f)
  where
    second : (b : Bool) → (c == 41) ≡ b → c ≢ 40 → ((k : ℕ) → behind_close k text ≡ Some rest → Closed text (After k rest)) → Closed (c ∷ text) (After n rest)
    second true is no40 more =
        let same = eqb-true c 41 is in
        subst (λ d. Closed (d ∷ text) (After n rest)) (sym same) (closed_here n text rest (ap (λ d. behind_close n (d ∷ text)) (sym same) ∙ e) more)
    second false is no40 more =
        let no41 = eqb-false c 41 is in
        closed_other c text (After n rest) no40 no41 (more n (sym (close_other n c text no40 no41) ∙ e))

    first : (b : Bool) → (c == 40) ≡ b → ((k : ℕ) → behind_close k text ≡ Some rest → Closed text (After k rest)) → Closed (c ∷ text) (After n rest)
    first true is more =
        let same = eqb-true c 40 is in
        let inner = more (n + 1) (ap (λ d. behind_close n (d ∷ text)) (sym same) ∙ e) in
        let one : n + 1 ≡ suc n = omega arith in
        subst (λ d. Closed (d ∷ text) (After n rest)) (sym same) (closed_group text (After n rest) (subst (λ k. Closed text (After k rest)) one inner))
    first false is more = second (c == 41) refl (eqb-false c 40 is) more

-- a group, and what is left
pub record GroupCut (text rest : List ℕ) : Type 0 where
  pub group : List ℕ
  pub whole : text ≡ group ++ rest
  pub is : IsGroup group

pub group_stands : (text rest : List ℕ) → behind_group text ≡ Some rest → GroupCut text rest
group_stands [] rest e = absurd cc
group_stands (c ∷ text) rest e = go (c == 40) refl e
  where
    go : (b : Bool) → (c == 40) ≡ b → (if b then behind_close 0 text else None) ≡ Some rest → GroupCut (c ∷ text) rest
    go false is e = absurd cc
    go true is e =
        let closed = close_stands 0 text rest e in
        let same = eqb-true c 40 is in
        record {
          group = 40 ∷ (closed.front ++ 41 ∷ []);
          whole = (λ i. same i ∷ closed.whole i) ∙ ap (λ (x : List ℕ). 40 ∷ (closed.front ++ 41 ∷ x)) closed.after ∙ ap (λ (x : List ℕ). 40 ∷ x) (sym (append_assoc closed.front (41 ∷ []) rest));
          is = record { inside = closed.front; whole = refl; balanced = closed.balanced };
        }

-- ---- a comma outside parentheses

pub has_comma_is : (n : ℕ) (before after : List ℕ) → open_at_end n before ≡ 0 → has_comma n (before ++ 44 ∷ after) ≡ true
has_comma_is n [] after outside = ap (λ k. has_comma k (44 ∷ after)) outside
has_comma_is n (c ∷ before) after outside = go (c == 44 && n == 0) (has_comma_is (open_after n c) before after outside)
  where
    go : (b : Bool) → has_comma (open_after n c) (before ++ 44 ∷ after) ≡ true → (if b then true else has_comma (open_after n c) (before ++ 44 ∷ after)) ≡ true
    go true e = refl
    go false e = e

pub record CommaCut (n : ℕ) (text : List ℕ) : Type 0 where
  pub before : List ℕ
  pub after : List ℕ
  pub whole : text ≡ before ++ 44 ∷ after
  pub outside : open_at_end n before ≡ 0

pub comma_stands : (n : ℕ) (text : List ℕ) → has_comma n text ≡ true → CommaCut n text
comma_stands n [] e = absurd cc
comma_stands n (c ∷ text) e = go (c == 44 && n == 0) refl e (comma_stands (open_after n c) text)
  where
    go : (b : Bool) → (c == 44 && n == 0) ≡ b → (if b then true else has_comma (open_after n c) text) ≡ true → (has_comma (open_after n c) text ≡ true → CommaCut (open_after n c) text) → CommaCut n (c ∷ text)
    go true is e more =
        let parts = and_parts (c == 44) (n == 0) is in
        record { before = []; after = text; whole = ap (λ (d : ℕ). d ∷ text) (eqb-true c 44 parts.0); outside = eqb-true n 0 parts.1 }
    go false is e more = let cut = more e in record { before = c ∷ cut.before; after = cut.after; whole = ap (λ (x : List ℕ). c ∷ x) cut.whole; outside = cut.outside }
