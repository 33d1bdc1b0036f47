-- Looks at pieces.
use Rattle.std.proofs.Common.{◌≡◌, ◌↔◌, IsTrue, ℕ, Bool, true, false, ◌&&◌, ◌||◌, ◌==◌, List, [], ◌∷◌, Option, Some, None, refl, sym, ap, ◌∙◌}
use Rattle.std.specs.Prelude.{codes, if◌then◌else◌}
use Rattle.std.specs.List.{list_all}
use Rattle.std.specs.Str.{bytes_eq}
use Rattle.std.proofs.lemmas.Bool.{and_parts, eqb-true}
use Rattle.text_base.specs.Chars.{is_upper, is_digit, is_name_byte}
use Rattle.text_base.specs.Pieces.{Piece, plain, whole, broken}
use Rattle.text_base.proofs.CharTests.{digit_is_no_letter}
use Rattle.tree77.specs.Forms.{sort_of, first_sort, is_in, passing, ahead, text}
use Rattle.tree77.specs.Tokens.{is_mark}
use Rattle.scan77.specs.PieceSlice.{behind_plain}

-- ---- sorts

-- `sort_of` by what its tests answer
abbrev sort_by : ℕ → Bool → Bool → Bool → ℕ
sort_by c upper digit marks = if upper then 65 else (if digit then 48 else (if marks then c else 1))

-- a digit is told by its sort
pub digit_sort : (c : ℕ) → is_digit c ≡ is_in (codes "0") (sort_of c)
digit_sort c = go (is_upper c) (is_digit c) (is_mark c) refl refl refl
  where
    go : (upper digit marks : Bool) → is_upper c ≡ upper → is_digit c ≡ digit → is_mark c ≡ marks → digit ≡ is_in (codes "0") (sort_by c upper digit marks)
    go true true marks is_letter is_number known = absurd (digit_is_no_letter c is_number is_letter)
    go true false marks is_letter is_number known = refl
    go false true marks is_letter is_number known = refl
    go false false false is_letter is_number known = refl
    go false false true is_letter is_number known = other (c == 48) refl
      where
        other : (b : Bool) → (c == 48) ≡ b → false ≡ b || false
        other false is = refl
        other true is = let at : c ≡ 48 = eqb-true c 48 is in absurd (digit_is_mark (sym is_number ∙ ap is_digit at))
          where
            digit_is_mark : false ≡ true → ⊥
            digit_is_mark e = absurd cc

-- no character has the sort of the end
pub no_end : (c : ℕ) → is_in (0 ∷ []) (sort_of c) ≡ false
no_end c = go (is_upper c) (is_digit c) (is_mark c) refl
  where
    go : (upper digit marks : Bool) → is_mark c ≡ marks → is_in (0 ∷ []) (sort_by c upper digit marks) ≡ false
    go true digit marks known = refl
    go false true marks known = refl
    go false false false known = refl
    go false false true known = other (c == 0) refl
      where
        other : (b : Bool) → (c == 0) ≡ b → b || false ≡ false
        other false is = refl
        other true is = let bad : false ≡ true = sym (ap is_mark (eqb-true c 0 is)) ∙ known in absurd cc

-- ---- a word alone

-- nothing is left
abbrev pub is_end : Option (List Piece) → Bool
is_end None = false
is_end (Some []) = true
is_end (Some (p ∷ ps)) = false

-- letters, digits and underscores that are this word, behind which nothing is left
abbrev pub is_alone : List ℕ → List Piece → Bool
is_alone w u = bytes_eq (passing is_name_byte u).0 w && is_in (0 ∷ []) (first_sort (passing is_name_byte u).1)

-- one character more, which is the first of the word, or isn't
module _ (c d : ℕ) (ds : List ℕ) (rest : List Piece) (more : is_alone ds rest ≡ is_end (behind_plain ds rest)) where
  first_is : (b : Bool) → (c == d) ≡ b → bytes_eq (c ∷ (passing is_name_byte rest).0) (d ∷ ds) && is_in (0 ∷ []) (first_sort (passing is_name_byte rest).1) ≡ is_end (if b then behind_plain ds rest else None)
  first_is true is = ap (λ b. (b && bytes_eq (passing is_name_byte rest).0 ds) && is_in (0 ∷ []) (first_sort (passing is_name_byte rest).1)) is ∙ more
  first_is false is = ap (λ b. (b && bytes_eq (passing is_name_byte rest).0 ds) && is_in (0 ∷ []) (first_sort (passing is_name_byte rest).1)) is

  -- the character passes a test that the first of the word passes
  pub one_more : (test : ℕ → Bool) (t : Bool) → test c ≡ t → test d ≡ true
      → (more_text : List ℕ) (behind : List Piece) → (t ≡ true → (more_text ≡ c ∷ (passing is_name_byte rest).0) × (behind ≡ (passing is_name_byte rest).1)) → (t ≡ false → more_text ≡ [])
      → bytes_eq more_text (d ∷ ds) && is_in (0 ∷ []) (first_sort behind) ≡ is_end (if c == d then behind_plain ds rest else None)
  one_more test true passes first more_text behind same none =
      (λ i. bytes_eq ((same refl).0 i) (d ∷ ds) && is_in (0 ∷ []) (first_sort ((same refl).1 i))) ∙ first_is (c == d) refl
  one_more test false passes first more_text behind same none =
      ap (λ t. bytes_eq t (d ∷ ds) && is_in (0 ∷ []) (first_sort behind)) (none refl) ∙ other (c == d) refl
    where
      other : (b : Bool) → (c == d) ≡ b → false ≡ is_end (if b then behind_plain ds rest else None)
      other false is = refl
      other true is = let bad : false ≡ true = sym passes ∙ ap test (eqb-true c d is) ∙ first in absurd cc

-- `passing` by what its test answers of the first character
abbrev pass_by : Bool → ℕ → List Piece → List ℕ × List Piece
pass_by b c rest = if b then (c ∷ (passing is_name_byte rest).0, (passing is_name_byte rest).1) else ([], plain c ∷ rest)

pub alone : (w : List ℕ) (u : List Piece) → list_all is_name_byte w ≡ true → is_alone w u ≡ is_end (behind_plain w u)
alone [] [] named = refl
alone [] (plain c ∷ rest) named = go (is_name_byte c)
  where
    go : (b : Bool) → bytes_eq (pass_by b c rest).0 [] && is_in (0 ∷ []) (first_sort (pass_by b c rest).1) ≡ false
    go true = refl
    go false = no_end c
alone [] (whole t ∷ rest) named = refl
alone [] (broken t ∷ rest) named = refl
alone (d ∷ ds) [] named = refl
alone (d ∷ ds) (plain c ∷ rest) named =
    let parts = and_parts (is_name_byte d) (list_all is_name_byte ds) named in
    let text_by : Bool → List ℕ = λ b. (pass_by b c rest).0 in
    let behind_by : Bool → List Piece = λ b. (pass_by b c rest).1 in
    one_more c d ds rest (alone ds rest parts.1) is_name_byte (is_name_byte c) refl parts.0 (text_by (is_name_byte c)) (behind_by (is_name_byte c))
    (λ t. (ap text_by t, ap behind_by t)) (λ t. ap text_by t)
alone (d ∷ ds) (whole t ∷ rest) named = refl
alone (d ∷ ds) (broken t ∷ rest) named = refl

-- a word of letters alone is told by a look
pub then_alone : (u : List Piece) → ahead (text (codes "THEN") (0 ∷ [])) u ≡ is_end (behind_plain (codes "THEN") u)
then_alone [] = refl
then_alone (plain c ∷ rest) =
    let text_by : Bool → List ℕ = λ b. if b then c ∷ (passing is_name_byte rest).0 else [] in
    let behind_by : Bool → List Piece = λ b. if b then (passing is_name_byte rest).1 else (if is_digit c then (passing is_digit rest).1 else rest) in
    one_more c 84 (codes "HEN") rest (alone (codes "HEN") rest refl) is_upper (is_upper c) refl refl (text_by (is_upper c)) (behind_by (is_upper c))
    (λ t. (ap text_by t, ap behind_by t)) (λ t. ap text_by t)
then_alone (whole t ∷ rest) = refl
then_alone (broken t ∷ rest) = refl

-- nothing is left, as a test says
end_test : (b : Bool) (rest : List Piece) → (IsTrue b ↔ (rest ≡ [])) → b ≡ is_end (Some rest)
end_test true [] test = refl
end_test true (p ∷ rest) test = absurd (some_left p rest (test.0 refl))
  where
    some_left : (p : Piece) (rest : List Piece) → p ∷ rest ≡ [] → ⊥
    some_left p rest e = absurd cc
end_test false [] test = let bad : IsTrue false = test.1 refl in absurd cc
end_test false (p ∷ rest) test = refl

pub then_is : (u rest : List Piece) (b : Bool) → Some rest ≡ behind_plain (codes "THEN") u → (IsTrue b ↔ (rest ≡ [])) → b ≡ ahead (text (codes "THEN") (0 ∷ [])) u
then_is u rest b is test = end_test b rest test ∙ ap is_end is ∙ sym (then_alone u)
