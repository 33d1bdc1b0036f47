-- What is read is what is spelled, and each format that is spelled is read.
use Rattle.std.proofs.Common.{◌≡◌, ℕ, Bool, true, false, List, [], ◌∷◌, drop, map, All, length, Option, Some, None, refl, sym, ap, ◌∙◌, subst, arith}
use Rattle.std.specs.Prelude.{if◌then◌else◌, slice_get}
use Rattle.std.specs.Option.{option_map, option_and_then}
use Rattle.std.proofs.lemmas.Option.{same_Some}
use Rattle.text_base.specs.Pieces.{Piece}
use Rattle.text_base.specs.Formats.{FormatItem, FormatItems, FormatLexeme, descriptor, slash, opening, closing, comma, colon, scale, other, AreFormatLexemes, lexemes_none, lexemes_more, are_separated, is_list, in_trees, refused_words, IsWideFormat, SpellsFormat, IsRefusedFormat, SpellsNoFormat}
use Rattle.format77.specs.Reading.{lexemes_in, Level, build_from, inside_of, tree_of, wide_of, Outcome, accepted, refused, no_format, outcome_by, outcome_from, format_of}
use Rattle.std.proofs.lemmas.List.Elements.{All-nil, All-cons}
use Rattle.format77.specs.Rows.{IsOutcome}
use Rattle.format77.proofs.TreeLaw.{tree_built}
use Rattle.format77.proofs.FormatSound.{inside_found, wide_is}
use Rattle.format77.proofs.ScaleFound.{balanced}
use Rattle.format77.proofs.FormatFound.{Like, like_more, all_found}

-- ---- trees

abbrev is_some : {A : Type 0} → Option A → Bool
is_some None = false
is_some (Some x) = true

-- a tree is built exactly where the parentheses are balanced
build_balanced : (levels : List Level) (xs : List FormatItem) (ls : List FormatLexeme) → is_some (build_from levels xs (in_trees ls)) ≡ balanced (length levels) ls
build_balanced [] xs [] = refl
build_balanced (l ∷ levels) xs [] = refl
build_balanced levels xs (descriptor d ∷ ls) = build_balanced levels _ ls
build_balanced levels xs (slash ∷ ls) = build_balanced levels _ ls
build_balanced levels xs (opening r ∷ ls) = build_balanced _ [] ls
build_balanced [] xs (closing ∷ ls) = refl
build_balanced (l ∷ levels) xs (closing ∷ ls) = build_balanced levels _ ls
build_balanced levels xs (comma ∷ ls) = build_balanced levels xs ls
build_balanced levels xs (colon ∷ ls) = build_balanced levels _ ls
build_balanced levels xs (scale ∷ ls) = build_balanced levels _ ls
build_balanced levels xs (other ∷ ls) = build_balanced levels _ ls

some_there : {A : Type 0} (o : Option A) → is_some o ≡ true → (x : A) × (o ≡ Some x)
some_there None e = absurd cc
some_there (Some x) e = (x, refl)

-- ---- a format that is spelled is read

record Read (pieces : List Piece) (ls : List FormatLexeme) (t : FormatItems) : Type 0 where
  pub lexemes : List FormatLexeme
  pub items : FormatItems
  pub is : wide_of pieces ≡ Some (lexemes, items)
  pub like : Like ls lexemes
  pub same : ls ≡ lexemes → t ≡ items

found_list : (inside : List Piece) (ls : List FormatLexeme) → AreFormatLexemes inside ls → is_list ls ≡ true → (read : List FormatLexeme) × (lexemes_in (length inside) inside ≡ Some read) × (is_list read ≡ true) × Like ls read
found_list inside [] (lexemes_none e es) on = ([], ap (λ p. lexemes_in (length inside) p) e, refl, record { words = λ d. refl; same = λ d f. refl; balance = λ k. refl })
found_list inside [] (lexemes_more first rest j js e is uncut spelled es) on = absurd cc
found_list inside (i ∷ is) spelled on =
    let f = all_found (length (i ∷ is)) (length inside) (opening 1) inside (i ∷ is) spelled on (omega arith) (omega arith) in
    (f.read, f.is, list_from f.read f.separated, f.like)
  where
    list_from : (ms : List FormatLexeme) → are_separated (opening 1) ms ≡ true → is_list ms ≡ true
    list_from [] e = refl
    list_from (m ∷ ms) e = e

wide_found : (pieces : List Piece) (ls : List FormatLexeme) (t : FormatItems) → IsWideFormat pieces ls t → Read pieces ls t
unfolding wide_of
wide_found pieces ls t w =
    let f = found_list w.inside ls w.spelled w.separated in
    let built : build_from [] [] (in_trees ls) ≡ Some t = ap (build_from [] []) (sym w.nested) ∙ tree_built t in
    let u = some_there (build_from [] [] (in_trees f.0)) (build_balanced [] [] f.0 ∙ sym (f.3.balance 0) ∙ sym (build_balanced [] [] ls) ∙ ap is_some built) in
    record {
      lexemes = f.0;
      items = u.0;
      is = ap (λ p. option_and_then (λ inside. option_and_then tree_of (lexemes_in (length inside) inside)) (inside_of p)) w.enclosed
          ∙ ap (option_and_then (λ inside. option_and_then tree_of (lexemes_in (length inside) inside))) (inside_found w.inside)
          ∙ ap (option_and_then tree_of) f.1
          ∙ ap (λ b. if b then option_map (λ items. (f.0, items)) (build_from [] [] (in_trees f.0)) else None) f.2
          ∙ ap (option_map (λ items. (f.0, items))) u.1;
      like = f.3;
      same = λ e. same_Some _ _ (sym built ∙ ap (λ x. build_from [] [] (in_trees x)) e ∙ u.1);
    }

-- ---- outcomes

by_word : (items : FormatItems) (ws : List (List ℕ)) (w : List ℕ) → slice_get ws 0 ≡ Some w → outcome_by items ws ≡ refused w
by_word items [] w e = absurd cc
by_word items (x ∷ ws) w e = ap refused (same_Some _ _ e)

pub accepted_found : (d : ℕ) (pieces : List Piece) (items : FormatItems) → SpellsFormat d pieces items → format_of d pieces ≡ accepted items
accepted_found d pieces items s =
    let r = wide_found pieces s.lexemes items s.wide in
    let same : opening 1 ∷ s.lexemes ≡ opening 1 ∷ r.lexemes = (like_more (opening 1) _ _ r.like).same d s.accepted in
    ap (outcome_from d) r.is ∙ ap (outcome_by r.items) (sym (ap (refused_words d) same) ∙ s.accepted) ∙ ap accepted (sym (r.same (ap (drop 1) same)))

pub refused_found : (d : ℕ) (pieces : List Piece) (word : List ℕ) → IsRefusedFormat d pieces word → format_of d pieces ≡ refused word
refused_found d pieces word s =
    let r = wide_found pieces s.lexemes s.items s.wide in
    ap (outcome_from d) r.is ∙ by_word r.items _ word (sym ((like_more (opening 1) _ _ r.like).words d) ∙ s.first)

pub accepted_is : (d : ℕ) (pieces : List Piece) (items : FormatItems) → format_of d pieces ≡ accepted items → SpellsFormat d pieces items
accepted_is d pieces items e = go (wide_of pieces) refl e
  where
    by : (ls : List FormatLexeme) (t : FormatItems) → wide_of pieces ≡ Some (ls, t) → (ws : List (List ℕ)) → refused_words d (opening 1 ∷ ls) ≡ ws → outcome_by t ws ≡ accepted items → SpellsFormat d pieces items
    by ls t is [] w f = let same : t ≡ items = cc in record { lexemes = ls; wide = subst (IsWideFormat pieces ls) same (wide_is pieces ls t is); accepted = w }
    by ls t is (x ∷ ws) w f = absurd cc

    go : (o : Option (List FormatLexeme × FormatItems)) → wide_of pieces ≡ o → outcome_from d o ≡ accepted items → SpellsFormat d pieces items
    go None is f = absurd cc
    go (Some r) is f = by r.0 r.1 is (refused_words d (opening 1 ∷ r.0)) refl f

pub refused_is : (d : ℕ) (pieces : List Piece) (word : List ℕ) → format_of d pieces ≡ refused word → IsRefusedFormat d pieces word
refused_is d pieces word e = go (wide_of pieces) refl e
  where
    by : (ls : List FormatLexeme) (t : FormatItems) → wide_of pieces ≡ Some (ls, t) → (ws : List (List ℕ)) → refused_words d (opening 1 ∷ ls) ≡ ws → outcome_by t ws ≡ refused word → IsRefusedFormat d pieces word
    by ls t is [] w f = absurd cc
    by ls t is (x ∷ ws) w f = let same : x ≡ word = cc in record { lexemes = ls; items = t; wide = wide_is pieces ls t is; first = ap (λ vs. slice_get vs 0) w ∙ ap Some same }

    go : (o : Option (List FormatLexeme × FormatItems)) → wide_of pieces ≡ o → outcome_from d o ≡ refused word → IsRefusedFormat d pieces word
    go None is f = absurd cc
    go (Some r) is f = by r.0 r.1 is (refused_words d (opening 1 ∷ r.0)) refl f

pub none_is : (d : ℕ) (pieces : List Piece) → format_of d pieces ≡ no_format → SpellsNoFormat pieces
none_is d pieces e ls t w =
    let r = wide_found pieces ls t w in
    by r.items (refused_words d (opening 1 ∷ r.lexemes)) (sym (ap (outcome_from d) r.is) ∙ e)
  where
    by : (items : FormatItems) (ws : List (List ℕ)) → outcome_by items ws ≡ no_format → ⊥
    by items [] f = absurd cc
    by items (x ∷ ws) f = absurd cc

pub none_found : (d : ℕ) (pieces : List Piece) → SpellsNoFormat pieces → format_of d pieces ≡ no_format
none_found d pieces none = go (wide_of pieces) refl
  where
    go : (o : Option (List FormatLexeme × FormatItems)) → wide_of pieces ≡ o → format_of d pieces ≡ no_format
    go None is = ap (outcome_from d) is
    go (Some r) is = absurd (none r.0 r.1 (wide_is pieces r.0 r.1 is))

-- ---- one of each

pub one_spelled : (d : ℕ) (pieces : List Piece) (x y : FormatItems) → SpellsFormat d pieces x → SpellsFormat d pieces y → x ≡ y
one_spelled d pieces x y s t = let e : accepted x ≡ accepted y = sym (accepted_found d pieces x s) ∙ accepted_found d pieces y t in cc

pub one_refused : (d : ℕ) (pieces : List Piece) (p q : List ℕ) → IsRefusedFormat d pieces p → IsRefusedFormat d pieces q → p ≡ q
one_refused d pieces p q s t = let e : refused p ≡ refused q = sym (refused_found d pieces p s) ∙ refused_found d pieces q t in cc

pub spelled_apart : (d : ℕ) (pieces : List Piece) (x : FormatItems) (p : List ℕ) → SpellsFormat d pieces x → IsRefusedFormat d pieces p → ⊥
spelled_apart d pieces x p s t = let e : accepted x ≡ refused p = sym (accepted_found d pieces x s) ∙ refused_found d pieces p t in absurd cc

-- ---- rows

outcome_is : (d : ℕ) (pieces : List Piece) (o : Outcome) → format_of d pieces ≡ o → IsOutcome d pieces o
outcome_is d pieces (accepted items) e = accepted_is d pieces items e
outcome_is d pieces (refused word) e = refused_is d pieces word e
outcome_is d pieces no_format e = none_is d pieces e

-- in each row the outcome that the reading gives is that of the pieces
pub each_row : (d : ℕ) (rows : List (List Piece × Outcome)) → map (λ row. format_of d row.0) rows ≡ map (λ row. row.1) rows → All (λ row. IsOutcome d row.0 row.1) rows
each_row d [] e = All-nil _
each_row d (row ∷ rows) e =
    let first : format_of d row.0 ≡ row.1 = cc in
    let rest : map (λ r. format_of d r.0) rows ≡ map (λ r. r.1) rows = cc in
    All-cons (λ r. IsOutcome d r.0 r.1) row rows (outcome_is d row.0 row.1 first) (each_row d rows rest)
