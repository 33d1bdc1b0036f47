-- The lexemes of pieces, one after another, and the pieces between the parentheses.
use Rattle.std.proofs.Common.{◌≡◌, ◌≢◌, ℕ, zero, suc, ◌≤◌, Bool, true, false, ◌==◌, List, [], ◌∷◌, length, Option, Some, None, refl, sym, ap, ◌∙◌, arith}
use Rattle.std.specs.Prelude.{if◌then◌else◌}
use Rattle.std.specs.Option.{option_map, option_and_then}
use Rattle.std.proofs.lemmas.Option.{same_Some}
use Rattle.text_base.specs.Pieces.{Piece, plain, whole, broken}
use Rattle.text_base.specs.Formats.{FormatItems, FormatLexeme, opening, are_separated, in_trees, refused_words}
use Rattle.scan77.specs.FirstPiece.{before_plain}
use Rattle.scan77.specs.PieceSlice.{behind_plain, uncons_piece}
use Rattle.format77.specs.Reading.{digits_here, behind_digits, is_written, giving, quoted_of, unless_written, lexeme_behind, lexeme_at, lexemes_in, build_from, inside_of, tree_of, wide_of, outcome_from, format_of, no_format}
use Rattle.format77.specs.State.{outcome_with, outcome_start}
use Rattle.format77.proofs.FormatFound.{shorter}

abbrev next_in : ℕ → FormatLexeme × List Piece → Option (List FormatLexeme)
next_in n r = option_map (λ is. r.0 ∷ is) (lexemes_in n r.1)

-- more turns change nothing
same_turns : (n m : ℕ) (ps : List Piece) → length ps ≤ n → length ps ≤ m → lexemes_in n ps ≡ lexemes_in m ps
same_turns n m [] le me = refl
same_turns zero m (p ∷ ps) le me = absurd (omega (arith, le))
same_turns (suc n) zero (p ∷ ps) le me = absurd (omega (arith, me))
same_turns (suc n) (suc m) (p ∷ ps) le me = go (lexeme_at (p ∷ ps)) refl (λ left. same_turns n m left)
  where
    go : (o : Option (FormatLexeme × List Piece)) → lexeme_at (p ∷ ps) ≡ o → ((left : List Piece) → length left ≤ n → length left ≤ m → lexemes_in n left ≡ lexemes_in m left)
        → option_and_then (next_in n) (lexeme_at (p ∷ ps)) ≡ option_and_then (next_in m) (lexeme_at (p ∷ ps))
    go None e more = ap (option_and_then (next_in n)) e ∙ sym (ap (option_and_then (next_in m)) e)
    go (Some r) e more =
        let less = shorter (p ∷ ps) r.0 r.1 e in
        ap (option_and_then (next_in n)) e ∙ ap (option_map (λ is. r.0 ∷ is)) (more r.1 (omega (arith, less, le)) (omega (arith, less, me))) ∙ sym (ap (option_and_then (next_in m)) e)

pub one_more : (ps : List Piece) (i : FormatLexeme) (left : List Piece) → lexeme_at ps ≡ Some (i, left) → lexemes_in (length ps) ps ≡ option_map (λ is. i ∷ is) (lexemes_in (length left) left)
unfolding lexeme_at
one_more [] i left e = absurd cc
one_more (p ∷ ps) i left e =
    let less = shorter (p ∷ ps) i left e in
    ap (option_and_then (next_in (length ps))) e ∙ ap (option_map (λ is. i ∷ is)) (same_turns (length ps) (length left) left (omega (arith, less)) (omega arith))

pub no_more : (ps : List Piece) → ps ≢ [] → lexeme_at ps ≡ None → lexemes_in (length ps) ps ≡ None
no_more [] some e = absurd (some refl)
no_more (p ∷ ps) some e = ap (option_and_then (next_in (length ps))) e

-- ---- the parentheses

pub inside_by : (ps : List Piece) → inside_of ps ≡ option_and_then (before_plain 41) (behind_plain (40 ∷ []) ps)
inside_by [] = refl
inside_by (plain c ∷ rest) = go (c == 40)
  where
    go : (b : Bool) → (if b then before_plain 41 rest else None) ≡ option_and_then (before_plain 41) (if b then Some rest else None)
    go true = refl
    go false = refl
inside_by (whole t ∷ rest) = refl
inside_by (broken t ∷ rest) = refl

-- ---- the outcome

not_empty : (n : ℕ) (p : Piece) (ps : List Piece) → lexemes_in n (p ∷ ps) ≡ Some [] → ⊥
not_empty zero p ps e = absurd cc
not_empty (suc n) p ps e = go (lexeme_at (p ∷ ps)) e
  where
    last : (r : FormatLexeme × List Piece) (o : Option (List FormatLexeme)) → option_map (λ is. r.0 ∷ is) o ≡ Some [] → ⊥
    last r None f = absurd cc
    last r (Some is) f = absurd cc

    go : (o : Option (FormatLexeme × List Piece)) → option_and_then (next_in n) o ≡ Some [] → ⊥
    go None f = absurd cc
    go (Some r) f = last r (lexemes_in n r.1) f

-- pieces between the parentheses have the outcome that their lexemes have behind the first parenthesis
pub outcome_inside : (n : ℕ) (ps : List Piece) → ps ≢ [] → outcome_from 0 (option_and_then tree_of (lexemes_in n ps)) ≡ outcome_start (lexemes_in n ps)
outcome_inside n [] some = absurd (some refl)
outcome_inside n (p ∷ ps) some = go (lexemes_in n (p ∷ ps)) refl
  where
    by : (b : Bool) (l : FormatLexeme) (ls : List FormatLexeme) (o : Option FormatItems) → outcome_from 0 (if b then option_map (λ items. (l ∷ ls, items)) o else None)
        ≡ (if b then outcome_with (refused_words 1 (l ∷ ls)) o else no_format)
    by false l ls o = refl
    by true l ls None = refl
    by true l ls (Some items) = refl

    go : (o : Option (List FormatLexeme)) → lexemes_in n (p ∷ ps) ≡ o → outcome_from 0 (option_and_then tree_of o) ≡ outcome_start o
    go None e = refl
    go (Some []) e = absurd (not_empty n p ps e)
    go (Some (l ∷ ls)) e = by (are_separated (opening 1) (l ∷ ls)) l ls (build_from [] [] (in_trees (l ∷ ls)))

-- ---- a kept text

uncons_is : (ps rest : List Piece) (p : Piece) → Some (p, rest) ≡ uncons_piece ps → ps ≡ p ∷ rest
uncons_is [] rest p e = absurd cc
uncons_is (q ∷ qs) rest p e =
    let same : (p, rest) ≡ (q, qs) = same_Some _ _ e in
    ap (λ (r : Piece × List Piece). r.0 ∷ r.1) (sym same)

pub whole_at : (ps rest : List Piece) (text : List ℕ) (w : Bool) → Some (whole text, rest) ≡ uncons_piece (behind_digits ps) → w ≡ is_written (digits_here ps) → unless_written w (giving rest (quoted_of text)) ≡ lexeme_at ps
unfolding lexeme_at
whole_at ps rest text w e written = ap (λ x. unless_written x (giving rest (quoted_of text))) written ∙ ap (lexeme_behind (digits_here ps)) (sym (uncons_is (behind_digits ps) rest (whole text) e))

-- the outcome, by what stands between the parentheses
pub outcome_by_inside : (ps : List Piece) (o : Option (List Piece)) → inside_of ps ≡ o → format_of 0 ps ≡ outcome_from 0 (option_and_then (λ inside. option_and_then tree_of (lexemes_in (length inside) inside)) o)
unfolding wide_of
outcome_by_inside ps o e = ap (λ x. outcome_from 0 (option_and_then (λ inside. option_and_then tree_of (lexemes_in (length inside) inside)) x)) e
