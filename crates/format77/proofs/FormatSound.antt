-- A format that is read is spelled.
use Rattle.std.proofs.Common.{◌≡◌, ℕ, zero, suc, true, ◌==◌, List, [], ◌∷◌, ◌++◌, length, Some, None, refl, sym, ap, ◌∙◌, subst}
use Rattle.std.specs.Prelude.{if◌then◌else◌}
use Rattle.std.specs.Option.{option_map, option_and_then}
use Rattle.std.proofs.lemmas.Bool.{eqb-true}
use Rattle.std.proofs.lemmas.Option.{same_Some}
use Rattle.text_base.specs.Pieces.{Piece, plain, whole, broken}
use Rattle.text_base.proofs.Optional.{went, mapped}
use Rattle.text_base.specs.Formats.{FormatItems, FormatLexeme, items_lexemes, AreFormatLexemes, lexemes_none, lexemes_more, is_list, in_trees, IsWideFormat}
use Rattle.scan77.specs.FirstPiece.{is_plain_piece, before_plain}
use Rattle.format77.specs.Reading.{lexeme_at, lexemes_in, build_from, inside_of, tree_of, wide_of}
use Rattle.format77.proofs.Digits.{by_test}
use Rattle.format77.proofs.LexemeSound.{lexeme_is}
use Rattle.format77.proofs.TreeLaw.{tree_is}

-- the lexemes that are read are spelled
pub lexemes_are : (n : ℕ) (pieces : List Piece) (ls : List FormatLexeme) → lexemes_in n pieces ≡ Some ls → AreFormatLexemes pieces ls
lexemes_are n [] ls e = lexemes_none refl (sym (same_Some _ _ e))
lexemes_are zero (p ∷ ps) ls e = absurd cc
lexemes_are (suc n) (p ∷ ps) ls e =
    let a = went (lexeme_at (p ∷ ps)) (λ (r : FormatLexeme × List Piece). option_map (λ is. r.0 ∷ is) (lexemes_in n r.1)) ls e in
    let b = mapped (lexemes_in n a.from.1) (λ is. a.from.0 ∷ is) ls a.is in
    let s = lexeme_is (p ∷ ps) a.from.0 a.from.1 a.was in
    lexemes_more s.first a.from.1 a.from.0 b.from s.whole s.is s.uncut (lexemes_are n a.from.1 b.from b.was) (sym b.is)

-- ---- the parentheses

one_closing : (p : Piece) (inside : List Piece) → (if is_plain_piece 41 p then Some [] else None) ≡ Some inside → p ∷ [] ≡ inside ++ plain 41 ∷ []
one_closing (plain c) inside =
    by_test (λ o. o ≡ Some inside → plain c ∷ [] ≡ inside ++ plain 41 ∷ []) (c == 41) (Some []) None
    (λ on e. ap (λ x. plain x ∷ []) (eqb-true c 41 on) ∙ ap (λ ps. ps ++ plain 41 ∷ []) (same_Some _ _ e)) (λ off e. absurd cc)
one_closing (whole t) inside = λ e. absurd cc
one_closing (broken t) inside = λ e. absurd cc

closing_is : (pieces inside : List Piece) → before_plain 41 pieces ≡ Some inside → pieces ≡ inside ++ plain 41 ∷ []
closing_is [] inside e = absurd cc
closing_is (p ∷ []) inside e = one_closing p inside e
closing_is (p ∷ q ∷ rest) inside e =
    let m = mapped (before_plain 41 (q ∷ rest)) (λ ps. p ∷ ps) inside e in
    ap (λ (ps : List Piece). p ∷ ps) (closing_is (q ∷ rest) m.from m.was) ∙ ap (λ ps. ps ++ plain 41 ∷ []) m.is

closing_found : (inside : List Piece) → before_plain 41 (inside ++ plain 41 ∷ []) ≡ Some inside
closing_found [] = refl
closing_found (p ∷ []) = refl
closing_found (p ∷ q ∷ rest) = ap (option_map (λ ps. p ∷ ps)) (closing_found (q ∷ rest))

inside_is : (pieces inside : List Piece) → inside_of pieces ≡ Some inside → pieces ≡ plain 40 ∷ (inside ++ plain 41 ∷ [])
inside_is [] inside = λ e. absurd cc
inside_is (whole t ∷ rest) inside = λ e. absurd cc
inside_is (broken t ∷ rest) inside = λ e. absurd cc
inside_is (plain c ∷ rest) inside =
    by_test (λ o. o ≡ Some inside → plain c ∷ rest ≡ plain 40 ∷ (inside ++ plain 41 ∷ [])) (c == 40) (before_plain 41 rest) None
    (λ on e. ap (λ x. plain x ∷ rest) (eqb-true c 40 on) ∙ ap (λ (ps : List Piece). plain 40 ∷ ps) (closing_is rest inside e)) (λ off e. absurd cc)

pub inside_found : (inside : List Piece) → inside_of (plain 40 ∷ (inside ++ plain 41 ∷ [])) ≡ Some inside
inside_found inside = closing_found inside

-- ---- the whole

-- what is read is spelled
pub wide_is : (pieces : List Piece) (ls : List FormatLexeme) (t : FormatItems) → wide_of pieces ≡ Some (ls, t) → IsWideFormat pieces ls t
unfolding wide_of
wide_is pieces ls t e =
    let a = went (inside_of pieces) (λ inside. option_and_then tree_of (lexemes_in (length inside) inside)) (ls, t) e in
    let b = went (lexemes_in (length a.from) a.from) tree_of (ls, t) a.is in
    go a.from (inside_is pieces a.from a.was) b.from (lexemes_are (length a.from) a.from b.from b.was) b.is
  where
    go : (inside : List Piece) → pieces ≡ plain 40 ∷ (inside ++ plain 41 ∷ []) → (is : List FormatLexeme) → AreFormatLexemes inside is → tree_of is ≡ Some (ls, t) → IsWideFormat pieces ls t
    go inside shape is spelled =
        by_test (λ o. o ≡ Some (ls, t) → IsWideFormat pieces ls t) (is_list is) (option_map (λ items. (is, items)) (build_from [] [] (in_trees is))) None
        (λ on f.
        let m = mapped (build_from [] [] (in_trees is)) (λ items. (is, items)) (ls, t) f in
        let same : is ≡ ls = ap (λ p. p.0) m.is in
        record {
          inside = inside;
          enclosed = shape;
          spelled = subst (AreFormatLexemes inside) same spelled;
          separated = subst (λ js. is_list js ≡ true) same on;
          nested = subst (λ js. ◌≡◌ {A = List FormatLexeme} (items_lexemes t) (in_trees js)) same (tree_is (in_trees is) t (m.was ∙ ap Some (ap (λ p. p.1) m.is)));
        })
        (λ off f. absurd cc)
