-- No mark that ends an expression stands in one outside parentheses.
use Rattle.std.proofs.Common.{◌≡◌, ℕ, Bool, true, false, ◌&&◌, ◌||◌, ◌==◌, List, [], ◌∷◌, ◌++◌, codes, refl, sym, ap, ◌∙◌}
use Rattle.std.specs.Prelude.{if◌then◌else◌}
use Rattle.text_base.specs.Pieces.{Piece, plain, whole, broken}
use Rattle.text_base.specs.Trees.{Expr}
use Rattle.tree77.specs.Kinds.{open_after}
use Rattle.tree77.specs.Lexemes.{Lexeme, IsWideExpression}
use Rattle.tree77.specs.Stops.{is_stop, Stops, until_stop}
use Rattle.tree77.specs.Forms.{is_in, stays}

same_test : (c : ℕ) → is_in (codes "),=:") c ≡ is_stop c
same_test c = go (c == 41) (c == 44) (c == 61) (c == 58)
  where
    go : (a b d e : Bool) → (a || (b || (d || (e || false)))) ≡ (a || b || d || e)
    go true b d e = refl
    go false true d e = refl
    go false false true e = refl
    go false false false true = refl
    go false false false false = refl

abbrev Both : Type 0
Both = List Piece × List Piece

pair_is : (p : Both) (a b : List Piece) → p.0 ≡ a → p.1 ≡ b → p ≡ (a, b)
pair_is p a b e f = ap (λ (x : List Piece). (x, p.1)) e ∙ ap (λ (y : List Piece). (a, y)) f

without_first : (p : Piece) (found : Both) (a b : List Piece) → ◌≡◌ {A = Both} (p ∷ found.0, found.1) (p ∷ a, b) → found ≡ (a, b)
without_first p found a b e =
    let both : ◌≡◌ {A = List Piece} (p ∷ found.0) (p ∷ a) = ap (λ (x : Both). x.0) e in
    let first : found.0 ≡ a = cc in
    pair_is found a b first (ap (λ (x : Both). x.1) e)

none_first : {P : Type 0} (p : Piece) (rest a b : List Piece) → ◌≡◌ {A = Both} ([], rest) (p ∷ a, b) → P
none_first p rest a b e = let none : ◌≡◌ {A = List Piece} [] (p ∷ a) = ap (λ (x : Both). x.0) e in absurd cc

abbrev split_by : Bool → ℕ → List Piece → Both → Both
split_by b c rest behind = if b then ([], plain c ∷ rest) else (plain c ∷ behind.0, behind.1)

abbrev comma : List Piece
comma = plain 44 ∷ []

all_stay : (n : ℕ) (u : List Piece) → until_stop n (u ++ comma) ≡ (u, comma) → stays (codes "),=:") n u ≡ true
all_stay n [] e = go (n == 0) e
  where
    go : (b : Bool) → split_by (b && is_stop 44) 44 [] (until_stop (open_after n 44) []) ≡ ([], comma) → b ≡ true
    go true e = refl
    go false e = none_first (plain 44) comma (until_stop (open_after n 44) []).0 (until_stop (open_after n 44) []).1 (sym e)
all_stay n (whole t ∷ u) e = all_stay n u (without_first (whole t) (until_stop n (u ++ comma)) u comma e)
all_stay n (broken t ∷ u) e = all_stay n u (without_first (broken t) (until_stop n (u ++ comma)) u comma e)
all_stay n (plain c ∷ u) e =
    ap (λ b. if n == 0 && b then false else stays (codes "),=:") (open_after n c) u) (same_test c) ∙ go (n == 0 && is_stop c) (λ e. all_stay (open_after n c) u e) e
  where
    go : (b : Bool) → (until_stop (open_after n c) (u ++ comma) ≡ (u, comma) → stays (codes "),=:") (open_after n c) u ≡ true) → split_by b c (u ++ comma) (until_stop (open_after n c) (u ++ comma)) ≡ (plain c ∷ u, comma)
        → (if b then false else stays (codes "),=:") (open_after n c) u) ≡ true
    go true more e = none_first (plain c) (plain c ∷ (u ++ comma)) u comma e
    go false more e = more (without_first (plain c) (until_stop (open_after n c) (u ++ comma)) u comma e)

-- what the law on where expressions stop says
abbrev pub Stop : Type 0
Stop = (pieces rest : List Piece) (lexemes : List Lexeme) (x : Expr) → IsWideExpression pieces lexemes x → Stops rest → until_stop 0 (pieces ++ rest) ≡ (pieces, rest)

pub expression_stays : Stop → (pieces : List Piece) (lexemes : List Lexeme) (x : Expr) → IsWideExpression pieces lexemes x → stays (codes "),=:") 0 pieces ≡ true
expression_stays stop pieces lexemes x wide = all_stay 0 pieces (stop pieces comma lexemes x wide refl)
