-- The statements of a file that are left.
use Rattle.std.proofs.Common.{◌≡◌, ℕ, suc, ◌+◌, ◌<◌, ◌≤◌, List, [], ◌∷◌, length, drop, get_or, arith, ap, sym, ◌∙◌}
use Rattle.std.proofs.lemmas.List.{drop_more, drop_all}
use Rattle.order77.specs.declared.read.ReadStatement.{ReadStatement}
use Rattle.order77.specs.ReadViews.{reading_at, readings_from}

-- the next one, and those behind it
pub readings_more : (rs : List ReadStatement) (i : ℕ) (r : ReadStatement) → i < length rs → r ≡ get_or rs i r
    → readings_from i (drop i rs) ≡ reading_at i r ∷ readings_from (i + 1) (drop (i + 1) rs)
readings_more rs i r lt at =
    ap (readings_from i) (drop_more rs i r lt) ∙ ap (λ x. reading_at i x ∷ readings_from (suc i) (drop (i + 1) rs)) (sym at)
    ∙ (let one : suc i ≡ i + 1 = omega arith in ap (λ k. reading_at i r ∷ readings_from k (drop (i + 1) rs)) one)

-- none
pub readings_done : (rs : List ReadStatement) (i : ℕ) → length rs ≤ i → readings_from i (drop i rs) ≡ []
readings_done rs i le = ap (readings_from i) (drop_all i rs le)
