-- A look-up in a list of names and bytes, by the test that the code makes.
use Rattle.std.proofs.Common.{◌≡◌, ℕ, List, ◌∷◌, cond, Some, ap, true, false, ◌∙◌}
use Rattle.std.specs.Ordering.{nat_cmp}
use Rattle.std.specs.Str.{bytes_eq}
use Rattle.std.specs.Cmp.Lexicographic.{slice_cmp}
use Rattle.std.specs.FinMap.{find}
use Rattle.std.proofs.lemmas.Map.Text.{is_eq-slice_cmp}

pub find_here : (q : List ℕ) (e : List ℕ × List ℕ) (es : List (List ℕ × List ℕ)) → bytes_eq q e.0 ≡ true → find (slice_cmp nat_cmp) q (e ∷ es) ≡ Some e.1
find_here q e es is = ap (λ t. cond t (Some e.1) (find (slice_cmp nat_cmp) q es)) (is_eq-slice_cmp q e.0 ∙ is)

pub find_later : (q : List ℕ) (e : List ℕ × List ℕ) (es : List (List ℕ × List ℕ)) → bytes_eq q e.0 ≡ false → find (slice_cmp nat_cmp) q (e ∷ es) ≡ find (slice_cmp nat_cmp) q es
find_later q e es is = ap (λ t. cond t (Some e.1) (find (slice_cmp nat_cmp) q es)) (is_eq-slice_cmp q e.0 ∙ is)
