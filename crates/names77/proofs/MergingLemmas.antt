-- A list that waits is merged.
use Rattle.std.proofs.Common.{◌≡◌, ℕ, ◌+◌, ◌<◌, Bool, true, false, List, [], ◌∷◌, ◌++◌, length, get_or, take, drop, refl, ap, append_assoc}
use Rattle.std.specs.Prelude.{nat_lt, if◌then◌else◌}
use Rattle.std.proofs.lemmas.List.{map-append, drop-drop, drop_more}
use Rattle.unit77.specs.Tree.{Line}
use Rattle.names77.specs.Text.{front, merged, first_lines, other_lines}
use Rattle.names77.specs.Views.{shown_line, shown_lines}
use Rattle.names77.specs.declared.lines.Line as code

pub merged_nil : (xs : List Line) → merged xs [] ≡ xs
merged_nil [] = refl
merged_nil (x ∷ xs) = ap (λ l. x ∷ l) (merged_nil xs)

-- the first statement of the second list parts the first
parted : (xs : List Line) (y : Line) (ys : List Line) → merged xs (y ∷ ys) ≡ first_lines y.number xs ++ y ∷ merged (other_lines y.number xs) ys
parted [] y ys = refl
parted (x ∷ xs) y ys = by (nat_lt y.number x.number) (parted xs y ys)
  where
    by : (b : Bool) → merged xs (y ∷ ys) ≡ first_lines y.number xs ++ y ∷ merged (other_lines y.number xs) ys
        → (if b then y ∷ front x (merged xs) ys else x ∷ merged xs (y ∷ ys))
        ≡ (if b then [] else x ∷ first_lines y.number xs) ++ y ∷ merged (if b then x ∷ xs else other_lines y.number xs) ys
    by true more = refl
    by false more = ap (λ l. x ∷ l) more

-- the step of a loop over the second list
pub merges : (first second out new : List code.Line) (y : code.Line) (t n i : ℕ) → y ≡ get_or second i y → i < length second
    → shown_lines (take n (drop t first)) ≡ first_lines y.number (shown_lines (drop t first))
    → shown_lines (drop n (drop t first)) ≡ other_lines y.number (shown_lines (drop t first))
    → new ≡ (out ++ take n (drop t first)) ++ y ∷ []
    → shown_lines new ++ merged (shown_lines (drop (t + n) first)) (shown_lines (drop (i + 1) second))
    ≡ shown_lines out ++ merged (shown_lines (drop t first)) (shown_lines (drop i second))
merges first second out new y t n i is lt before behind now =
    let w = shown_lines (drop t first) in
    let ys = shown_lines (drop (i + 1) second) in
    let e1 = map-append shown_line (out ++ take n (drop t first)) (y ∷ []) in
    let e2 = map-append shown_line out (take n (drop t first)) in
    let e3 = parted w (shown_line y) ys in
    let e4 = append_assoc (shown_lines out ++ first_lines y.number w) (shown_line y ∷ []) (merged (other_lines y.number w) ys) in
    let e5 = append_assoc (shown_lines out) (first_lines y.number w) (shown_line y ∷ merged (other_lines y.number w) ys) in
    let e6 = drop-drop n t first in
    let e7 = drop_more second i y lt in
    cc
