-- Integer constants whose value is too great.
use Rattle.std.proofs.Common.{◌≡◌, ℕ, ◌+◌, ◌*◌, ◌-◌, ◌<◌, ◌≤◌, List, [], ◌∷◌, length, drop, get_or, Option, Some, None, ℤ, pos, sym, ap, ◌∙◌, arith}
use Rattle.std.specs.Prelude.{if◌then◌else◌}
use Rattle.std.proofs.lemmas.List.{at_drop_more}
use Rattle.std.proofs.lemmas.Bool.{lt-leb}
use Rattle.tree77.specs.Lexemes.{decimal_from, decimal, is_small}

-- further digits make no number smaller
after_le : (n : ℕ) (cs : List ℕ) → n ≤ decimal_from n cs
after_le n [] = omega arith
after_le n (c ∷ cs) = let more = after_le (10 * n + (c - 48)) cs in omega (arith, more)

-- digits that have passed the greatest constant are too great
pub too_great : (digits : List ℕ) (i v : ℕ) → i < length digits → decimal_from v (drop i digits) ≡ decimal digits → 2147483647 < 10 * v + (get_or digits i 0 - 48)
    → ◌≡◌ {A = Option ℤ} None (if is_small digits then Some (pos (decimal digits)) else None)
too_great digits i v lt goes_on passed =
    let more = after_le (10 * v + (get_or digits i 0 - 48)) (drop (i + 1) digits) in
    let whole : decimal_from (10 * v + (get_or digits i 0 - 48)) (drop (i + 1) digits) ≡ decimal digits = sym (at_drop_more (decimal_from v) digits i 0 lt) ∙ goes_on in
    let over : 2147483647 < decimal digits = omega (arith, more, whole, passed) in
    sym (ap (λ b. if b then Some (pos (decimal digits)) else None) (lt-leb (decimal digits) 2147483647 over))
