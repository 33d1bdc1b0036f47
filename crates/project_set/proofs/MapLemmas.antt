-- The lines of the map of one unit.
use Rattle.std.proofs.Common.{◌≡◌, ℕ, List, [], ◌∷◌, ◌++◌, codes, map, refl, ap, ◌∙◌, append_assoc, lit<}
use Rattle.std.proofs.lemmas.Fmt.{decimal_digit}
use Rattle.program77.specs.Tree.{SourceUnit}
use Rattle.program77.specs.Typing.{variables}
use Rattle.project_set.specs.MapText.{map_line_text, map_text, map_line_of, map_lines, line_of, lines_text}
use Rattle.project_set.proofs.Placing.{in_first, one_unit, variables_of_one}

-- the pieces of a line, one after another
pub line_text : (start unit x : List ℕ)
    → (((start ++ unit ++ codes "." ++ x) ++ codes " 0 1 I ") ++ unit ++ codes ":" ++ x) ++ codes " 1\n" ≡ start ++ map_line_text (line_of unit x)
line_text start unit x = rw (decimal_digit 0 (lit< tt), decimal_digit 1 (lit< tt)) (simp append_assoc)

-- the lines of the variables of the first unit
lines_at : (unit : List ℕ) (xs : List (List ℕ)) → map (map_line_of (unit ∷ [])) (map in_first xs) ≡ map (line_of unit) xs
lines_at unit [] = refl
lines_at unit (x ∷ xs) = ap (λ ls. line_of unit x ∷ ls) (lines_at unit xs)

-- the lines of a program of one unit are those of its variables
pub map_of_unit : (u : SourceUnit) → map_text (map_lines (one_unit u)) ≡ lines_text u.name (variables u)
map_of_unit u = ap (λ vs. map_text (map (map_line_of (u.name ∷ [])) vs)) (variables_of_one u) ∙ ap map_text (lines_at u.name (variables u))
