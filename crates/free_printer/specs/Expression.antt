-- Parts of the text of an expression.
use Rattle.std.specs.Prelude.{ℕ, ◌==◌, List, [], ◌∷◌, codes, if◌then◌else◌}

-- what stands before the argument at this place, counted from 0
abbrev pub separator : ℕ → List ℕ
separator place = if place == 0 then [] else codes ", "

-- a character of a character constant (ISO/IEC 1539:1991 section 4.3.2.1)
abbrev pub quoted : ℕ → List ℕ
quoted c = if c == 39 then 39 ∷ 39 ∷ [] else c ∷ []
