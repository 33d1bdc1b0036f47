-- The outline of what is left of a statement.
use Rattle.std.specs.Prelude.{ℕ, List, [], ◌∷◌, Option, Some, None}
use Rattle.scan77.specs.declared.mark.Mark.{Mark}
use Rattle.scan77.specs.declared.mark.Mark.TheVariants.{Plain}
use Rattle.scan77.specs.declared.outline.Outline.{Outline}

-- an apostrophe stands for each character of kept text
abbrev pub shown_character : Mark → ℕ → ℕ
shown_character Plain c = c
shown_character _ c = 39

-- the outline of characters with their marks; one without a mark stands outside kept text
abbrev pub outline_in : List ℕ → List Mark → List ℕ
outline_in [] marks = []
outline_in (c ∷ t) [] = c ∷ t
outline_in (c ∷ t) (m ∷ marks) = shown_character m c ∷ outline_in t marks

-- what is left of the outline
abbrev pub characters_left : Outline → List ℕ
characters_left o = outline_in o.text.now o.marks.now

-- the first of some characters, and the others
abbrev pub uncons : List ℕ → Option (ℕ × List ℕ)
uncons [] = None
uncons (c ∷ t) = Some (c, t)
