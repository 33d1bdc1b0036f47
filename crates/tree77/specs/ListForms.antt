-- The forms of the lists of transfers and of DATA, in which implied DO lists stand.
use Rattle.std.specs.Prelude.{ℕ, zero, suc, List, [], ◌∷◌, codes}
use Rattle.text_base.specs.Trees.{Expr}
use Rattle.tree77.specs.ControlForms.{range}
use Rattle.tree77.specs.FormWords.{made, behind, expression, designator, element}
use Rattle.tree77.specs.Forms.{Form, equated, three, inside, both, told}
use Rattle.tree77.specs.Statements as s
use Rattle.tree77.specs.Statements.{Listed, Range}

-- what stands behind the first item of an implied DO list: further items, as many as are left at most, and behind the last
-- comma that a name and an equals sign stand behind the values of its variable
abbrev pub items_and_range : Form Listed → ℕ → Form (List Listed × Range)
items_and_range one zero = made (λ r. ([], r)) (behind 44 range)
items_and_range one (suc n) =
    told (three 44 65 61) (made (λ r. ([], r)) (behind 44 range)) (made (λ p. (p.0 ∷ p.1.0, p.1.1)) (both (behind 44 one) (items_and_range one n)))

-- `(item, .., name = e, e [, e])` (X3.9 sections 9.3 and 12.8.2.3)
abbrev pub implied_do : Form Listed → ℕ → Form Listed
implied_do one n = made (λ p. s.loop (s.listeds_of (p.0 ∷ p.1.0)) p.1.1) (inside (both one (items_and_range one n)))

-- an item, or an implied DO list: in its parentheses, and in no inner ones, an equals sign stands; lists nest so deep at most
abbrev pub item : Form Expr → ℕ → Form Listed
item leaf zero = made s.item leaf
item leaf (suc n) = told equated (implied_do (item leaf n) n) (made s.item leaf)

-- what is written, what is read, and what DATA gives values to; n is the number of characters of the statement, so that it
-- doesn't bound how lists nest
abbrev pub output_item : ℕ → Form Listed
output_item n = item expression n

abbrev pub input_item : ℕ → Form Listed
input_item n = item (designator (codes "),=:")) n

abbrev pub data_object : ℕ → Form Listed
data_object n = told equated (implied_do (item element n) n) (made s.item (designator (codes "),/")))
