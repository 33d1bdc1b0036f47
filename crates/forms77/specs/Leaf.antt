-- What the code of lists has: what an item is, and items that stand before others.
use Rattle.std.specs.Prelude.{List, [], ◌++◌, codes, Option}
use Rattle.std.specs.Option.{option_map}
use Rattle.text_base.specs.Trees.{Expr}
use Rattle.tree77.specs.ControlForms.{range}
use Rattle.tree77.specs.FormWords.{made, behind, expression, designator, element}
use Rattle.tree77.specs.Forms.{Form}
use Rattle.tree77.specs.Statements.{Listed, Range}
use Rattle.forms77.specs.Reading.{State}
use Rattle.forms77.specs.declared.listed.Leaf.{Leaf}
use Rattle.forms77.specs.declared.listed.Leaf.TheVariants as leaf

-- the form of an item that is no implied DO list
abbrev pub leaf_form : Leaf → Form Expr
leaf_form leaf.Output = expression
leaf_form leaf.Input = designator (codes "),=:")
leaf_form leaf.Element = element

-- the values of the variable, and no items more
abbrev pub last_range : Form (List Listed × Range)
last_range = made (λ r. ([], r)) (behind 44 range)

-- what was read, behind these items
abbrev pub behind_items : List Listed → Option ((List Listed × Range) × State) → Option ((List Listed × Range) × State)
behind_items xs found = option_map (λ p. ((xs ++ p.0.0, p.0.1), p.1)) found
