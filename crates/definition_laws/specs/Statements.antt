-- The statements of a list one after another.
use Rattle.std.specs.Prelude.{List, [], ◌∷◌}
use Rattle.text_base.specs.Trees.{Action}
use Rattle.text_base.specs.declared.refusal.Place.{Place}
use Rattle.program77.specs.Tree as source
use Rattle.tree90.specs.Tree.{simple, Code, done, item}
use Rattle.tree90.specs.Meaning.{nowhere}

-- the simple statements of a list, with their places
abbrev pub actions_of : source.Code → List (Place × Action)
actions_of source.done = []
actions_of (source.item label here (source.simple a) rest) = (here, a) ∷ actions_of rest
actions_of (source.item label here source.continue rest) = actions_of rest

abbrev pub written_actions : Code → List (Place × Action)
written_actions done = []
written_actions (item remarks (simple a) rest) = (nowhere, a) ∷ written_actions rest
