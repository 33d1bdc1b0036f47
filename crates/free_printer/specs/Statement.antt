-- The text of an item.
use Rattle.std.specs.Prelude.{ℕ, List, ◌++◌, map, flat_map}
use Rattle.text_base.specs.Remarks.{remarks_text}
use Rattle.tree90.specs.Plain.{stmt_of}
use Rattle.tree90.specs.Printed.{stmt_text}
use Rattle.tree90.specs.declared.tree.Item90.{Item90}

-- the lines of an item: its comments, and then its statements
abbrev pub item_text : ℕ → Item90 → List ℕ
item_text level i = remarks_text i.comments ++ flat_map (stmt_text level) (map stmt_of i.body)
