-- The constants of a unit as a map of the code.
use Rattle.std.proofs.Common.{◌≡◌, ℕ, List, map, Option, Some, None, ap}
use Rattle.std.specs.Prelude.{is_some}
use Rattle.std.specs.Option.{option_map, option_copied}
use Rattle.std.specs.Borrow.{Bor}
use Rattle.std.specs.Map.{lookup}
use Rattle.std.specs.Str.{bytes_eq}
use Rattle.indexmap.specs.IndexMap.{insert_entry}
use Rattle.text_base.specs.Values.{Value, value_of}
use Rattle.text_base.specs.declared.operation.Value.{Value as Declared}
use Rattle.names77.specs.Constants.{constant_in}
use Rattle.names77.specs.Views.{shown_constants}
use Rattle.names77.specs.declared.constants.Constants.{Constants}
use Rattle.names77.specs.Grouped as g
use Rattle.names77.proofs.Grouping as law

abbrev pub Entries : Type 0
Entries = List (Bor (List ℕ) × Option Declared)

abbrev pub key_of : Bor (List ℕ) → List ℕ
key_of k = k.now

abbrev pub shown_value : Option Declared → Option Value
shown_value v = option_map value_of v

abbrev pub shown_entry : Bor (List ℕ) × Option Declared → List ℕ × Option Value
shown_entry e = (e.0.now, option_map value_of e.1)

abbrev pub found : Option (Option Declared) → Option Value
found v = law.found_or bytes_eq key_of shown_value None v

pub looked_up : (x : List ℕ) (es : Entries) → constant_in (map shown_entry es) x ≡ found (lookup (λ k. bytes_eq x k.now) es)
looked_up x es = law.looked_up bytes_eq key_of shown_value None x es

-- whether a name is one of the constants
pub has_looked_up : (c : Constants) (x : List ℕ) → g.has_key bytes_eq (shown_constants c) x ≡ is_some (lookup (λ k. bytes_eq x k.now) c.map.entries)
has_looked_up c x = law.has_looked_up bytes_eq key_of shown_value None x c.map.entries

pub put_inserted : (x : Bor (List ℕ)) (v : Option Declared) (es : Entries)
    → map shown_entry (insert_entry (λ a b. bytes_eq a.now b.now) es x v) ≡ g.put bytes_eq (map shown_entry es) x.now (option_map value_of v)
put_inserted x v es = law.put_inserted bytes_eq key_of shown_value None x v es

-- a value that is lent
pub lent_value : (o : Option (Bor Declared)) (v : Option Declared) → option_copied o ≡ v → option_map (λ (b : Bor Declared). value_of b.now) o ≡ option_map value_of v
lent_value None v e = ap shown_value e
lent_value (Some b) v e = ap shown_value e
