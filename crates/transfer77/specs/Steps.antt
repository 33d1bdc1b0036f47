-- What setting one specifier does, as the code goes.
use Rattle.std.specs.Prelude.{◌≡◌, Bool, true, false, List, Option, Some, None}
use Rattle.std.specs.Option.{option_and_then}
use Rattle.tree77.specs.TransferForms.{Settings, Specifier, add, settings_from, behind_first}

-- the value wasn't set and is set now, or it was
abbrev pub IsSet : {A : Type 0} → Option A → A → Bool → Option A → Type 0
IsSet None x set after = (set ≡ true) × (after ≡ Some x)
IsSet (Some y) x set after = (set ≡ false) × (after ≡ Some y)

-- the specifier was added, or none may be
abbrev pub IsAdded : Settings → Specifier → Bool → Settings → Type 0
IsAdded before x true after = add before x ≡ Some after
IsAdded before x false after = add before x ≡ None

-- what the specifiers set besides what is set already
abbrev pub collected_from : Settings → Specifier × Option (Specifier × List Specifier) → Option Settings
collected_from c p = option_and_then (λ d. add d p.0) (option_and_then (settings_from c) (behind_first p.0 p.1))
