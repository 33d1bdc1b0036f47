-- The name of the last unit of a file, and the name that is kept while its statements are gone through.
use Rattle.std.specs.Prelude.{ℕ, Bool, true, false, List, [], ◌∷◌, codes, Option, Some, None, if◌then◌else◌}
use Rattle.std.specs.Borrow.{Bor}
use Rattle.tree77.specs.Statements as s
use Rattle.tree77.specs.Statements.{Header, Statement, header}
use Rattle.order77.specs.Counts.{Reading, counts_as, counts_nothing, is_end}
use Rattle.order77.specs.Names.{as_list, within}

abbrev pub header_name : Header → List (List ℕ)
header_name (s.program x) = x ∷ []
header_name (s.subroutine x ds) = x ∷ []
header_name (s.function t x ds) = x ∷ []
header_name (s.block_data x) = as_list x

abbrev pub own_names : Statement → List (List ℕ)
own_names (header h) = header_name h
own_names x = []

-- a statement that begins a unit gives its name; END ends the unit
abbrev pub name_behind : Bool → List (List ℕ) → List Reading → List (List ℕ)
name_behind is_first xs [] = xs
name_behind is_first xs (r ∷ rs) =
    if is_end (counts_as r) then name_behind true [] rs
    else (if counts_nothing (counts_as r) then name_behind is_first xs rs
    else name_behind false (if is_first then within own_names r else xs) rs)

abbrev pub name_or_main : List (List ℕ) → List ℕ
name_or_main [] = codes "MAIN"
name_or_main (x ∷ xs) = x

-- the name of the last unit of a file, `MAIN` where it has none
abbrev pub last_name : List Reading → List ℕ
last_name rs = name_or_main (name_behind true [] rs)

-- a name that is lent, if any, by its characters
abbrev pub lent_name : Option (Bor (List ℕ)) → List (List ℕ)
lent_name None = []
lent_name (Some name) = name.now ∷ []
