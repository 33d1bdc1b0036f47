-- Which texts are statement functions (X3.9 section 15.4). One with dummies has the form of an assignment to an array element.
use Rattle.std.specs.Prelude.{ℕ, Bool, true, false, not, ◌&&◌, ◌||◌, List, [], ◌∷◌, ◌++◌, map, if◌then◌else◌}
use Rattle.std.specs.List.{list_any, zip}
use Rattle.std.specs.Option.{option_map}
use Rattle.text_base.specs.Trees as t
use Rattle.text_base.specs.Trees.{Exprs}
use Rattle.tree77.specs.Statements as s
use Rattle.tree77.specs.Statements.{Statement, statement_function}
use Rattle.order77.specs.Counts.{Reading, counts_as, counts_action, is_end}
use Rattle.order77.specs.Names.{is_among, arrays, within}

-- all expressions are names
abbrev pub are_names : Exprs → Bool
are_names t.none = true
are_names (t.more (t.name x) xs) = are_names xs
are_names _ = false

-- the names among expressions
abbrev pub names_among : Exprs → List (List ℕ)
names_among t.none = []
names_among (t.more (t.name x) xs) = x ∷ names_among xs
names_among (t.more e xs) = names_among xs

-- an assignment whose variable is a name with names in parentheses, which isn't one of these arrays
abbrev pub has_form : List (List ℕ) → Statement → Bool
has_form arrays (s.simple (s.assign (t.call f xs) e)) = not (is_among arrays f) && are_names xs
has_form arrays x = false

abbrev pub as_function : Statement → Statement
as_function (s.simple (s.assign (t.call f xs) e)) = statement_function f (names_among xs) e
as_function x = x

-- the arrays that the statements declare before the first END
abbrev pub arrays_ahead : List Reading → List (List ℕ)
arrays_ahead [] = []
arrays_ahead (r ∷ rs) = if is_end (counts_as r) then [] else within arrays r ++ arrays_ahead rs

abbrev pub is_text : List (List ℕ) → Reading → Bool
is_text arrays r = list_any (λ b. b) (within (λ x. has_form arrays x ∷ []) r)

-- Which statements of a unit with these arrays, and of the units behind it, are statement functions: those of the form before the
-- first executable statement of their unit.
abbrev pub functions_behind : Bool → List (List ℕ) → List Reading → List Bool
functions_behind is_executed arrays [] = []
functions_behind is_executed arrays (r ∷ rs) =
    if is_end (counts_as r) then false ∷ functions_behind false (arrays_ahead rs) rs
    else (let b = not is_executed && is_text arrays r in b ∷ functions_behind (is_executed || (not b && counts_action (counts_as r))) arrays rs)

abbrev pub functions : List Reading → List Bool
functions rs = functions_behind false (arrays_ahead rs) rs

abbrev pub settled_as : Bool × Reading → Reading
settled_as p = if p.0 then record p.1 { statement = option_map as_function p.1.statement } else p.1

-- the statements of a file, in which statement functions are told from assignments
abbrev pub settled : List Reading → List Reading
settled rs = map settled_as (zip (functions rs) rs)
