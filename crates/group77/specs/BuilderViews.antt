-- What clauses see of open parentheses, and of the machine that builds a tree.
use Rattle.std.specs.Prelude.{Bool, true, false, List, [], ◌∷◌, map}
use Rattle.std.specs.Option.{option_map}
use Rattle.expr_tree.specs.Plain.{expr_of, bound_of}
use Rattle.group77.specs.Building as machine
use Rattle.group77.specs.Symbol.{grammar_symbol}
use Rattle.group77.specs.declared.opening.Opening.{Opening}
use Rattle.group77.specs.declared.opening.Opening.TheVariants as openings
use Rattle.group77.specs.declared.builder.Level.{Level}
use Rattle.group77.specs.declared.builder.Builder.{Builder}

abbrev pub opening_of : Opening → machine.Opening
opening_of openings.Group = machine.grouping
opening_of (openings.List f xs element) = machine.listing f (map expr_of xs) element
opening_of (openings.Part a) = machine.parting (expr_of a)
opening_of (openings.Bound a from) = machine.bounding (expr_of a) (bound_of (option_map expr_of from))

abbrev pub level_of : Level → machine.Level
level_of l = record { before = map grammar_symbol l.before; of = opening_of l.of }

abbrev pub state_of : Builder → machine.State
state_of b = record { levels = map level_of b.levels; symbols = map grammar_symbol b.symbols; element = b.is_element }

-- arguments may stand behind it
abbrev pub is_listing : machine.Opening → Bool
is_listing (machine.listing f xs e) = true
is_listing _ = false

abbrev pub is_in_list : List machine.Level → Bool
is_in_list [] = false
is_in_list (l ∷ ls) = is_listing l.of
