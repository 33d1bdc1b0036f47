-- What clauses see of what is being read.
use Rattle.std.specs.Prelude.{◌≡◌, ℕ, List, [], ◌∷◌, Option, Some, None, Result, Ok, Err}
use Rattle.std.specs.Option.{option_map}
use Rattle.tree77.specs.Tokens.{Token}
use Rattle.scan77.specs.Token.{tokens_of}
use Rattle.scan77.specs.declared.token.Token as scan
use Rattle.expr77.specs.Views.{plain_part}
use Rattle.expr77.specs.declared.part.Part.{Part}
use Rattle.forms77.specs.Reading.{State}
use Rattle.forms77.specs.declared.stop.Stop.{Stop}
use Rattle.forms77.specs.declared.stop.Stop.TheVariants as stop

abbrev pub state_of : List scan.Token → ℕ → Option Part → State
state_of tokens depth lowest = record { tokens = tokens_of tokens; depth = depth; lowest = option_map plain_part lowest }

-- what is read, seen this way, and what is left then; want of memory says nothing
abbrev pub Gives : {A B : Type 0} → (A → B) → Result A Stop → State → Option (B × State) → Type 0
Gives view (Ok x) after read = read ≡ Some (view x, after)
Gives view (Err stop.NotSpelled) after read = read ≡ None
Gives view (Err stop.Memory) after read = Unit {0}

abbrev pub AreSome : List Token → Type 0
AreSome [] = ⊥
AreSome (t ∷ ts) = Unit {0}

-- nothing is left, or something is
abbrev pub Ends : State → Result (Option Part) Stop → Type 0
Ends s (Ok lowest) = (s.tokens ≡ []) × (s.lowest ≡ option_map plain_part lowest)
Ends s (Err stop.NotSpelled) = AreSome s.tokens
Ends s (Err stop.Memory) = ⊥
