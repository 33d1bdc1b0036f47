use Rattle.std.proofs.Common.{◌≡◌, ◌≤◌, drop, false}
use Rattle.scan77.specs.Token.{tokens_of}
use Rattle.forms77.specs.Reading as form
use Rattle.forms77.proofs.tokens.has_star.Given as goal

-- whether one stands there is the same of what is left
abbrev pub invariant-loop-token : goal.invariant-loop-token
invariant-loop-token l = (form.has_star l.after l.open_ (tokens_of (drop l.token-index l.tokens)) ≡ form.has_star false 0 (tokens_of l.tokens)) × (l.open_ ≤ l.token-index)
