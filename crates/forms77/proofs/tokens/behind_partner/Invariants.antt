use Rattle.std.proofs.Common.{◌≡◌, ◌+◌, ◌≤◌, length}
use Rattle.scan77.specs.Token.{tokens_of}
use Rattle.forms77.specs.Reading as form
use Rattle.forms77.proofs.tokens.behind_partner.Given as goal

-- what is left behind the partner is the same of what is left
abbrev pub invariant-loop-rest : goal.invariant-loop-rest
invariant-loop-rest l = (form.behind_partner l.open_ (tokens_of l.rest) ≡ form.behind_partner 0 (tokens_of l.tokens)) × (l.open_ + length l.rest ≤ length l.tokens)

abbrev pub decreases-loop-rest : goal.decreases-loop-rest
decreases-loop-rest l = length l.rest
