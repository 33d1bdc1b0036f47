use Rattle.std.proofs.Common.{◌≡◌, take, flat_map}
use Rattle.text_base.specs.declared.limits.TheConstants.{MOST_SHOWN}
use Rattle.scan77.specs.Token.{tokens_of}
use Rattle.expr77.proofs.parsing.first_characters.Given as goal

-- the first characters of the tokens so far
abbrev pub invariant-loop-token : goal.invariant-loop-token
invariant-loop-token l = l.made ≡ take MOST_SHOWN (flat_map (λ t. t.text) (tokens_of (take l.token-index l.tokens)))
