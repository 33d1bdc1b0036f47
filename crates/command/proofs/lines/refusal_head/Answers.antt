use Rattle.std.proofs.Common.{append_assoc, rules}
use Rattle.command.proofs.lines.refusal_head.Goals as goal

pub returns : goal.returns
returns c = search (rules, append_assoc)
