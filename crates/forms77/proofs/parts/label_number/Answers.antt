use Rattle.std.proofs.Common.{pos, sym, ◌∙◌}
use Rattle.tree77.specs.Lexemes.{decimal}
use Rattle.forms77.proofs.Decimals.{label_found}
use Rattle.forms77.proofs.parts.label_number.Goals as goal

pub returns-in-None : goal.returns-in-None
returns-in-None c = label_found c.args.digits.now (pos (decimal c.args.digits.now)) c.requires (sym c.small_value.ensures ∙ c.in-None.is)
