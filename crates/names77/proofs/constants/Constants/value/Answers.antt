use Rattle.std.proofs.Common.{sym, ap, ◌∙◌, arith}
use Rattle.names77.proofs.ConstantLemmas.{found, looked_up, lent_value}
use Rattle.names77.proofs.constants.Constants.value.Goals as goal

pub returns-in_err-get : goal.returns-in_err-get
returns-in_err-get c = grind (arith, c.from_residual.ensures, c.in_err-get.ensures.value, looked_up c.args.name.now c.args.self.now.map.entries)

pub returns : goal.returns
returns c =
    lent_value c.as_ref.result _ c.as_ref.ensures.value ∙ ap found c.in_ok-get.ensures.value
    ∙ sym (looked_up c.args.name.now c.args.self.now.map.entries)
