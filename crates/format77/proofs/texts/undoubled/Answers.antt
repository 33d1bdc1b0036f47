use Rattle.std.proofs.Common.{◌∙◌, true, ap}
use Rattle.format77.specs.Reading.{undoubled_from}
use Rattle.format77.specs.Parts.{with_value}
use Rattle.format77.proofs.Undoubled.{nothing, same_undoubled}
use Rattle.format77.proofs.texts.undoubled.Goals as goal

pub loop-byte-init : goal.loop-byte-init
loop-byte-init c =
    let t = c.args.text.now in
    ap (λ v. with_value v (undoubled_from true t)) c.new-value.ensures ∙ nothing (undoubled_from true t) ∙ same_undoubled t
