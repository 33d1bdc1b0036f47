use Rattle.std.proofs.Common.{◌≡◌, arith, rules, false}
use Rattle.std.proofs.lemmas.Grind.{common_steps}
use Rattle.text_base.specs.Memory.{write_fails}
use Rattle.text_base.proofs.memory_shelf.MemoryShelfShelf.write.Goals as goal

pub returns-in-Ok-clause-fails : goal.returns-in-Ok-clause-fails
returns-in-Ok-clause-fails c =
    let answer : write_fails c.args.self.now ≡ false = search rules in
    grind (arith, common_steps)

pub returns-in-Err-clause-fails : goal.returns-in-Err-clause-fails
returns-in-Err-clause-fails c =
    let answer : write_fails c.args.self.now ≡ false = search rules in
    grind (arith, common_steps)
