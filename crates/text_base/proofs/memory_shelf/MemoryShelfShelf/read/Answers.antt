use Rattle.std.proofs.Common.{◌≡◌, arith, rules, true, false}
use Rattle.std.proofs.lemmas.Grind.{common_steps}
use Rattle.text_base.specs.Memory.{read_fails}
use Rattle.text_base.proofs.memory_shelf.MemoryShelfShelf.read.Goals as goal

pub returns-then-contains-clause-misses : goal.returns-then-contains-clause-misses
returns-then-contains-clause-misses c =
    let answer : read_fails c.args.self.now ≡ true = search rules in
    grind (arith, common_steps)

pub returns-in_default-clause-fails : goal.returns-in_default-clause-fails
returns-in_default-clause-fails c =
    let answer : read_fails c.args.self.now ≡ false = search rules in
    grind (arith, common_steps)

pub returns-in-Ok-clause-fails : goal.returns-in-Ok-clause-fails
returns-in-Ok-clause-fails c =
    let answer : read_fails c.args.self.now ≡ false = search rules in
    grind (arith, common_steps)

pub returns-in-Err-clause-fails : goal.returns-in-Err-clause-fails
returns-in-Err-clause-fails c =
    let answer : read_fails c.args.self.now ≡ false = search rules in
    grind (arith, common_steps)
