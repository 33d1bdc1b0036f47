use Rattle.std.proofs.Common.{arith}
use Rattle.tree90.proofs.MadeNameLemmas.{fresh_is_name}
use Rattle.tree90.proofs.names.Names.fresh.Goals as goal

pub new-name-requires : goal.new-name-requires
new-name-requires c =
    rw c.as_slice.ensures.value (fresh_is_name c.args.self.now c.args.base.now _ c.first_free-characters.ensures c.requires (omega arith))
