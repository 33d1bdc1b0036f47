-- What clauses see of the members of COMMON.
use Rattle.std.specs.Prelude.{List, map, reverse}
use Rattle.specify77.specs.declared.blocks.Gathered.{Gathered}
use Rattle.specify77.specs.declared.blocks.Member.{Member}
use Rattle.tree77.specs.SpecificationForms as form
use Rattle.tree77.specs.StatementPlain.{block_of, declarator_of}
use Rattle.tree77.specs.Statements.{Block, Declarator}

abbrev pub member_of : Member → form.Member
member_of m = record { block = m.block; declared = declarator_of m.declared }

-- they stand from the last to the first
abbrev pub gathered_of : Gathered → List Declarator × List Block
gathered_of g = (map declarator_of (reverse g.members.items), map block_of (reverse g.blocks.items))
