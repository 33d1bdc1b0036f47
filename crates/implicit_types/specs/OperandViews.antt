-- The operands of an operation, as the code has them.
use Rattle.std.specs.Prelude.{Option, Some, None}
use Rattle.text_base.specs.Values.{Kind}
use Rattle.implicit_types.specs.Operands.{Operands, of_kind, of_one_kind}

-- all have one type; none is named for a relation
abbrev pub shown_operands : Option Kind → Operands
shown_operands None = of_one_kind
shown_operands (Some k) = of_kind k
