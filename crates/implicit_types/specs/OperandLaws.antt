-- Which operands fit an operation is what the table of operations says of their types.
use Rattle.std.specs.Prelude.{List, map, Some, is_some, ◌≡◌}
use Rattle.text_base.specs.Values.{Kind}
use Rattle.text_base.specs.Trees.{UnaryOp, BinaryOp}
use Rattle.text_base.specs.declared.operation.Op.{Op}
use Rattle.text_base.specs.Operations.{outcome_kind}
use Rattle.text_base.specs.Operators.{unary_op, binary_op}
use Rattle.implicit_types.specs.Operands.{takes, operator_kind}

-- operands of known types fit where the table gives a type for them
abbrev pub OperandsFit : Type 0
OperandsFit = (o : Op) (kinds : List Kind) → takes o (map Some kinds) ≡ is_some (outcome_kind o kinds)

-- a sign or `.NOT.` gives the type that the table gives, whatever fits
abbrev pub SignsGive : Type 0
SignsGive = (o : UnaryOp) (kinds : List Kind) (k : Kind) → outcome_kind (unary_op o) kinds ≡ Some k → operator_kind (unary_op o) ≡ k

-- so does an operator
abbrev pub OperatorsGive : Type 0
OperatorsGive = (o : BinaryOp) (kinds : List Kind) (k : Kind) → outcome_kind (binary_op o) kinds ≡ Some k → operator_kind (binary_op o) ≡ k
