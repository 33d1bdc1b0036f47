use Rattle.expr_tree.specs.Plain.{expr_of, binary_of}
use Rattle.group77.specs.Groups.{symbols_left}
use Rattle.group77.proofs.FactorSteps.{power_reads}
use Rattle.group77.proofs.group.+factor.Goals as goal

pub returns : goal.returns
returns t c =
    power_reads (symbols_left c.args.feed.now) (symbols_left c.take_operand.new.self) (symbols_left c.take_operator.new.self) (symbols_left c.factor.new.feed) (expr_of c.in_ok-base.base) (expr_of c.in_ok-exponent.exponent) (expr_of c.in_ok-binary.field-0)
    (binary_of c.in-Some.op) c.in_ok-base.ensures c.in-Some.ensures c.in_ok-exponent.ensures c.in_ok-binary.ensures
