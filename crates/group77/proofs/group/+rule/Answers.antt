use Rattle.std.proofs.Common.{◌∙◌, sym, ap, ◌+◌, ◌-◌}
use Rattle.expr_tree.specs.Plain.{expr_of, binary_of}
use Rattle.group77.specs.Grouping.{read_more}
use Rattle.group77.specs.Groups.{symbols_left, reader_of, test_of}
use Rattle.group77.proofs.ChainSteps.{chain_goes_on}
use Rattle.group77.proofs.group.+rule.Goals as goal

pub chain-loop-preserved : goal.chain-loop-preserved
chain-loop-preserved t c =
    ap (λ x. read_more (test_of c.args.sort) (reader_of c.args.next) (c.len-end.result - (c.loop.counter + 1)) x (symbols_left c.read-in-loop.new.feed)) c.in_ok-grouped-2.ensures
    ∙ sym (chain_goes_on (test_of c.args.sort) (reader_of c.args.next) c.len-end.result c.loop.counter (expr_of c.loop.grouped) (expr_of c.in_ok-operand.operand) (symbols_left c.loop.feed) (symbols_left c.take_operator.new.self)
    (symbols_left c.read-in-loop.new.feed) (binary_of c.in-Some.op) c.loop-test.true c.in-Some.ensures c.in_ok-operand.ensures)
    ∙ c.loop.invariant
