use Rattle.expr77.proofs.QuotedText.{quoted_ends, quoted_goes_on}
use Rattle.expr77.proofs.lexeme_reading.quoted.Goals as goal

pub returns-in-None : goal.returns-in-None
returns-in-None c = quoted_ends c.loop-byte.value c.take_quoted.new.value c.args.text.now c.loop-byte.pending c.loop-byte.byte-index c.in_ok-next.field-0 c.loop-byte-test.true c.loop-byte.invariant c.in_ok-next.ensures c.in-None.is

pub loop-byte-preserved : goal.loop-byte-preserved
loop-byte-preserved c =
    quoted_goes_on c.loop-byte.value c.take_quoted.new.value c.args.text.now c.loop-byte.pending c.in-Some.next c.loop-byte.byte-index c.in_ok-next.field-0 c.loop-byte-test.true c.loop-byte.invariant c.in_ok-next.ensures c.in-Some.is
