use Rattle.std.proofs.Common.{rules, arith, ◌≡◌, ◌∙◌, min, [], sym, ap}
use Rattle.std.specs.Str.Parse.{digits_value, digits_value_after}
use Rattle.scan77.specs.PieceSlice.{slice_of}
use Rattle.format77.specs.Reading.{digits_here}
use Rattle.format77.specs.Parts.{LIMIT}
use Rattle.format77.proofs.Limits.{one_digit, value_step, written_step, same_number}
use Rattle.format77.proofs.number.split_digits.Goals as goal

pub loop-digit-preserved : goal.loop-digit-preserved
loop-digit-preserved c =
    let l = c.loop-digit in
    let d = c.in-Some in
    let one = one_digit (slice_of l.rest) (slice_of d.more) d.digit d.ensures.some d.ensures.digit in
    let value = c.with-number.ensures.value in
    record {
      limited = omega (arith, value);
      value = value_step l.number.value c.with-number.result.value d.digit (slice_of l.rest) (slice_of d.more) one d.ensures.digit value ∙ l.invariant.value;
      written = rw c.with-number.ensures.written (sym (written_step l.number.is_written d.digit (slice_of l.rest) (slice_of d.more) one) ∙ l.invariant.written);
      left = sym one.behind ∙ l.invariant.left;
    }

pub returns-clause-number : goal.returns-clause-number
returns-clause-number c =
    let l = c.loop-digit in
    let none : digits_here (slice_of l.rest) ≡ [] = search rules in
    let low = l.invariant.limited in
    let value : l.number.value ≡ min (digits_value 10 (digits_here (slice_of c.args.pieces))) LIMIT =
    (let same : l.number.value ≡ min l.number.value LIMIT = omega (arith, low) in same) ∙ ap (λ ds. min (digits_value_after 10 l.number.value ds) LIMIT) (sym none) ∙ l.invariant.value in
    λ least. same_number least l.number (slice_of c.args.pieces) (search rules) value
