use Rattle.std.proofs.Common.{rules, ◌≡◌, ◌≢◌, ◌∙◌, [], length, Some, None, ap, sym}
use Rattle.text_base.specs.FormatPlain.{format_items}
use Rattle.scan77.specs.PieceSlice.{slice_of}
use Rattle.format77.specs.Reading.{inside_of, accepted}
use Rattle.format77.proofs.LexemesSteps.{outcome_by_inside, outcome_inside}
use Rattle.format77.proofs.reading.read_format.Goals as goal

pub returns-in_default : goal.returns-in_default
returns-in_default c =
    let none : None ≡ inside_of (slice_of c.args.pieces) = search rules in
    sym (outcome_by_inside (slice_of c.args.pieces) None (sym none))

pub returns-then-is_empty : goal.returns-then-is_empty
returns-then-is_empty c =
    let some : Some (slice_of c.in-Some.inside) ≡ inside_of (slice_of c.args.pieces) = search rules in
    let empty : slice_of c.in-Some.inside ≡ [] = search rules in
    ap (λ xs. accepted (format_items xs)) c.new.ensures ∙ sym (outcome_by_inside (slice_of c.args.pieces) (Some []) (sym some ∙ ap Some empty))

pub returns-in-Ok : goal.returns-in-Ok
returns-in-Ok c =
    let some : Some (slice_of c.in-Some.inside) ≡ inside_of (slice_of c.args.pieces) = search rules in
    let full : slice_of c.in-Some.inside ≢ [] = search rules in
    let h = c.in-Ok.ensures in
    sym h ∙ sym (outcome_inside (length (slice_of c.in-Some.inside)) (slice_of c.in-Some.inside) full) ∙ sym (outcome_by_inside (slice_of c.args.pieces) (Some (slice_of c.in-Some.inside)) (sym some))

pub returns-in-Err-NotSpelled : goal.returns-in-Err-NotSpelled
returns-in-Err-NotSpelled c =
    let some : Some (slice_of c.in-Some.inside) ≡ inside_of (slice_of c.args.pieces) = search rules in
    let full : slice_of c.in-Some.inside ≢ [] = search rules in
    let o = c.in-Err-NotSpelled in
    let h = rw o.field-0-is at o.ensures in
    sym h ∙ sym (outcome_inside (length (slice_of c.in-Some.inside)) (slice_of c.in-Some.inside) full) ∙ sym (outcome_by_inside (slice_of c.args.pieces) (Some (slice_of c.in-Some.inside)) (sym some))
