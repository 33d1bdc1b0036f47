use Rattle.std.proofs.Common.{◌≡◌, ◌∙◌, Some, Err, rules, ap, sym, subst, length}
use Rattle.scan77.specs.PieceSlice.{slice_of}
use Rattle.format77.specs.Reading.{lexeme_at, lexemes_in}
use Rattle.format77.specs.Parts.{read_of}
use Rattle.format77.specs.Views.{lexeme_of}
use Rattle.format77.specs.State.{HasOutcome, outcome_at}
use Rattle.format77.proofs.FormatFound.{shorter}
use Rattle.format77.proofs.LexemesSteps.{one_more}
use Rattle.format77.proofs.StateSteps.{fails}
use Rattle.format77.proofs.reading.read_inside.Goals as goal

pub returns-in_err-progress : goal.returns-in_err-progress
returns-in_err-progress c =
    let rest = slice_of c.loop-rest.rest in
    let more = slice_of c.in-Some.more in
    let read : lexeme_at rest ≡ Some (lexeme_of c.in-Some.lexeme, more) = sym c.in_ok-lexeme.ensures ∙ ap read_of c.in-Some.is in
    let e = c.in_err-progress.field-0.0 in
    let same : c.from_residual-in_err-progress.result ≡ Err e = search rules in
    let all = sym (ap (outcome_at c.loop-rest.progress) (one_more rest (lexeme_of c.in-Some.lexeme) more read)) ∙ c.loop-rest.invariant in
    subst (HasOutcome _) (sym same) (fails c.loop-rest.progress c.in-Some.lexeme e (lexemes_in (length more) more) _ c.in_err-progress.ensures all)

pub loop-rest-smaller : goal.loop-rest-smaller
loop-rest-smaller c =
    let rest = slice_of c.loop-rest.rest in
    let more = slice_of c.in-Some.more in
    let read : lexeme_at rest ≡ Some (lexeme_of c.in-Some.lexeme, more) = sym c.in_ok-lexeme.ensures ∙ ap read_of c.in-Some.is in
    shorter rest (lexeme_of c.in-Some.lexeme) more read

pub loop-rest-preserved : goal.loop-rest-preserved
loop-rest-preserved c =
    let rest = slice_of c.loop-rest.rest in
    let more = slice_of c.in-Some.more in
    let read : lexeme_at rest ≡ Some (lexeme_of c.in-Some.lexeme, more) = sym c.in_ok-lexeme.ensures ∙ ap read_of c.in-Some.is in
    sym (c.in_ok-progress.ensures (lexemes_in (length more) more)) ∙ sym (ap (outcome_at c.loop-rest.progress) (one_more rest (lexeme_of c.in-Some.lexeme) more read)) ∙ c.loop-rest.invariant
