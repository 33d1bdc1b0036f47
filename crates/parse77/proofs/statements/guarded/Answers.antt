use Rattle.std.proofs.Common.{◌≡◌, None, IfOk, sym, ap, ◌∙◌, subst}
use Rattle.std.specs.Option.{option_map}
use Rattle.tree77.specs.FormTable.{condition_sort}
use Rattle.tree77.specs.StatementPlain.{simple_of}
use Rattle.tree77.specs.Statements as s
use Rattle.scan77.specs.PieceSlice.{slice_of}
use Rattle.expr77.specs.Views.{plain_part}
use Rattle.forms77.specs.Whole.{whole_of}
use Rattle.parse77.specs.Reading.{guards}
use Rattle.parse77.specs.Views.{read_made, read_under, only, as_simple}
use Rattle.parse77.proofs.Joined.{no_second, guarded_by}
use Rattle.parse77.proofs.statements.guarded.Goals as goal

pub returns-in-Some : goal.returns-in-Some
returns-in-Some c =
    subst (λ read. IfOk c.guard.result (λ made. read_made made ≡ read))
    (guarded_by (whole_of condition_sort (slice_of c.args.front)) (read_under (slice_of c.args.rest)) _
    (sym (ap (option_map (λ p. (s.simple (simple_of p.0), option_map plain_part p.1))) c.in-Some.is) ∙ c.in_ok-statement.ensures ∙ ap (only as_simple) c.in_ok-read.ensures))
    c.guard.ensures

pub returns-in-None : goal.returns-in-None
returns-in-None c =
    let test = whole_of condition_sort (slice_of c.args.front) in
    sym (no_second guards test)
    ∙ guarded_by test (read_under (slice_of c.args.rest)) None
    (sym (ap (option_map (λ p. (s.simple (simple_of p.0), option_map plain_part p.1))) c.in-None.is) ∙ c.in_ok-statement.ensures ∙ ap (only as_simple) c.in_ok-read.ensures)
