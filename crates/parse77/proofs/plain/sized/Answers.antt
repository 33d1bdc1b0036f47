use Rattle.std.proofs.Common.{None, sym, ap, ◌∙◌}
use Rattle.std.specs.Prelude.{codes}
use Rattle.std.specs.Option.{option_map, option_and_then}
use Rattle.tree77.specs.FormTable.{function_sort}
use Rattle.tree77.specs.Statements as s
use Rattle.scan77.specs.PieceSlice.{slice_of}
use Rattle.expr77.specs.Views.{plain_part}
use Rattle.forms77.specs.Whole.{whole_of}
use Rattle.parse77.specs.Reading.{read_behind, read_sized, with_type}
use Rattle.parse77.specs.Sort.{size_sort}
use Rattle.parse77.specs.Views.{only, as_untyped}
use Rattle.parse77.proofs.Joined.{no_second, headed}
use Rattle.parse77.proofs.plain.sized.Goals as goal

pub returns-in-None : goal.returns-in-None
returns-in-None c =
    let k = size_sort c.args.sort in
    let of = whole_of k (slice_of c.in-Some.size) in
    sym (no_second with_type of)
    ∙ headed of (read_behind (codes "FUNCTION") function_sort (slice_of c.in-Some.rest)) None
    (sym (ap (option_map (λ p. (s.header (s.function None p.0.0 p.0.1), option_map plain_part p.1))) c.in-None.is) ∙ c.untyped.ensures ∙ ap (only as_untyped) c.in_ok-read.ensures)
    ∙ ap (option_and_then (read_sized k)) (sym (ap (option_map (λ p. (slice_of p.0, slice_of p.1))) c.in-Some.is) ∙ c.split_size.ensures)
