use Rattle.std.proofs.Common.{map, sym, ap, ◌∙◌, subst}
use Rattle.unit77.specs.Laws.{AreNumbered}
use Rattle.unit77.specs.Programs.{reading_of}
use Rattle.parse77.proofs.FileReading.{file_numbered}
use Rattle.parse77.proofs.laws.units_keep_statements.Goals as goal

pub returns : goal.returns
returns c = λ cards us a.
    let p = c.files_are_units.ensures.read cards us a in
    ap (map reading_of) (c.statements_stand.ensures p.lines us (subst (AreNumbered 0) (sym p.read) (file_numbered cards)) p.units) ∙ p.read
