use Rattle.std.proofs.Common.{◌≡◌, sym, ◌∙◌}
use Rattle.parse77.specs.Reading.{accepted, rejected}
use Rattle.parse77.proofs.laws.one_statement.Goals as goal

pub returns-clause-spelled : goal.returns-clause-spelled
returns-clause-spelled c = λ label pieces s t a b.
    let e : accepted s ≡ accepted t = sym (c.statements_are_spelled.ensures.read label pieces s a) ∙ c.statements_are_spelled.ensures.read label pieces t b in cc

pub returns-clause-refused : goal.returns-clause-refused
returns-clause-refused c = λ label pieces p q a b.
    let e : rejected p ≡ rejected q = sym (c.statements_are_spelled.ensures.found_refused label pieces p a) ∙ c.statements_are_spelled.ensures.found_refused label pieces q b in cc

pub returns-clause-apart : goal.returns-clause-apart
returns-clause-apart c = λ label pieces s p a b.
    let e : accepted s ≡ rejected p = sym (c.statements_are_spelled.ensures.read label pieces s a) ∙ c.statements_are_spelled.ensures.found_refused label pieces p b in absurd cc
