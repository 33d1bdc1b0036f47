use Rattle.std.proofs.Common.{◌≡◌, ◌++◌, codes, ap, ◌∙◌}
use Rattle.project_set.proofs.MapLemmas.{line_text}
use Rattle.project_set.proofs.map.write_line.Goals as goal

pub returns : goal.returns
returns c =
    let unit = c.args.unit.now in
    let variable = c.args.variable.now in
    let so_far : c.write_parts-2.new.out ≡ (c.args.out.now ++ unit ++ codes "." ++ variable) ++ codes " 0 1 I " ++ unit ++ codes ":" ++ variable =
    c.in_ok-write_parts-2.ensures
    ∙ ap (λ t. t ++ unit ++ codes ":" ++ variable) (c.in_ok-extend.ensures.ok ∙ ap (λ t. t ++ codes " 0 1 I ") c.in_ok-write_parts.ensures) in
    rw (← line_text c.args.out.now unit variable, ← so_far) c.extend-2.ensures.ok
