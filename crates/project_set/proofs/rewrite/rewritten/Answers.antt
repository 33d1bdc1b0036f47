use Rattle.std.proofs.Common.{◌≡◌, [], ◌∷◌, ◌++◌, map, refl, ap, ◌∙◌}
use Rattle.tree90.specs.Plain as free
use Rattle.tree90.specs.Tree.{FreeProgram}
use Rattle.tree90.specs.declared.tree.Unit90.{Unit90}
use Rattle.tree90.specs.declared.tree.UnitKind90.TheVariants.{Main}
use Rattle.project_set.proofs.RewriteLemmas.{program_made}
use Rattle.project_set.proofs.rewrite.rewritten.Goals as goal

pub returns : goal.returns
returns c =
    let made : Unit90 = record {
      kind = Main;
      name = c.unit_name-name.result;
      declared = c.in_ok-declared.declared;
      items = c.in_ok-items.items;
      head = c.args.comments.head;
      inner = c.args.comments.inner;
      tail = c.last-tail.result;
    } in
    let units : c.push.new.self ≡ made ∷ [] = c.in_ok-push.ensures.ok ∙ ap (λ l. l ++ made ∷ []) c.new-units.ensures in
    λ cs at.
    ap (λ l. let p : FreeProgram = record { units = map free.unit_of l; tail = c.args.comments.tail } in p) units
    ∙ program_made cs c.args.unit c.args.names.now c.args.comments c.last-tail.new.comments c.last-tail.result made
    c.requires.counted c.requires.named c.last-tail.ensures c.unit_name-name.ensures refl refl refl c.in_ok-declared.ensures c.in_ok-items.ensures at
