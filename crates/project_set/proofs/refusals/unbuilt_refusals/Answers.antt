use Rattle.std.proofs.Common.{[], ◌∷◌, length, length-append, refl, rules}
use Rattle.std.proofs.lemmas.Slice.Zip.{zip_turn, zip_end}
use Rattle.project_set.proofs.StatementLemmas.{not_refused, one_refused, all_asked}
use Rattle.project_set.proofs.refusals.unbuilt_refusals.Goals as goal

pub loop-card-preserved-in-Continue-1 : goal.loop-card-preserved-in-Continue-1
loop-card-preserved-in-Continue-1 c =
    let turn = zip_turn c.args.cards.now c.args.statements.now c.loop-card.yielded c.into_iter-card-iterator.result c.loop-card.card-iterator c.next.new.self c.next.result
    (search rules) (search rules) c.loop-card.yielded_by (c.in-Some.card, c.in-Some.read) c.in-Some.is c.next.ensures.steps in
    one_refused c.args.cards.now c.args.statements.now c.requires (length c.loop-card.yielded) _ c.in-Some.card.now c.in-Some.read.now c.is_built.result
    (length-append c.loop-card.yielded ((c.in-Some.card, c.in-Some.read) ∷ [])) turn.0 turn.1 (turn.2 _) (turn.3 _) (c.is_built.ensures 0)
    c.loop-card.refusals c.refuse.new.refusals _ (search rules) refl c.in_ok-refuse.ensures c.loop-card.invariant

pub loop-card-preserved : goal.loop-card-preserved
loop-card-preserved c =
    let turn = zip_turn c.args.cards.now c.args.statements.now c.loop-card.yielded c.into_iter-card-iterator.result c.loop-card.card-iterator c.next.new.self c.next.result
    (search rules) (search rules) c.loop-card.yielded_by (c.in-Some.card, c.in-Some.read) c.in-Some.is c.next.ensures.steps in
    not_refused c.args.cards.now c.args.statements.now c.requires (length c.loop-card.yielded) _ c.in-Some.card.now c.in-Some.read.now c.is_built.result
    (length-append c.loop-card.yielded ((c.in-Some.card, c.in-Some.read) ∷ [])) turn.0 turn.1 (turn.2 _) (turn.3 _) (c.is_built.ensures 0)
    c.loop-card.refusals (search rules) c.loop-card.invariant

pub returns : goal.returns
returns c =
    all_asked c.args.cards.now c.args.statements.now c.requires (length c.loop-card.yielded) c.loop-card.refusals
    (zip_end c.args.cards.now c.args.statements.now c.loop-card.yielded c.into_iter-card-iterator.result c.loop-card.card-iterator c.next.new.self c.next.result (search rules) (search rules) c.loop-card.yielded_by c.in-None.is c.next.ensures.steps)
    c.loop-card.invariant
