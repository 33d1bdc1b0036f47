use Rattle.std.proofs.Common.{◌≡◌, [], ◌∷◌, map, take}
use Rattle.card_reader.specs.declared.card.Card.{Card}
use Rattle.project_set.proofs.comments.later.Given as goal

abbrev pub invariant-loop-card : goal.invariant-loop-card
invariant-loop-card l = l.made.items ≡ [] ∷ map (λ (card : Card). card.comments) (take l.card-index l.cards)
