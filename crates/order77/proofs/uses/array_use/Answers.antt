use Rattle.std.proofs.Common.{◌≡◌, ℕ, List, [], ◌∷◌, ◌++◌, if◌then◌else◌, sym, ap, ◌∙◌, subst, OnOk}
use Rattle.order77.specs.NameSets.{lent}
use Rattle.order77.proofs.UseLemmas.{array_or_not}
use Rattle.order77.proofs.uses.array_use.Goals as goal

pub returns-else-is_empty : goal.returns-else-is_empty
returns-else-is_empty c =
    subst (λ (xs : List (List ℕ)). OnOk c.name_use.result (lent c.name_use.new.found ≡ lent c.args.found.now ++ xs))
    (sym (array_or_not c.args.declarator.now c.is_empty.result c.is_empty.ensures ∙ ap (λ b. if b then [] else c.args.declarator.now.name ∷ []) c.if-is_empty.false)) c.name_use.ensures
