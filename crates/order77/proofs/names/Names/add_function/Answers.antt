use Rattle.std.proofs.Common.{◌≡◌, ℕ, List, ◌++◌, ap, ◌∙◌, subst, OnOk, Bor}
use Rattle.text_base.specs.Names.{expr_names}
use Rattle.expr_tree.specs.Plain.{expr_of}
use Rattle.order77.specs.NameSets.{lent, names_in, with_names}
use Rattle.order77.proofs.NameLemmas.{others}
use Rattle.order77.proofs.names.Names.add_function.Goals as goal

pub returns : goal.returns
returns c =
    subst (λ (l : List (List ℕ)). OnOk c.add_others.result (names_in c.add_others.new.self ≡ with_names (names_in c.args.self.now) l))
    (others (names_in c.new-held.result) c.args.dummies.now (names_in c.add_dummies.new.self) (lent c.as_slice.result.now) (expr_names (expr_of c.args.value.now))
    c.new-held.ensures c.in_ok-add_dummies.ensures
    (ap lent c.as_slice.ensures ∙ c.in_ok-expr_uses.ensures ∙ ap (λ (l : List (Bor (List ℕ))). lent l ++ expr_names (expr_of c.args.value.now)) c.new-found.ensures)) c.add_others.ensures
