use Rattle.std.proofs.Common.{◌≡◌, ℕ, List, subst, OnOk}
use Rattle.order77.specs.NameSets.{lent}
use Rattle.order77.proofs.UseLemmas.{member_bounded}
use Rattle.order77.proofs.uses.+member_uses.Goals as goal

pub returns-in_ok-member_uses-in-Substring : goal.returns-in_ok-member_uses-in-Substring
returns-in_ok-member_uses-in-Substring t c =
    subst (λ (l : List (List ℕ)). OnOk c.bounds_uses.result (lent c.bounds_uses.new.found ≡ l))
    (member_bounded c.get.result.now c.in-Substring.variable c.args.member.now c.in-Substring.from c.in-Substring.to (lent c.args.found.now) (lent c.member_uses.new.found)
    c.get.ensures c.in-Substring.is c.in_ok-member_uses-in-Substring.ensures) c.bounds_uses.ensures
