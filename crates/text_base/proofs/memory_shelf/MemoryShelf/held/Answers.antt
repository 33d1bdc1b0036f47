use Rattle.std.proofs.Common.{◌≡◌, ap, sym, ◌∙◌, arith, rules, true, false}
use Rattle.std.proofs.lemmas.Grind.{common_steps}
use Rattle.std.specs.Str.{bytes_eq}
use Rattle.std.specs.Ordering.{nat_cmp}
use Rattle.std.specs.Cmp.Lexicographic.{slice_cmp, nat_list_cmp_total}
use Rattle.std.specs.FinMap.{get, find, get-from_entries}
use Rattle.std.specs.VecDeque.Iter.{deque_iter_rest}
use Rattle.text_base.proofs.Lookup.{find_here, find_later}
use Rattle.text_base.proofs.memory_shelf.MemoryShelf.held.Goals as goal

pub loop-held-init : goal.loop-held-init
loop-held-init c =
    ap (λ m. get m.files c.args.name.now) (sym c.self.view_is)
    ∙ get-from_entries nat_list_cmp_total _ _
    ∙ ap (find (slice_cmp nat_cmp) c.args.name.now) (sym c.into_iter-held-iterator.ensures.into_iter_gives.0)

pub returns-then-eq : goal.returns-then-eq
returns-then-eq c =
    let same : bytes_eq c.args.name.now c.in-Some.field-0.now.0 ≡ true = search rules in
    let here = find_here c.args.name.now c.in-Some.field-0.now (deque_iter_rest c.next.new.self) same in
    grind (arith, common_steps)

pub loop-held-preserved : goal.loop-held-preserved
loop-held-preserved c =
    let other : bytes_eq c.args.name.now c.in-Some.field-0.now.0 ≡ false = search rules in
    let later = find_later c.args.name.now c.in-Some.field-0.now (deque_iter_rest c.next.new.self) other in
    grind (arith, common_steps)
