use Rattle.std.proofs.Common.{rules, arith, ◌<◌, suc, [], map, length, sym, ap, ◌∙◌, subst}
use Rattle.std.proofs.lemmas.List.{nil_from_length}
use Rattle.std.specs.Vec.Iter.{into_iter_items}
use Rattle.unit77.specs.Units.{strays_behind}
use Rattle.unit77.specs.UnitViews.{lines_from, IsBuild, unit_of}
use Rattle.unit77.specs.Programs.{AreUnits}
use Rattle.unit77.proofs.Building.{begun, next_lines, counted_next, later, all_taken, length_next}
use Rattle.unit77.proofs.units.built.Goals as goal

pub loop-read-init : goal.loop-read-init
loop-read-init c = (
  subst (λ xs. IsBuild (lines_from 0 c.args.statements.items) (lines_from 0 xs) (record { units = c.new.result; gathering = c.new-2.result })) (sym c.into_iter-read-iterator.ensures.into_iter_gives.0)
      (begun (lines_from 0 c.args.statements.items) (record { units = c.new.result; gathering = c.new-2.result }) c.new-2.ensures c.new.ensures (ap (strays_behind [] 0) c.requires.read ∙ c.requires.accepted)),
  (let e = ap length c.into_iter-read-iterator.ensures.into_iter_gives.0 in omega (arith, e)),
  search rules,
)

pub take_read-requires : goal.take_read-requires
take_read-requires c = (
  lines_from 0 c.args.statements.items,
  lines_from (suc c.loop-read.number) (into_iter_items c.next.new.self),
  next_lines (lines_from 0 c.args.statements.items) c.loop-read.number (into_iter_items c.loop-read.read-iterator) (into_iter_items c.next.new.self) c.in-Some.read c.loop-read.building c.in-Some.ensures.steps.0 c.loop-read.invariant.0,
)

pub overflow_add-number : goal.overflow_add-number
overflow_add-number c =
    let more = counted_next c.loop-read.number (into_iter_items c.loop-read.read-iterator) (into_iter_items c.next.new.self) c.in-Some.read (length c.args.statements.items) c.in-Some.ensures.steps.0 c.loop-read.invariant.1 in
    let room : length c.args.statements.items < 4294967296 = c.requires.room in
    omega (arith, more, room)

pub loop-read-preserved : goal.loop-read-preserved
loop-read-preserved c = (
  later (lines_from 0 c.args.statements.items) c.loop-read.number (into_iter_items c.next.new.self) c.take_read.new.self
      (c.in_ok-take_read.ensures (lines_from 0 c.args.statements.items) (lines_from (suc c.loop-read.number) (into_iter_items c.next.new.self))
      (next_lines (lines_from 0 c.args.statements.items) c.loop-read.number (into_iter_items c.loop-read.read-iterator) (into_iter_items c.next.new.self) c.in-Some.read c.loop-read.building c.in-Some.ensures.steps.0 c.loop-read.invariant.0)),
  counted_next c.loop-read.number (into_iter_items c.loop-read.read-iterator) (into_iter_items c.next.new.self) c.in-Some.read (length c.args.statements.items) c.in-Some.ensures.steps.0 c.loop-read.invariant.1,
  length_next (into_iter_items c.loop-read.read-iterator) (into_iter_items c.next.new.self) c.in-Some.read _ _ c.in-Some.ensures.steps.0 c.in-Some.ensures.steps.1 c.loop-read.invariant.2,
)

pub returns : goal.returns
returns c =
    subst (λ us. AreUnits (lines_from 0 c.args.statements.items) (map unit_of us)) (sym c.replace.ensures.value)
    (all_taken (lines_from 0 c.args.statements.items) c.loop-read.number (into_iter_items c.loop-read.read-iterator) c.loop-read.building (nil_from_length (into_iter_items c.loop-read.read-iterator) (sym c.loop-read.invariant.2 ∙ c.in-None.ensures.steps.0)) c.loop-read.invariant.0)
