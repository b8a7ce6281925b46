use Rattle.std.proofs.Common.{◌≡◌, ◌<◌, ◌+◌, ◌^◌, length, map, take, ap, sym, subst, ◌∙◌, arith}
use Rattle.cml_index.specs.Slots.{slot_in, has_slot, is_slot, lane_at, late_at}
use Rattle.cml_index.specs.Stands as stands
use Rattle.cml_index.specs.Stands.{stand_at}
use Rattle.std.proofs.Common.{nat_lt}
use Rattle.std.specs.Option.{option_copied}
use Rattle.cml_scan.specs.Order.{Ascends}
use Rattle.cml_objects.specs.Lanes.{with_run}
use Rattle.cml_index.proofs.Walks.{waits_more, waits_all, no_leaves, one_more, joined_run, with_none, leaves_at-ascend, decide}
use Rattle.cml_index.proofs.Stood.{come_twice, none_comes}
use Rattle.cml_index.proofs.lanes.Lanes.come.Goals as goal

pub come_of-requires : goal.come_of-requires
come_of-requires c k e =
    let ss = map slot_in c.args.waits.now in
    decide (has_slot k (take c.loop-wait.wait-index ss))
    (λ done. none_comes c.args.tid (stand_at c.loop-wait.self k) (c.loop-wait.invariant.done.0 k done).late)
    (λ left. subst (stands.CanCome c.args.tid) (sym (c.loop-wait.invariant.done.1 k left)) (record {
      room = c.requires.room k;
      new = λ _. c.requires.new k;
      ascend = subst (Ascends nat_lt) (sym (c.requires.late k)) (leaves_at-ascend k 0 ss);
    }))

pub loop-wait-preserved : goal.loop-wait-preserved
loop-wait-preserved c =
    let ss = map slot_in c.args.waits.now in
    let i = c.loop-wait.wait-index in
    record {
      done = one_more (stands.HasCome c.args.tid) (come_twice c.args.tid) (stand_at c.args.self.now)
          (stand_at c.loop-wait.self) (stand_at c.come_of.new.self) (λ k. is_slot k (option_copied c.slot_ref.result))
          (λ k. has_slot k (take i ss)) (λ k. has_slot k (take (i + 1) ss))
          (λ k. waits_more (is_slot k) c.args.waits.now i
          (option_copied c.slot_ref.result) _ c.loop-wait-test.true c.slot_ref.ensures) c.come_of.ensures.here c.come_of.ensures.elsewhere c.loop-wait.invariant.done;
      cost = λ digits few.
          let before = c.loop-wait.invariant.cost digits few in
          let one = c.come_of.ensures.cost digits (λ k e some. decide (has_slot k (take i ss))
          (λ done. let none : length (late_at c.loop-wait.self k) ≡ 0 = ap length (c.loop-wait.invariant.done.0 k done).late in absurd (omega (arith, none, some)))
          (λ left. subst (λ s. length (stands.places_in s) < 2 ^ digits) (sym (c.loop-wait.invariant.done.1 k left)) (few k))) in
          omega (arith, before, one);
    }

pub returns-clause-lanes : goal.returns-clause-lanes
returns-clause-lanes c k =
    let ss = map slot_in c.args.waits.now in
    let all : take c.loop-wait.wait-index ss ≡ ss = waits_all c.args.waits.now c.loop-wait.wait-index c.loop-wait-test.false in
    let tid = c.args.tid in
    let lane = lane_at c.args.self.now k in
    decide (has_slot k (take c.loop-wait.wait-index ss))
    (λ done. (c.loop-wait.invariant.done.0 k done).places
    ∙ joined_run tid (late_at c.args.self.now k) lane (c.requires.sorted k) (c.requires.new k)
    ∙ ap (λ ls. with_run tid ls lane) (c.requires.late k))
    (λ left. ap stands.places_in (c.loop-wait.invariant.done.1 k left)
    ∙ sym (with_none tid lane (c.requires.sorted k) (c.requires.new k))
    ∙ ap (λ ls. with_run tid ls lane) (sym (no_leaves k 0 ss (sym (ap (has_slot k) all) ∙ left))))

pub returns-clause-late : goal.returns-clause-late
returns-clause-late c k =
    let ss = map slot_in c.args.waits.now in
    let all : take c.loop-wait.wait-index ss ≡ ss = waits_all c.args.waits.now c.loop-wait.wait-index c.loop-wait-test.false in
    decide (has_slot k (take c.loop-wait.wait-index ss))
    (λ done. (c.loop-wait.invariant.done.0 k done).late)
    (λ left. ap stands.late_in (c.loop-wait.invariant.done.1 k left) ∙ c.requires.late k ∙ no_leaves k 0 ss (sym (ap (has_slot k) all) ∙ left))
