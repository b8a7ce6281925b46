use Rattle.std.proofs.Common.{◌≡◌, true, false, not, refl, sym, ap, subst, ◌∙◌}
use Rattle.cml_schedule.specs.declared.item.Item.TheVariants.{Clock}
use Rattle.cml_hub.specs.Runs.{any_runs, terminal}
use Rattle.cml_hub.specs.Kept.{IsNoTurn, TellsSwaps}
use Rattle.cml_hub.proofs.Marking.{placed_any}
use Rattle.cml_hub.proofs.Onward.{none_runs, some_runs, swap_allowed, tick_allowed, busy_is, quiet_is, row_going, tick_going}
use Rattle.cml_hub.specs.Playing.{spent, taking}
use Rattle.cml_hub.proofs.Played.{taking_swap, taking_row, row_moves, tick_moves}
use Rattle.cml_hub.proofs.hub.Hub.move_on.Goals.{then-swaps, else-swaps}
use Rattle.cml_hub.proofs.hub.Hub.move_on.Goals as goal

pub meet-requires-clause-takes : goal.meet-requires-clause-takes
meet-requires-clause-takes g c =
    elim c.if-swaps.branch [ then-swaps w ↦ rw (w.item-is) refl | else-swaps w ↦ rw (w.item-is) refl ]

pub meet-requires-clause-allowed : goal.meet-requires-clause-allowed
meet-requires-clause-allowed g c =
    elim c.if-swaps.branch [
      | then-swaps w ↦ rw (← c.self.view_is)
          (swap_allowed c.self.inside.course.world c.if-swaps.item c.in-Some.row (rw (w.item-is) refl) c.in-Some.ensures.row (sym c.swaps.ensures ∙ w.if-swaps.true))
      | else-swaps w ↦ rw (← c.self.view_is, w.item-is) c.in-Some.ensures.row
    ]

pub meet-requires-clause-due : goal.meet-requires-clause-due
meet-requires-clause-due g c =
    c.requires.due

pub returns-in-Some-clause-ok : goal.returns-in-Some-clause-ok
returns-in-Some-clause-ok g c =
    let no_turn : IsNoTurn c.if-swaps.item = elim c.if-swaps.branch [ then-swaps w ↦ rw (w.item-is) tt | else-swaps w ↦ rw (w.item-is) tt ] in
    let tells : TellsSwaps c.args.self.now.course.world c.if-swaps.item =
    elim c.if-swaps.branch [
      | then-swaps w ↦ rw (w.item-is) tt
      | else-swaps w ↦ rw (← c.self.view_is, w.item-is) (sym c.swaps.ensures ∙ w.if-swaps.false)
    ] in
    let going : terminal c.args.self.now.course.world ≡ false = rw (← c.self.view_is) (row_going c.self.inside.course.world c.in-Some.row c.in-Some.ensures.row) in
    (c.if-swaps.item, no_turn, tells, c.in_ok-meet.ensures.moves, c.meet.ensures.out, going)

pub returns-then-not-is_idle-clause-ok : goal.returns-then-not-is_idle-clause-ok
returns-then-not-is_idle-clause-ok g c =
    let s = c.self.inside in
    let runs = c.is_idle.ensures ∙ ap not (placed_any s.course.world.threads s.marks.marks c.self.invariant.placed) in
    let busy : c.is_idle.result ≡ false = cc in
    rw (← c.self.view_is) (c.in_default.ensures.row, busy_is s.course.world (some_runs c.is_idle.result (any_runs s.course.world) runs busy), refl)

pub returns-then-not-is_idle-clause-plays : goal.returns-then-not-is_idle-clause-plays
returns-then-not-is_idle-clause-plays g c =
    subst (λ o. c.pick.new.chooser ≡ spent (record { picks = g.C.Chooser.picks; next = g.C.Chooser.next }) c.args.chooser.now o) c.in_default.is c.pick.ensures.spent

pub tick-requires-clause-allowed : goal.tick-requires-clause-allowed
tick-requires-clause-allowed g c =
    let s = c.self.inside in
    let runs = c.is_idle.ensures ∙ ap not (placed_any s.course.world.threads s.marks.marks c.self.invariant.placed) in
    let quiet : c.is_idle.result ≡ true = cc in
    let idle = none_runs c.is_idle.result (any_runs s.course.world) runs quiet in
    rw (← c.self.view_is) (tick_allowed s.course.world c.in-Some-next_alarm.tick c.in_default.ensures.row idle (sym c.next_alarm.ensures ∙ c.in-Some-next_alarm.is))

pub tick-requires-clause-due : goal.tick-requires-clause-due
tick-requires-clause-due g c =
    c.requires.due

pub returns-in-None-clause-ok : goal.returns-in-None-clause-ok
returns-in-None-clause-ok g c =
    let s = c.self.inside in
    let runs = c.is_idle.ensures ∙ ap not (placed_any s.course.world.threads s.marks.marks c.self.invariant.placed) in
    let quiet : c.is_idle.result ≡ true = cc in
    let idle = none_runs c.is_idle.result (any_runs s.course.world) runs quiet in
    rw (← c.self.view_is) (c.in_default.ensures.row, quiet_is s.course.world c.in_default.ensures.row idle (sym c.next_alarm.ensures ∙ c.in-None.is), refl)

pub returns-in-None-clause-plays : goal.returns-in-None-clause-plays
returns-in-None-clause-plays g c =
    subst (λ o. c.pick.new.chooser ≡ spent (record { picks = g.C.Chooser.picks; next = g.C.Chooser.next }) c.args.chooser.now o) c.in_default.is c.pick.ensures.spent

pub returns-in_ok-tick-in-Some-next_alarm-clause-ok : goal.returns-in_ok-tick-in-Some-next_alarm-clause-ok
returns-in_ok-tick-in-Some-next_alarm-clause-ok g c =
    let going : terminal c.args.self.now.course.world ≡ false =
    rw (← c.self.view_is) (tick_going c.self.inside.course.world c.in-Some-next_alarm.tick (sym c.next_alarm.ensures ∙ c.in-Some-next_alarm.is)) in
    (Clock c.in-Some-next_alarm.tick, tt, tt, c.in_ok-tick-in-Some-next_alarm.ensures.moves, c.tick.ensures.out, going)

pub returns-in-Some-clause-plays : goal.returns-in-Some-clause-plays
returns-in-Some-clause-plays g c =
    let old = c.args.self.now in
    let s = c.self.inside in
    let is : c.if-swaps.item ≡ taking s.course.world c.in-Some.row =
    elim c.if-swaps.branch [
      | then-swaps w ↦ taking_swap s.course.world c.in-Some.row c.if-swaps.item (sym c.swaps.ensures ∙ w.if-swaps.true) w.item-is
      | else-swaps w ↦ taking_row s.course.world c.in-Some.row c.if-swaps.item (sym c.swaps.ensures ∙ w.if-swaps.false) w.item-is
    ] in
    row_moves (record { picks = g.C.Chooser.picks; next = g.C.Chooser.next }) old c.meet.new.self c.args.chooser.now c.pick.new.chooser c.in-Some.row c.if-swaps.item
    (rw (← c.self.view_is) (sym c.in-Some.is ∙ c.pick.ensures.picked)) (rw (← c.self.view_is) is) c.in_ok-meet.ensures.moves c.in_ok-meet.ensures.queue
    (subst (λ o. c.pick.new.chooser ≡ spent (record { picks = g.C.Chooser.picks; next = g.C.Chooser.next }) c.args.chooser.now o) c.in-Some.is c.pick.ensures.spent)

pub returns-in_ok-tick-in-Some-next_alarm-clause-plays : goal.returns-in_ok-tick-in-Some-next_alarm-clause-plays
returns-in_ok-tick-in-Some-next_alarm-clause-plays g c =
    let old = c.args.self.now in
    tick_moves (record { picks = g.C.Chooser.picks; next = g.C.Chooser.next }) old c.tick.new.self c.args.chooser.now c.pick.new.chooser c.in-Some-next_alarm.tick
    (rw (← c.self.view_is) (sym c.in_default.is ∙ c.pick.ensures.picked))
    (rw (← c.self.view_is) (sym c.in-Some-next_alarm.is ∙ c.next_alarm.ensures))
    c.in_ok-tick-in-Some-next_alarm.ensures.moves c.tick.ensures.queue
    (subst (λ o. c.pick.new.chooser ≡ spent (record { picks = g.C.Chooser.picks; next = g.C.Chooser.next }) c.args.chooser.now o) c.in_default.is c.pick.ensures.spent)
