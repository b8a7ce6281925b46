use Rattle.std.proofs.Common.{◌≡◌, ◌+◌, ◌∙◌, ap, map, subst, arith}
use Rattle.cml_explore.specs.Explored.{PlainExplored}
use Rattle.cml_explore.specs.Ends.{IsGathered}
use Rattle.cml_explore.proofs.EndLemmas.{few_ends, gathered_next, none_gathered}
use Rattle.cml_explore.proofs.ends.gather_ends.Goals as goal

pub loop-schedule-init : goal.loop-schedule-init
loop-schedule-init c = record {
  made = none_gathered c.args.program.now c.args.servers.now c.asked_of-asked.result c.new-made.result
      (c.new-made.ensures.begins c.args.program.now c.asked_of-asked.result) c.new-made.ensures.none;
  count = c.new-made.ensures.none;
}

pub add_end-requires-clause-few : goal.add_end-requires-clause-few
add_end-requires-clause-few c = few_ends c.args.program.now c.args.servers.now _ c.loop-schedule.made _ c.loop-schedule.invariant.made (omega (arith, c.loop-schedule.invariant.count))

pub loop-schedule-preserved : goal.loop-schedule-preserved
loop-schedule-preserved c = record {
  made = gathered_next (λ schedule. schedule.items) c.args.program.now c.args.servers.now c.args.schedules.now c.loop-schedule.schedule-index c.schedule-item.result
      c.as_slice.result.now c.runs-number.result c.loop-schedule.made c.add_end.new.self (omega arith) (c.as_slice.ensures.value ∙ ap (λ schedule. schedule.items) c.schedule-item.is)
      c.runs-number.ensures c.loop-schedule.invariant.made (rw c.asked_of-asked.ensures.servers at c.in_ok-add_end.ensures);
  count = ap (λ (m : PlainExplored). m.runs) c.in_ok-add_end.ensures.2 ∙ ap (λ n. n + 1) c.loop-schedule.invariant.count;
}
