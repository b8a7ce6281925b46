use Rattle.std.proofs.Common.{◌∙◌, ap, arith}
use Rattle.cml_host.proofs.FoundLemmas.{found_next, none_found}
use Rattle.cml_host.proofs.outcomes.find.Goals as goal

pub loop-schedule-init : goal.loop-schedule-init
loop-schedule-init c = none_found c.args.program.now c.new-found.result c.new-found.ensures.empty

pub loop-schedule-preserved : goal.loop-schedule-preserved
loop-schedule-preserved c =
    found_next (λ schedule. schedule.items) c.args.program.now c.args.schedules.now c.loop-schedule.schedule-index c.schedule-item.result c.as_slice.result.now c.loop-schedule.found
    c.add.new.found (omega arith) (c.as_slice.ensures.value ∙ ap (λ schedule. schedule.items) c.schedule-item.is) c.loop-schedule.invariant c.in_ok-add.ensures
