use Rattle.std.proofs.Common.{◌∙◌, List, ap, map, subst, arith}
use Rattle.cml_phrase.specs.Spots.{all_places}
use Rattle.cml_phrase.specs.declared.place.Place.{Place}
use Rattle.cml_explore.specs.FaultsTold.{IsFaultTold}
use Rattle.cml_explore.proofs.FaultLemmas.{fault_next}
use Rattle.cml_explore.proofs.fault_told.tell_faults.Goals as goal

pub loop-schedule-preserved : goal.loop-schedule-preserved
loop-schedule-preserved c =
    let told = subst (λ (ps : List (List Place)). IsFaultTold ps c.args.program.now c.as_slice-in-loop-schedule.result.now c.in_ok-one.one)
    (ap (map (λ own. own.items)) c.as_slice.ensures.value ∙ c.in_ok-places.ensures) c.in_ok-one.ensures in
    fault_next (λ schedule. schedule.items) (all_places c.args.text.now c.args.forms.now) c.args.program.now c.args.schedules.now c.loop-schedule.schedule-index c.schedule-item.result
    c.as_slice-in-loop-schedule.result.now c.loop-schedule.told.items c.push.new.self.items c.in_ok-one.one (omega arith)
    (c.as_slice-in-loop-schedule.ensures.value ∙ ap (λ schedule. schedule.items) c.schedule-item.is)
    c.in_ok-push.ensures.items told c.loop-schedule.invariant
