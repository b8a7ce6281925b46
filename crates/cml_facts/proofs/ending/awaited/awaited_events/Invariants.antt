use Rattle.std.proofs.Common.{◌≡◌, map, take}
use Rattle.cml_step.specs.Calls.{text_of}
use Rattle.cml_hub.specs.Deeds.{origins}
use Rattle.cml_facts.specs.Takes.{taker_in}
use Rattle.cml_facts.specs.Waits.{awaited_event}
use Rattle.cml_facts.proofs.ending.awaited.awaited_events.Given as goal

-- the base events so far
abbrev pub invariant-loop-base : goal.invariant-loop-base
invariant-loop-base l =
    l.events.items ≡ map (awaited_event l.hub.course.world (origins (text_of l.hub.course.program) l.hub.course.items) (taker_in l.takers)) (take l.base-index l.bases)
