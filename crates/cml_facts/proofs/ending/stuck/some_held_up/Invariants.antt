use Rattle.std.proofs.Common.{◌≡◌, drop}
use Rattle.cml_step.specs.Calls.{text_of}
use Rattle.cml_hub.specs.Deeds.{origins}
use Rattle.cml_facts.specs.Stuck.{some_held_up}
use Rattle.cml_facts.proofs.ending.stuck.some_held_up.Given as goal

-- none so far
abbrev pub invariant-loop-t : goal.invariant-loop-t
invariant-loop-t l =
    let began = origins (text_of l.hub.course.program) l.hub.course.items in
    some_held_up l.servers began l.t (drop l.t l.hub.course.world.threads) ≡ some_held_up l.servers began 0 l.hub.course.world.threads
