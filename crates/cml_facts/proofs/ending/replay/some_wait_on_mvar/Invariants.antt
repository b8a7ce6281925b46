use Rattle.std.proofs.Common.{◌≡◌, false, take}
use Rattle.std.specs.List.{list_any}
use Rattle.cml_facts.specs.Waits.{waits_on_mvar}
use Rattle.cml_facts.proofs.ending.replay.some_wait_on_mvar.Given as goal

-- none so far
abbrev pub invariant-loop-t : goal.invariant-loop-t
invariant-loop-t l = list_any waits_on_mvar (take l.t l.hub.course.world.threads) ≡ false
