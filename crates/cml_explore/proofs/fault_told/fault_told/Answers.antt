use Rattle.std.proofs.Common.{refl}
use Rattle.cml_explore.proofs.fault_told.fault_told.Goals as goal

pub returns : goal.returns
returns c = record {
  hub = c.in_ok-hub.hub;
  by = c.in_ok-hub.ensures;
  items_are = refl;
  thread_is = c.last_turn.ensures;
  run_is = rw c.in_ok-told.was at c.run_told-told.ensures;
}
