use Rattle.std.proofs.Common.{ap, refl, ◌∙◌}
use Rattle.cml_explore.specs.Finishes.{is_good}
use Rattle.cml_explore.proofs.ends.end_told.Goals as goal

pub returns : goal.returns
returns c = record {
  hub = c.in_ok-hub.hub;
  by = c.in_ok-hub.ensures;
  well_is = c.is_well-well.ensures ∙ ap is_good c.fate_of.ensures;
  items_are = refl;
  run_is = rw c.in_ok-told.was at c.run_told-told.ensures;
}
