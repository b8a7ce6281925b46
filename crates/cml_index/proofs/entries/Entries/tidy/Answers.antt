use Rattle.std.proofs.Common.{◌∙◌, ap}
use Rattle.cml_index.specs.Seats as spec
use Rattle.cml_index.proofs.Seated.{seated_full}
use Rattle.cml_index.proofs.OwnSeat.{tidied}
use Rattle.cml_index.proofs.entries.Entries.tidy.Goals as goal

pub invariant_of-self : goal.invariant_of-self
invariant_of-self c = tidied c.self.inside.seats.items c.remove_empty.new.seats.items c.self.inside.pending c.self.invariant c.remove_empty.ensures.seats

pub returns-then-len-saturating_add-clause-items : goal.returns-then-len-saturating_add-clause-items
returns-then-len-saturating_add-clause-items c = rw (← c.self.view_is) (ap spec.seated c.remove_empty.ensures.seats ∙ seated_full c.self.inside.seats.items)
