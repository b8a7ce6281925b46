use Rattle.std.proofs.Common.{sym, ◌∙◌}
use Rattle.cml_work.proofs.locked.Locked.mark.Goals as goal

pub show-requires : goal.show-requires
show-requires g c = record { keeper = (c.self.invariant.1.0 ∙ sym c.requires, c.self.invariant.1.1) }
