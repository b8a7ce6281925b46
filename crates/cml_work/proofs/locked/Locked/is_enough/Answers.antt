use Rattle.std.proofs.Common.{sym, subst}
use Rattle.cml_hub.specs.Kept.{NoneOut}
use Rattle.cml_work.specs.Held.{Held}
use Rattle.cml_work.proofs.locked.Locked.is_enough.Goals as goal

pub returns-then-not-are_wanted-clause-out : goal.returns-then-not-are_wanted-clause-out
returns-then-not-are_wanted-clause-out g c = λ is none. c.has_out.ensures.0 is (subst (λ (held : Held). NoneOut held.hub) (sym c.self.view_is) none)
