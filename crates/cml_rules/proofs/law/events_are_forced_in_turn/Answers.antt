use Rattle.std.proofs.Common.{Contains}
use Rattle.cml_rules.proofs.Forcing.{forces_in_turn}
use Rattle.cml_rules.proofs.law.events_are_forced_in_turn.Goals as goal

pub returns : goal.returns
returns c = λ calls. forces_in_turn (λ f new. Contains calls (f, new))
