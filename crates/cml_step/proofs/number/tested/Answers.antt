use Rattle.std.proofs.Common.{ap, sym, Ok}
use Rattle.cml_value.specs.Value.{truth}
use Rattle.cml_step.proofs.SameLemmas.{same_number}
use Rattle.cml_step.proofs.number.tested.Goals as goal

pub returns-in-Equal : goal.returns-in-Equal
returns-in-Equal c = rw c.in-Equal.is (ap (λ b. Ok (truth b)) (sym (same_number c.args.x c.args.y c.ranges.x c.ranges.y)))
