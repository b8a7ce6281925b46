use Rattle.std.proofs.Common.{[], inl, inr, refl}
use Rattle.cml_host.specs.Replies.{runs_out}
use Rattle.cml_host.proofs.run.run_ordered.Goals as goal

pub returns-in-Ok-clause-ran : goal.returns-in-Ok-clause-ran
returns-in-Ok-clause-ran g c =
    let told = c.tell_end-status.ensures.told in
    (told.0, inl (c.in-Ok.hub, rw c.unwrap_or-seed.ensures at c.in-Ok.ensures, told.1), told.2)

pub returns-clause-ran : goal.returns-clause-ran
returns-clause-ran g c = (runs_out [], inr refl, c.carry_out.ensures.carried)
