use Rattle.std.proofs.Common.{ap, length, ◌∙◌}
use Rattle.std.specs.Prelude.{slice_get}
use Rattle.cml_value.specs.Group.{nacks_of, scopes}
use Rattle.cml_value.specs.Nack.{live}
use Rattle.cml_book.specs.Commit.{awaited}
use Rattle.cml_book.proofs.NackLemmas.{length-with_each}
use Rattle.cml_book.proofs.state.State.enter_nacks.Goals as goal

pub invariant_of-self : goal.invariant_of-self
invariant_of-self c =
    let nacks = ap length c.enter_all.ensures.objects ∙ length-with_each (nacks_of (scopes (awaited (slice_get c.self.inside.threads.items c.args.thread.0)))) live c.self.inside.nacks.objects in
    (rw nacks c.self.invariant.0, rw nacks c.self.invariant.1, c.self.invariant.2, c.self.invariant.3, rw c.enter_all.ensures.waits c.self.invariant.4, c.self.invariant.5)
