use Rattle.std.proofs.Common.{rules, ◌∙◌, ap, length, length-set}
use Rattle.std.specs.Prelude.{slice_get}
use Rattle.cml_scan.specs.World.{running}
use Rattle.cml_book.specs.Commit.{awaited}
use Rattle.cml_book.proofs.NackLemmas.{length-settled_group}
use Rattle.cml_book.proofs.state.State.go_on.Goals as goal

pub invariant_of-self : goal.invariant_of-self
invariant_of-self c =
    let threads = ap length c.release-flat.ensures.threads ∙ length-set c.self.inside.threads.items c.args.thread.0 running in
    let nacks = ap length c.settle_all.ensures.objects ∙ length-settled_group c.args.leaf (awaited (slice_get c.self.inside.threads.items c.args.thread.0)) c.self.inside.nacks.objects in
    (rw (threads, nacks) c.self.invariant.0, rw nacks c.self.invariant.1, c.self.invariant.2, c.release-flat.ensures.counts, rw c.settle_all.ensures.waits c.self.invariant.4, search rules)
