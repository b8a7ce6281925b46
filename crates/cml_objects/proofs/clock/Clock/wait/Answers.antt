use Rattle.std.proofs.Common.{◌<◌, ◌+◌, arith}
use Rattle.std.specs.Ordering.{nat_cmp}
use Rattle.std.proofs.lemmas.Map.Views.{All-values-insert_entry}
use Rattle.cml_objects.proofs.ClockLemmas.{adds_leaf, not_absent}
use Rattle.cml_objects.proofs.clock.Clock.wait.Goals as goal

pub returns-in_err-insert-clause-sure : goal.returns-in_err-insert-clause-sure
returns-in_err-insert-clause-sure c = λ h. absurd (not_absent c.self.inside.waited c.args.tick c.in_err-insert.ensures.absent (rw (← c.self.view_is) at h))

pub invariant_of-self-2 : goal.invariant_of-self-2
invariant_of-self-2 c =
    let more : 0 < c.leaves-leaves.result + 1 = omega arith in
    rw c.in_ok-insert.ensures.entries (All-values-insert_entry nat_cmp c.args.tick (c.leaves-leaves.result + 1) (λ n. 0 < n) c.self.inside.waited.entries c.self.invariant more)

pub returns-clause-ok : goal.returns-clause-ok
returns-clause-ok c = λ t. rw (← c.self.view_is)
    (adds_leaf c.self.inside.waited c.insert.new.self c.args.tick c.leaves-leaves.result
    (rw (← c.self.view_is) at c.leaves-leaves.ensures) c.in_ok-insert.ensures.updates.0 t)
