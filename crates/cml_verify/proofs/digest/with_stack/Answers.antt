use Rattle.cml_step.specs.Shared.{left_of, plain_seen}
use Rattle.cml_verify.specs.Digests.{stack_mixed}
use Rattle.cml_verify.proofs.Digesting.{stack_next, stack_done}
use Rattle.cml_verify.proofs.digest.with_stack.Goals as goal

pub loop-entry-preserved : goal.loop-entry-preserved
loop-entry-preserved c =
    stack_next (left_of c.loop-entry.left) (left_of c.step.new.self) (plain_seen c.in-Some.entry) c.loop-entry.all c.with_entry-all.result
    (stack_mixed c.args.digest (left_of c.args.entries)) c.in-Some.ensures c.with_entry-all.ensures c.loop-entry.invariant

pub returns : goal.returns
returns c = stack_done (left_of c.loop-entry.left) c.loop-entry.all (stack_mixed c.args.digest (left_of c.args.entries)) (rw c.in_default.is at c.step.ensures).0 c.loop-entry.invariant
