use Rattle.cml_index.proofs.Waits.{is_post}
use Rattle.cml_index.proofs.entry.Spare.renew.Goals as goal

pub invariant_of-result : goal.invariant_of-result
invariant_of-result c = rw (c.in-Ok.ensures.group) (
  is_post c.args.group.now c.refill.new.post.waits.items c.in-Ok.ensures.waits c.in-Ok.ensures.small,
  c.in-Ok.ensures.nacks,
)
