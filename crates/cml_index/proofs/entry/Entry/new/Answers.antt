use Rattle.cml_index.proofs.Waits.{is_post}
use Rattle.cml_index.proofs.entry.Entry.new.Goals as goal

pub invariant_of-result : goal.invariant_of-result
invariant_of-result c = rw (c.in_ok-new.ensures.ok, c.of.ensures) (
  is_post c.args.group.now c.list.new.waits.items c.in_ok-list.ensures.waits c.in_ok-list.ensures.small,
  c.in_ok-list.ensures.nacks,
)
