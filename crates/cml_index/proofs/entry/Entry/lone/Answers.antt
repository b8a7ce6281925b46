use Rattle.cml_index.proofs.Alone.{lone_post, lone_scopes}
use Rattle.cml_index.proofs.entry.Entry.lone.Goals as goal

pub invariant_of-result : goal.invariant_of-result
invariant_of-result c = rw (c.of.ensures) (
  lone_post c.args.group.now c.args.wait c.requires,
  lone_scopes c.args.group.now c.args.wait c.requires,
)
