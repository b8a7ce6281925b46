use Rattle.cml_objects.proofs.Waits.{removes_wait}
use Rattle.cml_objects.proofs.register.remove_wait.Goals as goal

pub returns : goal.returns
returns c = removes_wait c.args.wait c.args.waits.now c.remove.new.self c.remove.ensures.updates
