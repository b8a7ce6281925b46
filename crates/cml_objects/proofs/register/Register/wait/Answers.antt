use Rattle.cml_objects.proofs.Waits.{adds_wait}
use Rattle.cml_objects.proofs.register.Register.wait.Goals as goal

pub returns-clause-ok : goal.returns-clause-ok
returns-clause-ok g c = λ other. rw (← c.self.view_is) (adds_wait ((c.args.thread.0, c.args.leaf), c.args.id) c.self.inside.waits c.insert.new.self c.in_ok-insert.ensures.updates other)
