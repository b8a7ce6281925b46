use Rattle.std.proofs.Common.{◌≡◌, Bool, subst}
use Rattle.cml_step.specs.Undone.{IsNotedStack}
use Rattle.cml_step.specs.Undos.{IsUndoneBy}
use Rattle.cml_step.proofs.undo.Undo.put_back.Goals as goal

pub returns-else-self : goal.returns-else-self
returns-else-self c = λ before is.
    let u = c.args.self.now in
    let now = c.args.machine.now in
    let noted : (before.thread ≡ now.thread) × IsNotedStack u.journal now.stack before.stack = subst (λ (b : Bool). IsUndoneBy b u.journal u.spare now before) c.if-self.false is in
    c.undo.ensures before noted.0 noted.1
