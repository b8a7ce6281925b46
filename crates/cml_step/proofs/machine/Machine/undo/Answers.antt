use Rattle.std.proofs.Common.{◌≡◌, ℕ, List, ap, sym, ◌∙◌, subst}
use Rattle.cml_step.specs.Machines.{PlainHeld, PlainMachine}
use Rattle.cml_step.specs.Undone.{IsNotedStack}
use Rattle.cml_step.proofs.machine.Machine.undo.Goals as goal

pub returns : goal.returns
returns c = λ before t noted.
    let of : ℕ → List PlainHeld → PlainMachine = λ n hs. record { thread = n; stack = hs } in
    let same : c.self.inside.thread.0 ≡ before.thread = ap (λ (m : PlainMachine). m.thread) c.self.view_is ∙ sym t in
    let stack : c.undo_noted.new.stack ≡ before.stack = c.undo_noted.ensures before.stack (subst
    (λ (m : PlainMachine). IsNotedStack c.args.journal.now m.stack before.stack) (sym c.self.view_is) noted) in
    ap (of c.self.inside.thread.0) stack ∙ ap (λ n. of n before.stack) same
