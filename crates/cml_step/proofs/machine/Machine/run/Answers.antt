use Rattle.std.proofs.Common.{◌≡◌, sym, subst}
use Rattle.std.specs.Prelude.{IfOk}
use Rattle.cml_step.specs.Answers as await
use Rattle.cml_step.specs.Answers.{top_await}
use Rattle.cml_step.specs.AskViews.{plain_ask}
use Rattle.cml_step.specs.Machines.{PlainMachine, machine_term, Fits}
use Rattle.cml_step.specs.Rans.{IsSlice}
use Rattle.cml_step.proofs.RanLemmas.{slice_made}
use Rattle.cml_step.proofs.machine.Machine.run.Goals as goal

pub returns : goal.returns
returns c =
    let p = c.args.program.now in
    let m : PlainMachine = record { thread = c.self.inside.thread.0; stack = c.self.inside.stack } in
    let n : PlainMachine = record { thread = m.thread; stack = c.run.new.stack } in
    subst (λ (x : PlainMachine). IfOk c.run.result (λ steps. IsSlice (record { program = p; start = x; end = n; ask = plain_ask c.run.new.asked; steps = steps }))) c.self.view_is
    (slice_made p m c.run.new.stack c.run.result c.run.new.asked (subst (Fits p) (sym c.self.view_is) c.requires.fits)
    (subst (λ x. top_await (machine_term p x) ≡ await.nothing) (sym c.self.view_is) c.requires.awaits) c.run.ensures.meant c.run.ensures.fits c.run.ensures.agrees)
