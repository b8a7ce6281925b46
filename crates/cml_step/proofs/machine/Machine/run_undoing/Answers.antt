use Rattle.std.proofs.Common.{◌≡◌, ℕ, ap, sym, ◌∙◌, subst, Result, Ok}
use Rattle.std.specs.Prelude.{IfOk, OnErr}
use Rattle.cml_step.specs.Answers as await
use Rattle.cml_step.specs.Answers.{top_await}
use Rattle.cml_step.specs.AskViews.{plain_ask}
use Rattle.cml_step.specs.Calls.{text_of}
use Rattle.cml_step.specs.Machines.{PlainMachine, machine_term, Fits}
use Rattle.cml_step.specs.Rans.{IsSlice}
use Rattle.cml_step.specs.Slices.{GoesIn}
use Rattle.cml_step.specs.Stacks.{term_of}
use Rattle.cml_step.specs.Undone.{IsNotedStack}
use Rattle.cml_step.proofs.RanLemmas.{slice_made}
use Rattle.cml_step.proofs.UndoLemmas.{begins_as, machine_of, machine_was, on_ok}
use Rattle.cml_step.proofs.machine.Machine.run_undoing.Goals as goal

pub returns-in-Asks-clause-meant : goal.returns-in-Asks-clause-meant
returns-in-Asks-clause-meant c =
    let p = c.args.program.now in
    let b = c.begin_slice.new in
    let h = begins_as p b.journal b.asked c.self.inside.stack b.stack b.spare c.in-Asks.is c.in_ok-begun.ensures.begins in
    let m = machine_of c.self.inside.thread.0 c.self.inside.stack in
    let r : Result ℕ (Unit {0}) = Ok c.in-Asks.steps in
    let end = machine_of m.thread b.stack in
    subst (λ (x : PlainMachine). IsSlice (record { program = p; start = x; end = end; ask = plain_ask b.asked; steps = c.in-Asks.steps })) c.self.view_is
    (slice_made p m b.stack r b.asked (subst (Fits p) (sym c.self.view_is) c.requires.fits)
    (subst (λ (x : PlainMachine). top_await (machine_term p x) ≡ await.nothing) (sym c.self.view_is) c.requires.awaits) (h.meant m.thread) h.fits h.agrees)

pub returns-in-Asks-clause-undo : goal.returns-in-Asks-clause-undo
returns-in-Asks-clause-undo c =
    let p = c.args.program.now in
    let b = c.begin_slice.new in
    let h = begins_as p b.journal b.asked c.self.inside.stack b.stack b.spare c.in-Asks.is c.in_ok-begun.ensures.begins in
    (ap (λ (x : PlainMachine). x.thread) (sym c.self.view_is), subst (λ (x : PlainMachine). IsNotedStack b.journal b.stack x.stack) c.self.view_is h.noted)

pub run_on-requires-clause-fits : goal.run_on-requires-clause-fits
run_on-requires-clause-fits c =
    let p = c.args.program.now in
    let b = c.begin_slice.new in
    let h = begins_as p b.journal b.asked c.self.inside.stack b.stack b.spare c.in-Goes.is c.in_ok-begun.ensures.begins in
    (subst (Fits p) (sym (machine_was h.spare_is c.self.view_is)) c.requires.fits, h.fits)

pub run_on-requires-clause-awaits : goal.run_on-requires-clause-awaits
run_on-requires-clause-awaits c =
    let p = c.args.program.now in
    let b = c.begin_slice.new in
    let h = begins_as p b.journal b.asked c.self.inside.stack b.stack b.spare c.in-Goes.is c.in_ok-begun.ensures.begins in
    subst (λ (m : PlainMachine). top_await (machine_term p m) ≡ await.nothing) (sym (machine_was h.spare_is c.self.view_is)) c.requires.awaits

pub run_on-requires-clause-nothing : goal.run_on-requires-clause-nothing
run_on-requires-clause-nothing c =
    let p = c.args.program.now in
    let b = c.begin_slice.new in
    let h = begins_as p b.journal b.asked c.self.inside.stack b.stack b.spare c.in-Goes.is c.in_ok-begun.ensures.begins in
    h.asks

pub run_on-requires-clause-goes : goal.run_on-requires-clause-goes
run_on-requires-clause-goes c =
    let p = c.args.program.now in
    let b = c.begin_slice.new in
    let h = begins_as p b.journal b.asked c.self.inside.stack b.stack b.spare c.in-Goes.is c.in_ok-begun.ensures.begins in
    let n = c.self.inside.thread.0 in
    (h.within, subst (λ hs. GoesIn (text_of p) n c.in-Goes.done (term_of p hs) (term_of p b.stack)) (sym h.spare_is) (h.goes n))

pub returns-in-Goes-clause-meant : goal.returns-in-Goes-clause-meant
returns-in-Goes-clause-meant c =
    let p = c.args.program.now in
    let b = c.begin_slice.new in
    let h = begins_as p b.journal b.asked c.self.inside.stack b.stack b.spare c.in-Goes.is c.in_ok-begun.ensures.begins in
    let d = c.run_on.new in
    subst (λ (m : PlainMachine). IfOk c.run_on.result (λ steps. IsSlice (record { program = p; start = m; end = d.self; ask = plain_ask d.asked; steps = steps })))
    (machine_was h.spare_is c.self.view_is) c.run_on.ensures.meant

pub returns-in-Goes-clause-undo : goal.returns-in-Goes-clause-undo
returns-in-Goes-clause-undo c =
    let p = c.args.program.now in
    let b = c.begin_slice.new in
    let h = begins_as p b.journal b.asked c.self.inside.stack b.stack b.spare c.in-Goes.is c.in_ok-begun.ensures.begins in
    on_ok c.run_on.result (λ e. sym (e ∙ machine_was h.spare_is c.self.view_is)) c.run_on.ensures.spare

pub returns-in-Goes-clause-err : goal.returns-in-Goes-clause-err
returns-in-Goes-clause-err c =
    let p = c.args.program.now in
    let b = c.begin_slice.new in
    let h = begins_as p b.journal b.asked c.self.inside.stack b.stack b.spare c.in-Goes.is c.in_ok-begun.ensures.begins in
    subst (λ (m : PlainMachine). OnErr c.run_on.result (c.run_on.new.self ≡ m)) (machine_was h.spare_is c.self.view_is) c.run_on.ensures.err
