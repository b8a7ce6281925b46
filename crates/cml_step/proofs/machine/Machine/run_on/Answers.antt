use Rattle.std.proofs.Common.{◌≡◌, ℕ, ◌+◌, ap, sym, ◌∙◌, subst, Result, Ok, arith, ◌-◌}
use Rattle.cml_step.specs.AskViews.{plain_ask}
use Rattle.cml_step.specs.Calls.{text_of}
use Rattle.cml_step.specs.Machines.{PlainMachine, machine_term}
use Rattle.cml_step.specs.Rans.{IsSlice}
use Rattle.cml_step.specs.Slices.{GoesIn, sliced}
use Rattle.cml_step.specs.Stacks.{term_of}
use Rattle.cml_step.proofs.RanLemmas.{slice_made}
use Rattle.cml_step.proofs.SliceLemmas.{slice_rest, slice_within}
use Rattle.cml_step.proofs.machine.Machine.run_on.Goals as goal

pub returns-in-Ok-clause-meant : goal.returns-in-Ok-clause-meant
returns-in-Ok-clause-meant c =
    let p = c.args.program.now in
    let m : PlainMachine = c.args.spare.now in
    let th = c.self.inside.thread.0 in
    let es = c.run.new.stack in
    let ask = plain_ask c.run.new.asked in
    let steps = c.args.done + c.in-Ok.more in
    let r : Result ℕ (Unit {0}) = Ok steps in
    let same : th ≡ m.thread = ap (λ (x : PlainMachine). x.thread) c.self.view_is ∙ c.requires.thread in
    let goes = subst (λ (x : PlainMachine). GoesIn (text_of p) x.thread c.args.done (machine_term p m) (machine_term p x)) (sym c.self.view_is) c.requires.goes.1 in
    let meant = slice_rest (text_of p) th c.args.done c.in-Ok.more (machine_term p m) (term_of p c.self.inside.stack) (term_of p es) ask goes c.requires.goes.0 c.in-Ok.ensures.meant in
    subst (λ n. IsSlice (record { program = p; start = m; end = record { thread = n; stack = es }; ask = ask; steps = steps })) (sym same)
    (slice_made p m es r c.run.new.asked c.requires.fits.0 c.requires.awaits
    (subst (λ n. sliced (text_of p) n (machine_term p m) ≡ record { ask = ask; end = term_of p es; steps = steps }) same meant) c.in-Ok.ensures.fits c.in-Ok.ensures.agrees)

pub overflow_add-result : goal.overflow_add-result
overflow_add-result c =
    let p = c.args.program.now in
    let few = slice_within (text_of p) c.self.inside.thread.0 (1000 - c.args.done) c.in-Ok.more (term_of p c.self.inside.stack) (term_of p c.run.new.stack)
    (plain_ask c.run.new.asked) c.in-Ok.ensures.meant in
    omega (arith, few, c.requires.goes.0)
