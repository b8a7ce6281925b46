use Rattle.std.proofs.Common.{arith}
use Rattle.cml_step.specs.Calls.{text_of}
use Rattle.cml_step.specs.Stacks.{term_of}
use Rattle.cml_step.proofs.SliceLemmas.{slice_first_on, slice_first_asks}
use Rattle.cml_step.proofs.steps.one_step.Goals as goal

pub returns-clause-meant : goal.returns-clause-meant
returns-clause-meant c =
    let p = c.args.program.now in
    let th = c.args.thread.0 in
    let most = c.args.most in
    let d = c.step_or_fault.new in
    let step = c.in_ok-step_or_fault.ensures.meant in
    record {
      within = (omega arith, omega (arith, c.requires.some));
      goes = λ none. slice_first_on (text_of p) th most (term_of p c.args.stack.now) (term_of p d.stack) d.asked c.requires.some step none;
      asks = λ something. slice_first_asks (text_of p) th most (term_of p c.args.stack.now) (term_of p d.stack) d.asked c.requires.some step something;
    }
