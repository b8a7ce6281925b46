use Rattle.std.specs.Prelude.{IfOk}
use Rattle.std.proofs.Common.{List, sym, subst, ◌∙◌, arith}
use Rattle.cml_step.specs.Begins.{Advances}
use Rattle.cml_step.specs.Calls.{text_of}
use Rattle.cml_step.specs.Machines.{PlainHeld}
use Rattle.cml_step.specs.Stacks.{StackFits, term_of}
use Rattle.cml_step.specs.Terms.{Term}
use Rattle.cml_step.proofs.SliceLemmas.{slice_goes, goes_none}
use Rattle.cml_step.proofs.UndoLemmas.{runs_as, none_agrees}
use Rattle.cml_step.proofs.steps.go_on.Goals as goal

pub returns-in-Asks : goal.returns-in-Asks
returns-in-Asks c =
    let b = c.still.new in
    let h = runs_as c.args.program.now c.args.most b.journal b.asked c.args.stack.now b.stack c.in-Asks.is c.in-Some.ensures.begun in
    record {
      meant = record { within = h.within; goes = λ none. absurd (h.something none); asks = λ _. h.meant c.args.thread.0 };
      fits = h.fits;
      agrees = h.agrees;
    }

pub returns-else-steps-eq0 : goal.returns-else-steps-eq0
returns-else-steps-eq0 c =
    let p = c.args.program.now in
    let b = c.still.new in
    let h = runs_as p c.args.most b.journal b.asked c.args.stack.now b.stack c.in-Goes.is c.in-Some.ensures.begun in
    record {
      meant = record {
        within = (omega (arith, c.if-steps-eq0.false), h.within);
        goes = λ _. slice_goes (text_of p) c.args.thread.0 c.args.most c.in-Goes.steps (term_of p c.args.stack.now) (term_of p b.stack) (h.goes c.args.thread.0) h.within;
        asks = λ something. absurd (something h.asks);
      };
      fits = h.fits;
      agrees = none_agrees p b.asked h.asks;
    }

pub one_step-requires-clause-fits : goal.one_step-requires-clause-fits
one_step-requires-clause-fits c =
    let b = c.still.new in
    (runs_as c.args.program.now c.args.most b.journal b.asked c.args.stack.now b.stack c.in-Goes.is c.in-Some.ensures.begun).fits

pub one_step-requires-clause-nothing : goal.one_step-requires-clause-nothing
one_step-requires-clause-nothing c =
    let b = c.still.new in
    (runs_as c.args.program.now c.args.most b.journal b.asked c.args.stack.now b.stack c.in-Goes.is c.in-Some.ensures.begun).asks

pub returns-then-steps-eq0-clause-meant : goal.returns-then-steps-eq0-clause-meant
returns-then-steps-eq0-clause-meant c =
    let p = c.args.program.now in
    let th = c.args.thread.0 in
    let b = c.still.new in
    let d = c.one_step.new in
    let h = runs_as p c.args.most b.journal b.asked c.args.stack.now b.stack c.in-Goes.is c.in-Some.ensures.begun in
    subst (λ (t : Term). IfOk c.one_step.result (λ n. Advances (text_of p) th c.args.most n d.asked t (term_of p d.stack)))
    (sym (goes_none (text_of p) th c.in-Goes.steps (term_of p c.args.stack.now) (term_of p b.stack) c.if-steps-eq0.true (h.goes th))) c.one_step.ensures.meant

pub one_step-requires-in-None-clause-fits : goal.one_step-requires-in-None-clause-fits
one_step-requires-in-None-clause-fits c = subst (StackFits c.args.program.now) (sym (c.still.ensures.stays c.in-None.is).0) c.requires.fits

pub one_step-requires-in-None-clause-nothing : goal.one_step-requires-in-None-clause-nothing
one_step-requires-in-None-clause-nothing c = (c.still.ensures.stays c.in-None.is).1 ∙ c.requires.nothing

pub returns-in-None-clause-meant : goal.returns-in-None-clause-meant
returns-in-None-clause-meant c =
    let p = c.args.program.now in
    let d = c.one_step-in-None.new in
    subst (λ (hs : List PlainHeld). IfOk c.one_step-in-None.result (λ n. Advances (text_of p) c.args.thread.0 c.args.most n d.asked (term_of p hs) (term_of p d.stack)))
    (c.still.ensures.stays c.in-None.is).0 c.one_step-in-None.ensures.meant
