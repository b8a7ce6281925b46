use Rattle.std.proofs.Common.{◌≡◌, ◌<◌, ◌+◌, ◌-◌, ◌∙◌, ap, sym, arith}
use Rattle.cml_check.specs.InOrder.{arities}
use Rattle.cml_step.specs.declared.ask.Ask.{Ask}
use Rattle.cml_step.specs.Agrees.{ask_agrees}
use Rattle.cml_step.specs.AskViews.{plain_ask}
use Rattle.cml_step.specs.Calls.{text_of}
use Rattle.cml_step.specs.Stacks.{term_of}
use Rattle.cml_step.proofs.SliceLemmas.{slice_after, slice_moves, slice_over, slice_skips}
use Rattle.cml_step.proofs.steps.run_noting.Goals as goal

pub returns-then-done-most : goal.returns-then-done-most
returns-then-done-most c =
    let p = c.args.program.now in
    let n = c.in_ok-quick.quick in
    record {
      meant =
          c.loop-done.invariant.left
          ∙ slice_skips (text_of p) c.args.thread.0 c.args.most n c.loop-done.done (term_of p c.loop-done.stack)
          (term_of p c.quick_steps.new.stack) (c.in_ok-quick.ensures.goes c.args.thread.0) c.in_ok-quick.ensures.within
          ∙ slice_over (text_of p) c.args.thread.0 c.args.most (c.loop-done.done + n) (term_of p c.quick_steps.new.stack)
          c.loop-done.asked (omega (arith, c.if-done-most.true)) c.loop-done.invariant.nothing;
      fits = c.in_ok-quick.ensures.fits;
      agrees = ap (λ (a : Ask). ask_agrees (arities p) (plain_ask a)) c.loop-done.invariant.nothing;
    }

pub returns-then-not-asks_nothing : goal.returns-then-not-asks_nothing
returns-then-not-asks_nothing c =
    let p = c.args.program.now in
    let n = c.in_ok-quick.quick in
    let m = c.in_ok-more.more in
    record {
      meant =
          c.loop-done.invariant.left
          ∙ slice_skips (text_of p) c.args.thread.0 c.args.most n c.loop-done.done (term_of p c.loop-done.stack)
          (term_of p c.quick_steps.new.stack) (c.in_ok-quick.ensures.goes c.args.thread.0) c.in_ok-quick.ensures.within
          ∙ slice_after (text_of p) c.args.thread.0 (c.args.most - (c.loop-done.done + n)) (c.loop-done.done + n) m (term_of p c.quick_steps.new.stack)
          (term_of p c.go_on.new.stack) (plain_ask c.go_on.new.asked) (c.in_ok-more.ensures.meant.asks (c.asks_nothing.ensures.something c.if-not-asks_nothing.true));
      fits = c.in_ok-more.ensures.fits;
      agrees = c.in_ok-more.ensures.agrees;
    }

pub loop-done-preserved : goal.loop-done-preserved
loop-done-preserved c =
    let p = c.args.program.now in
    let n = c.in_ok-quick.quick in
    let m = c.in_ok-more.more in
    let none = c.asks_nothing.ensures.nothing c.if-not-asks_nothing.false in
    record {
      within = omega (arith, c.in_ok-quick.ensures.within, c.loop-done-test.true, c.in_ok-more.ensures.meant.within.1);
      fits = c.in_ok-more.ensures.fits;
      nothing = none;
      left =
          c.loop-done.invariant.left
          ∙ slice_skips (text_of p) c.args.thread.0 c.args.most n c.loop-done.done (term_of p c.loop-done.stack)
          (term_of p c.quick_steps.new.stack) (c.in_ok-quick.ensures.goes c.args.thread.0) c.in_ok-quick.ensures.within
          ∙ slice_moves (text_of p) c.args.thread.0 c.args.most (c.loop-done.done + n) m (term_of p c.quick_steps.new.stack) (term_of p c.go_on.new.stack)
          (c.in_ok-more.ensures.meant.goes none);
    }

pub loop-done-smaller : goal.loop-done-smaller
loop-done-smaller c = omega (arith, c.in_ok-more.ensures.meant.within.0, c.loop-done-test.true)
