use Rattle.std.proofs.Common.{◌∷◌, ◌∙◌, arith}
use Rattle.cml_step.specs.Plain.{running}
use Rattle.cml_step.proofs.SliceLemmas.{goes_more}
use Rattle.cml_step.proofs.plain.flat_run.Goals as goal

pub loop-done-preserved : goal.loop-done-preserved
loop-done-preserved c =
    let f = c.args.f.now in
    let l = c.loop-done in
    record {
      within = omega (arith, c.loop-done-test.true);
      goes = λ p self below.
          goes_more p self l.done (running f c.args.from c.args.slots.now ∷ below) (running f l.at l.slots ∷ below) (running f c.in-Some-op_step.next c.op_step.new.slots ∷ below)
          (l.invariant.goes p self below) (c.in-Some-op_step.ensures.goes p self below);
      agree = λ fs h. c.op_step.ensures.agree fs (l.invariant.agree fs h);
      noted = λ on. c.op_step.ensures.noted on ∙ l.invariant.noted on;
    }
