use Rattle.std.proofs.Common.{subst}
use Rattle.cml_step.specs.AskViews.{plain_ask}
use Rattle.cml_step.specs.Machines.{PlainMachine}
use Rattle.cml_step.specs.Rans.{IsSlice}
use Rattle.cml_step.proofs.slices.run_slice.Goals as goal

pub returns : goal.returns
returns c =
    subst (λ (m : PlainMachine). IsSlice (record {
      program = c.args.program.now;
      start = m;
      end = c.run.new.self;
      ask = plain_ask c.run.new.asked;
      steps =
          c.in_ok-steps.steps;
    })) c.in_ok-end.ensures c.in_ok-steps.ensures
