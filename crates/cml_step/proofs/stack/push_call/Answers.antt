use Rattle.std.proofs.Common.{refl, subst}
use Rattle.cml_step.specs.declared.ask.Ask.TheVariants as ask
use Rattle.cml_step.specs.declared.call.Wait.TheVariants as wait
use Rattle.cml_step.specs.declared.call.Call.{Call}
use Rattle.cml_step.specs.Steps.{pushed}
use Rattle.cml_step.specs.Stacks.{IsStep, term_of}
use Rattle.cml_step.proofs.StackLemmas.{begun, begun_fits}
use Rattle.cml_step.proofs.stack.push_call.Goals as goal

pub returns-clause-meant : goal.returns-clause-meant
returns-clause-meant c =
    let call : Call = record { func = c.args.func; at = 0; slots = c.args.args; wait = wait.Runs; asked = 0 } in
    subst (λ e. IsStep c.args.program.now c.push.result ask.Nothing (pushed e (term_of c.args.program.now c.args.below.now)) c.push.new.below)
    (begun c.args.program.now c.args.args.items call refl refl refl) (c.push.ensures.meant c.args.program.now)

pub returns-clause-fits : goal.returns-clause-fits
returns-clause-fits c =
    let call : Call = record { func = c.args.func; at = 0; slots = c.args.args; wait = wait.Runs; asked = 0 } in
    c.push.ensures.fits c.args.program.now (begun_fits c.args.program.now call c.requires.agrees refl) c.requires.beneath
