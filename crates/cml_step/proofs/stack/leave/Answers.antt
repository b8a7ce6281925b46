use Rattle.std.proofs.Common.{List, sym, subst}
use Rattle.cml_step.specs.Machines.{PlainHeld}
use Rattle.cml_step.specs.Stacks.{IsStep, EachBeneath, term_of}
use Rattle.cml_step.specs.Steps.{delivered}
use Rattle.cml_step.proofs.stack.leave.Goals as goal

pub deliver-requires-clause-beneath : goal.deliver-requires-clause-beneath
deliver-requires-clause-beneath c =
    let s = c.requires.stands in
    subst (EachBeneath c.args.program.now) (sym (c.in_ok-drop_top.ensures s.rest s.top s.is)) s.beneath

pub returns-clause-meant : goal.returns-clause-meant
returns-clause-meant c = λ hs h e.
    let p = c.args.program.now in
    subst (λ (x : List PlainHeld). IsStep p c.deliver.result c.deliver.new.asked (delivered c.args.value (term_of p x)) c.deliver.new.stack) (c.in_ok-drop_top.ensures hs h e) c.deliver.ensures.meant
