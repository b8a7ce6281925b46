use Rattle.std.proofs.Common.{◌∷◌, ◌∙◌, ap, sym, subst}
use Rattle.cml_step.specs.Callers.{calls_on, AllCallsFit}
use Rattle.cml_step.specs.Calls.{entry_of}
use Rattle.cml_step.specs.Stacks.{CallFits}
use Rattle.cml_step.specs.Steps.{delivered, goes_on}
use Rattle.cml_step.proofs.QuickLemmas.{on_pushed, fit_popped}
use Rattle.cml_step.proofs.quick.returned.Goals as goal

pub returns-in-Some-clause-goes : goal.returns-in-Some-clause-goes
returns-in-Some-clause-goes c = λ on below.
    let p = c.args.program.now in
    let left = c.pop.new.self.items in
    ap (λ cs. delivered c.args.value (calls_on p cs below)) c.in-Some.ensures.items
    ∙ ap (delivered c.args.value) (on_pushed p left c.in-Some.caller below)
    ∙ c.deliver_to_call.ensures.meant (calls_on p left below)
    ∙ ap (λ k. goes_on (entry_of p k ∷ calls_on p left below)) (sym c.replace-callee.ensures.after)

pub returns-in-Some-clause-callers : goal.returns-in-Some-clause-callers
returns-in-Some-clause-callers c =
    let p = c.args.program.now in
    (fit_popped p c.pop.new.self.items c.in-Some.caller (subst (AllCallsFit p) c.in-Some.ensures.items c.requires.callers)).0

pub deliver_to_call-requires-clause-fits : goal.deliver_to_call-requires-clause-fits
deliver_to_call-requires-clause-fits c =
    let p = c.args.program.now in
    (fit_popped p c.pop.new.self.items c.in-Some.caller (subst (AllCallsFit p) c.in-Some.ensures.items c.requires.callers)).1

pub returns-in-Some-clause-fits : goal.returns-in-Some-clause-fits
returns-in-Some-clause-fits c = subst (CallFits c.args.program.now) (sym c.replace-callee.ensures.after) c.deliver_to_call.ensures.fits
