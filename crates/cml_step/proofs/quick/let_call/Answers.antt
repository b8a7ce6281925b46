use Rattle.cml_step.specs.declared.call.Call.{Call}
use Rattle.cml_step.proofs.QuickLemmas.{runs_fits}
use Rattle.cml_step.proofs.quick.let_call.Goals as goal

pub returns-clause-goes : goal.returns-clause-goes
returns-clause-goes c = λ on self below room. rw (← c.pad.ensures.same c.args.f.now.names) (c.entered.ensures.goes on self below room)

pub entered-requires-clause-call : goal.entered-requires-clause-call
entered-requires-clause-call c =
    let old = c.args.call.now in
    let new : Call = record { func = old.func; at = old.at; slots = c.pad.new.slots; wait = old.wait; asked = old.asked } in
    (runs_fits c.args.program.now new c.requires.call.0.there (c.pad.ensures.agree _ c.requires.call.0.agree) c.requires.call.1, c.requires.call.1)
