use Rattle.std.proofs.Common.{ap, ◌∙◌, length, take}
use Rattle.cml_step.specs.declared.call.Call.{Call}
use Rattle.cml_step.proofs.QuickLemmas.{runs_fits}
use Rattle.cml_step.proofs.sync.let_waits.Goals as goal

pub returns-clause-gives : goal.returns-clause-gives
returns-clause-gives c = λ on self below. rw (← c.pad.ensures.same c.args.f.now.names) (c.waits.ensures.gives on self below)

pub waits-requires-clause-call : goal.waits-requires-clause-call
waits-requires-clause-call c =
    let old = c.args.call.now in
    let new : Call = record { func = old.func; at = old.at; slots = c.pad.new.slots; wait = old.wait; asked = old.asked } in
    runs_fits c.args.program.now new c.requires.call.0.there (c.pad.ensures.agree _ c.requires.call.0.agree) c.requires.call.1

pub returns-clause-had : goal.returns-clause-had
returns-clause-had c = record {
  slots = ap (λ vs. take (length c.args.call.now.slots.items) vs.items) c.waits.ensures.kept.0 ∙ c.pad.ensures.had;
  func = c.waits.ensures.kept.1;
}
