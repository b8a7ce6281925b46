use Rattle.std.proofs.Common.{◌∷◌, ◌∙◌, ap, sym, false}
use Rattle.cml_check.specs.Syntax.{effect_map, name_at}
use Rattle.cml_check.specs.Ops.{sync_effect}
use Rattle.cml_step.specs.declared.call.Call.{Call}
use Rattle.cml_step.specs.Calls.{call_at, text_of}
use Rattle.cml_step.specs.Steps.{effect_step, pushed}
use Rattle.cml_step.specs.Terms.{force}
use Rattle.cml_step.specs.Puts.{event_over}
use Rattle.cml_step.specs.Variables.{bound}
use Rattle.cml_step.proofs.QuickLemmas.{entry_there, fits_there}
use Rattle.cml_step.proofs.sync.waits.Goals as goal

pub returns-clause-gives : goal.returns-clause-gives
returns-clause-gives c = λ on self below.
    let p = c.args.program.now in
    let f = c.args.f.now in
    let old = c.args.call.now in
    let waiting = call_at f c.args.next old.slots.items c.args.wait in
    let kept : Call = record { func = old.func; at = c.args.next; slots = old.slots; wait = c.args.wait; asked = old.at } in
    ap (λ ws. effect_step (text_of p) self (bound f.names ws) (effect_map (name_at f.names) (sync_effect c.args.offer.now)) (waiting ∷ below)) (sym c.as_slice.ensures.value)
    ∙ c.sync_in.ensures.gives c.if-not-sync_in.false self (waiting ∷ below)
    ∙ ap (λ t. pushed (force (event_over c.sync_in.new.over) false) (t ∷ below)) (sym (entry_there p f kept c.requires.function.1))

pub returns-clause-fits : goal.returns-clause-fits
returns-clause-fits c =
    let old = c.args.call.now in
    let kept : Call = record { func = old.func; at = c.args.next; slots = old.slots; wait = c.args.wait; asked = old.at } in
    fits_there c.args.program.now c.args.f.now kept c.requires.call.there c.requires.function.1 c.requires.call.agree c.requires.waits
