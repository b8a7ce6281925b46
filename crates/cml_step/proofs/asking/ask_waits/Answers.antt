use Rattle.std.proofs.Common.{◌∷◌, ◌∙◌, ap, sym}
use Rattle.cml_check.specs.Syntax.{effect_map, name_at}
use Rattle.cml_check.specs.Ops.{told_effect}
use Rattle.cml_step.specs.declared.call.Call.{Call}
use Rattle.cml_step.specs.declared.call.Wait.TheVariants as wait
use Rattle.cml_step.specs.AskViews.{plain_ask}
use Rattle.cml_step.specs.Calls.{call_at, text_of}
use Rattle.cml_step.specs.Steps.{effect_step, asks}
use Rattle.cml_step.specs.Variables.{bound}
use Rattle.cml_step.proofs.QuickLemmas.{entry_there, fits_there}
use Rattle.cml_step.proofs.asking.ask_waits.Goals as goal

pub returns-in-Some-clause-meant : goal.returns-in-Some-clause-meant
returns-in-Some-clause-meant c = λ on self below.
    let p = c.args.program.now in
    let f = c.args.f.now in
    let old = c.args.call.now in
    let waiting = call_at f c.args.next old.slots.items wait.Drops in
    let kept : Call = record { func = old.func; at = c.args.next; slots = old.slots; wait = wait.Drops; asked = old.at } in
    ap (λ ws. effect_step (text_of p) self (bound f.names ws) (effect_map (name_at f.names) (told_effect c.args.told.now)) (waiting ∷ below)) (sym c.as_slice.ensures.value)
    ∙ c.in-Some.ensures.gives self (waiting ∷ below)
    ∙ ap (λ t. asks (plain_ask c.in-Some.ask) (t ∷ below)) (sym (entry_there p f kept c.requires.function.1))

pub returns-in-Some-clause-fits : goal.returns-in-Some-clause-fits
returns-in-Some-clause-fits c =
    let old = c.args.call.now in
    let kept : Call = record { func = old.func; at = c.args.next; slots = old.slots; wait = wait.Drops; asked = old.at } in
    fits_there c.args.program.now c.args.f.now kept c.requires.call.there c.requires.function.1 c.requires.call.agree tt
