use Rattle.std.proofs.Common.{None, ◌∙◌, ap, refl, subst, sym}
use Rattle.cml_properties.specs.declared.property.Finish.TheVariants.{GoesOn}
use Rattle.cml_judge.specs.Stops.{earliest}
use Rattle.cml_judge.proofs.PastLemmas.{StartsSo}
use Rattle.cml_judge.proofs.StopLemmas.{tells_breaks}
use Rattle.cml_judge.proofs.stop.broken_at.Goals as goal

pub returns-in-Some : goal.returns-in-Some
returns-in-Some c =
    let text = c.as_bytes-output.result.now in
    let first = sym c.in-Some.is ∙ (c.earliest.ensures ∙ ap earliest c.as_slice.ensures.value) in
    tells_breaks c.spells_one_at_most.ensures c.args.properties.now c.args.hub.now text (record { output = c.as_bytes-output.result; finish = GoesOn }) c.in_ok-judged.judged.items _
    c.schedule-items.ensures.leads (c.as_bytes-output.ensures.value ∙ c.out.ensures) refl refl c.in_ok-judged.ensures (subst (λ line. StartsSo text line c.start_of.result) first c.start_of.ensures)

pub returns : goal.returns
returns c =
    let text = c.as_bytes-output.result.now in
    let first = sym c.in-None.is ∙ (c.earliest.ensures ∙ ap earliest c.as_slice.ensures.value) in
    tells_breaks c.spells_one_at_most.ensures c.args.properties.now c.args.hub.now text (record { output = c.as_bytes-output.result; finish = GoesOn }) c.in_ok-judged.judged.items None
    c.schedule-items.ensures.leads (c.as_bytes-output.ensures.value ∙ c.out.ensures) refl refl c.in_ok-judged.ensures (subst (λ line. StartsSo text line None) first refl)
