use Rattle.cml_explore.proofs.ToldLemmas.{judgement_so}
use Rattle.cml_explore.proofs.tell.judgement_told.Goals as goal

pub returns : goal.returns
returns c =
    judgement_so c.args.asked.now c.args.hub.now c.in_ok-judged.judged.items c.as_slice.result.now c.as_slice-2.result.now c.fate_of.result c.is_well-well.result
    c.in_ok-breaks.breaks.items c.as_slice-3.result.now c.in_ok-told.told.items c.in_ok-judged.ensures c.as_slice.ensures.value c.as_slice-2.ensures.value c.fate_of.ensures
    c.is_well-well.ensures c.in_ok-breaks.ensures c.as_slice-3.ensures.value c.in_ok-told.ensures
