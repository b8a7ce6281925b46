use Rattle.cml_phrase.proofs.AppendLemmas.{five}
use Rattle.cml_phrase.proofs.shown.push_line.Goals as goal

pub returns : goal.returns
returns c =
    five _ _ _ _ _ _ _ _ _ _ _ c.in_ok-extend_from_slice.ensures.items c.in_ok-extend_from_slice-2.ensures.items
    c.in_ok-push_last.ensures c.in_ok-push_first.ensures c.in_ok-extend_from_slice-3.ensures.items
