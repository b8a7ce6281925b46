use Rattle.cml_phrase.proofs.AppendLemmas.{five}
use Rattle.cml_phrase.proofs.shown.push_mark.Goals as goal

pub returns : goal.returns
returns c =
    five _ _ _ _ _ _ _ _ _ _ _ c.in_ok-push_margin.ensures c.in_ok-extend_from_slice.ensures.items
    c.in_ok-push_blanks.ensures (rw c.marked.ensures at c.in_ok-push_carets.ensures)
    c.in_ok-extend_from_slice-2.ensures.items
