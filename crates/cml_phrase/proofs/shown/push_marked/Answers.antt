use Rattle.cml_phrase.proofs.AppendLemmas.{marked_by_parts}
use Rattle.cml_phrase.proofs.shown.push_marked.Goals as goal

pub returns : goal.returns
returns c =
    rw c.in-Some.is (marked_by_parts _ _ _ _ _ _ _ _ _ _ c.line_before-before.ensures c.line_behind-behind.ensures c.saturating_sub.ensures c.in_ok-push_line.ensures c.in_ok-push_mark.ensures)
