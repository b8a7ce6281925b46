use Rattle.cml_judge.proofs.details.details_with.Goals as goal

pub returns : goal.returns
returns c = (c.in_ok-details.details.items, c.in_ok-details.ensures, c.in_ok-push_breaks.ensures)
