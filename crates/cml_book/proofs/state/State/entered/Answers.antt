use Rattle.std.proofs.Common.{sym, ◌∙◌}
use Rattle.cml_book.proofs.Plain.{group_stays, standing_stays, quiet_enters}
use Rattle.cml_book.proofs.state.State.entered.Goals as goal

pub laid_flat-requires-clause-stays : goal.laid_flat-requires-clause-stays
laid_flat-requires-clause-stays c = λ is.
    let w = c.args.self.now in
    let g = c.args.group.now in
    group_stays w c.now.result g (standing_stays w g c.args.standing.scoped c.requires.standing (sym c.is_some.ensures ∙ is))

pub laid_flat-requires-clause-lightless : goal.laid_flat-requires-clause-lightless
laid_flat-requires-clause-lightless c = λ is. quiet_enters c.args.self.now c.now.result c.args.group.now (c.requires.quiet is)
