use Rattle.cml_book.proofs.Plain.{quiet_stands}
use Rattle.cml_book.proofs.state.State.standing.Goals as goal

pub returns-in-Some-clause-standing : goal.returns-in-Some-clause-standing
returns-in-Some-clause-standing c = quiet_stands c.args.self.now c.args.group.now c.in-Some.scoped c.in-Some.ensures.bases c.in-Some.ensures.scopes
