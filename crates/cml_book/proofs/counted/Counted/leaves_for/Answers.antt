use Rattle.std.proofs.Common.{sym}
use Rattle.cml_value.specs.Group.{bases}
use Rattle.cml_book.proofs.Quiet.{none_awaited}
use Rattle.cml_book.proofs.counted.Counted.leaves_for.Goals as goal

pub returns-then-self-clause-leaves : goal.returns-then-self-clause-leaves
returns-then-self-clause-leaves c = rw (← c.self.view_is) (sym (none_awaited c.args.tick (bases c.self.inside.flat) (c.self.invariant.2 c.if-self.true)))
