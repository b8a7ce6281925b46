use Rattle.std.proofs.Common.{arith}
use Rattle.cml_value.specs.Group.{bases}
use Rattle.cml_book.proofs.Quiet.{none_awaited}
use Rattle.cml_book.proofs.counted.Counted.count_ticks.Goals as goal

pub returns-then-self-clause-ok : goal.returns-then-self-clause-ok
returns-then-self-clause-ok c = rw (← c.self.view_is) (λ t. (let none = none_awaited t (bases c.self.inside.flat) (c.self.invariant.2 c.if-self.true) in omega arith))
