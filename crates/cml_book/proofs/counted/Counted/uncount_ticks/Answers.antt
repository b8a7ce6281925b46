use Rattle.std.proofs.Common.{arith}
use Rattle.cml_value.specs.Group.{bases}
use Rattle.cml_book.proofs.Awaited.{all_there, all_left}
use Rattle.cml_book.proofs.Quiet.{none_awaited}
use Rattle.cml_book.proofs.counted.Counted.uncount_ticks.Goals as goal

pub returns-then-self-clause-left : goal.returns-then-self-clause-left
returns-then-self-clause-left c = rw (← c.self.view_is) (λ t. (let none = none_awaited t (bases c.self.inside.flat) (c.self.invariant.2 c.if-self.true) in omega arith))

pub uncount_ticks-requires-clause-counted : goal.uncount_ticks-requires-clause-counted
uncount_ticks-requires-clause-counted c = λ t. all_there t c.self.inside.flat c.len.result _ c.len.ensures.len (rw (← c.self.view_is) at (c.requires t))

pub returns-clause-left : goal.returns-clause-left
returns-clause-left c = rw (← c.self.view_is) (all_left c.self.inside.flat c.len.result _ _ c.len.ensures.len c.uncount_ticks.ensures.left)
