use Rattle.std.proofs.Common.{rules}
use Rattle.cml_book.proofs.Awaited.{counts-push}
use Rattle.cml_book.proofs.state.State.spawn.Goals as goal

pub invariant_of-self-2 : goal.invariant_of-self-2
invariant_of-self-2 c = (
  search rules,
  search rules,
  search rules,
  rw
      (c.push_reserved.ensures.items, c.reserve.ensures.items, c.running.ensures) (counts-push _ _ c.self.invariant.3),
  c.self.invariant.4,
  c.self.invariant.5,
)
