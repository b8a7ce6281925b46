use Rattle.std.proofs.Common.{rules}
use Rattle.cml_book.proofs.Awaited.{counts-end}
use Rattle.cml_book.proofs.state.State.end.Goals as goal

pub invariant_of-self : goal.invariant_of-self
invariant_of-self c = (
  search rules,
  search rules,
  search rules,
  rw (c.put.ensures, c.ended.ensures)
      (counts-end _ _ _ (rw (← c.self.view_is) at c.requires) c.self.invariant.3),
  c.self.invariant.4,
  c.self.invariant.5,
)
