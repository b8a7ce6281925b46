use Rattle.cml_book.proofs.Keepings.{keeps_swap}
use Rattle.cml_book.proofs.book.Book.make_swap.Goals as goal

pub invariant_of-self : goal.invariant_of-self
invariant_of-self g c = (keeps_swap c.self.inside.state _ _ _ c.make_swap.result c.make_swap.new.self c.make_swap.ensures.step c.self.invariant.0, c.self.invariant.1, c.self.invariant.2)
