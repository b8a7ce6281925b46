use Rattle.cml_book.proofs.Keepings.{keeps_spawn}
use Rattle.cml_book.proofs.book.Book.spawn.Goals as goal

pub invariant_of-self : goal.invariant_of-self
invariant_of-self g c = (keeps_spawn c.self.inside.state _ _ _ c.spawn.result c.spawn.new.self c.spawn.ensures c.self.invariant.0, c.self.invariant.1, c.self.invariant.2)
