use Rattle.cml_book.proofs.Keepings.{keeps_nack}
use Rattle.cml_book.proofs.book.Book.nack.Goals as goal

pub invariant_of-self : goal.invariant_of-self
invariant_of-self g c = (keeps_nack c.self.inside.state _ _ _ c.args.owner.0 c.nack.result c.nack.new.self c.nack.ensures c.self.invariant.0, c.self.invariant.1, c.self.invariant.2)
