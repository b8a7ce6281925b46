use Rattle.cml_book.proofs.Keepings.{keeps_chan}
use Rattle.cml_book.proofs.book.Book.make_chan.Goals as goal

pub invariant_of-self : goal.invariant_of-self
invariant_of-self g c = (keeps_chan c.self.inside.state _ _ _ c.make_chan.result c.make_chan.new.self c.make_chan.ensures.step c.self.invariant.0, c.self.invariant.1, c.self.invariant.2)
