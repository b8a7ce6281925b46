use Rattle.cml_book.proofs.book.Book.make_ivar.Goals as goal

pub invariant_of-self : goal.invariant_of-self
invariant_of-self g c = (c.make_ivar.ensures.kept _ _ _ c.self.invariant.0, c.self.invariant.1, c.self.invariant.2)
