use Rattle.cml_objects.proofs.register.Register.lit_waiters.Goals as goal

pub returns-clause-exact : goal.returns-clause-exact
returns-clause-exact g c = λ leaf. rw (← c.self.view_is) (rw c.deref.ensures.value at (c.in_ok-list.ensures.exact leaf))
