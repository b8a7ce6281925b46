use Rattle.std.proofs.Common.{refl}
use Rattle.cml_book.specs.contracts.state.State.{the_view}
use Rattle.cml_book.proofs.ObjectLemmas.{stays_kept, make_ivar_true}
use Rattle.cml_book.proofs.state.State.make_ivar.Goals as goal

pub returns-clause-kept : goal.returns-clause-kept
returns-clause-kept c = λ entries told.
    rw (← c.self.view_is, c.in-Ok.ensures.objects, c.new.ensures) (stays_kept _ _ _ _ _ _ refl refl refl (make_ivar_true (the_view c.self.inside) told))
