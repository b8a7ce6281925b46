use Rattle.std.proofs.Common.{◌∙◌, [], refl, ap}
use Rattle.cml_book.specs.contracts.state.State.{the_view}
use Rattle.cml_book.specs.Views.{queues_of}
use Rattle.cml_book.proofs.ObjectLemmas.{stays_kept, make_mailbox_true, queues_push}
use Rattle.cml_book.proofs.state.State.make_mailbox.Goals as goal

pub returns-clause-kept : goal.returns-clause-kept
returns-clause-kept c = λ entries told.
    let pushed = ap queues_of c.in-Ok.ensures.objects ∙ queues_push c.self.inside.mailboxes.objects c.new.result [] c.new.ensures in
    rw (← c.self.view_is, pushed) (stays_kept _ _ _ _ _ _ refl refl refl (make_mailbox_true (the_view c.self.inside) told))
