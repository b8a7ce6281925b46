use Rattle.std.proofs.Common.{◌≡◌, ◌∙◌, true, refl, sym, arith}
use Rattle.cml_value.specs.Limits.{value_fits}
use Rattle.cml_book.specs.contracts.state.State.{the_view}
use Rattle.cml_book.specs.Views.{queues_of}
use Rattle.cml_book.proofs.ObjectLemmas.{stays_kept, mail_there, mail_done, mail_true, mail_does, accepted_ok, long_enough}
use Rattle.cml_book.proofs.state.State.mail.Goals as goal

pub feed-requires-clause-accepted : goal.feed-requires-clause-accepted
feed-requires-clause-accepted g c =
    let roomy = sym c.mailbox_is_full.ensures ∙ c.if-mailbox_is_full.false in
    accepted_ok _ _ (mail_there (queues_of c.self.inside.mailboxes.objects) c.args.mailbox.0 c.args.value roomy)

pub returns-in-Err-clause-kept : goal.returns-in-Err-clause-kept
returns-in-Err-clause-kept g c =
    rw (← c.self.view_is) (stays_kept _ _ _ _ _ _ refl refl c.in-Err.ensures.told.entries (rw c.in-Err.ensures.states.err (λ l t. c.in-Err.ensures.told.err l ∙ t)))

pub returns-clause-step : goal.returns-clause-step
returns-clause-step g c =
    let there = long_enough c.self.inside.mailboxes.objects c.args.mailbox.0 (omega (arith, c.if-mailbox-len.false, c.len.ensures)) in
    let fits : value_fits c.args.value ≡ true = sym c.fits.ensures ∙ c.if-not-fits.false in
    let roomy = sym c.mailbox_is_full.ensures ∙ c.if-mailbox_is_full.false in
    let done = mail_done (queues_of c.self.inside.mailboxes.objects) (queues_of c.feed.new.objects.objects) c.args.mailbox.0 c.args.value roomy c.in_default.ensures.states.ok in
    rw (← c.self.view_is, done) (mail_does (the_view c.self.inside) c.args.mailbox.0 c.args.value there roomy fits)

pub returns-clause-kept : goal.returns-clause-kept
returns-clause-kept g c =
    let there = long_enough c.self.inside.mailboxes.objects c.args.mailbox.0 (omega (arith, c.if-mailbox-len.false, c.len.ensures)) in
    let roomy = sym c.mailbox_is_full.ensures ∙ c.if-mailbox_is_full.false in
    let done = mail_done (queues_of c.self.inside.mailboxes.objects) (queues_of c.feed.new.objects.objects) c.args.mailbox.0 c.args.value roomy c.in_default.ensures.states.ok in
    rw (← c.self.view_is, done) (stays_kept _ _ _ _ _ _ refl refl c.in_default.ensures.told.entries
    (mail_true (the_view c.self.inside) _ _ c.args.mailbox c.args.value there c.in_default.ensures.told.ok))
