use Rattle.std.proofs.Common.{Some, ap, sym, ◌∙◌}
use Rattle.std.specs.Prelude.{slice_get}
use Rattle.cml_verify.proofs.Showing.{item_shown, item_hidden}
use Rattle.cml_verify.proofs.read.mail_at.Goals as goal

pub returns : goal.returns
returns c =
    item_shown c.args.n (slice_get c.args.book.now.mailboxes c.args.mailbox.0) c.in-Some.item.now (rw c.in-Some.is at c.mailbox_item.ensures) ∙ ap (λ v. Some v) (sym c.in_ok-copy-in-Some.ensures)

pub unreachable-requires : goal.unreachable-requires
unreachable-requires c =
    absurd (item_hidden c.args.n (slice_get c.args.book.now.mailboxes c.args.mailbox.0) c.requires (rw c.in-None.is at c.mailbox_item.ensures))
