use Rattle.std.proofs.Common.{[], ◌∙◌, arith, take_all}
use Rattle.std.specs.Prelude.{slice_get, unwrap_or}
use Rattle.cml_verify.proofs.Reading.{read_next}
use Rattle.cml_verify.proofs.Showing.{queue_there}
use Rattle.cml_verify.proofs.read.mail_in.Goals as goal

pub loop-n-preserved : goal.loop-n-preserved
loop-n-preserved c =
    read_next c.loop-n.items.items c.push.new.self.items c.in_ok-item.item (unwrap_or (slice_get c.args.book.now.mailboxes c.args.mailbox.0) [])
    c.loop-n.n c.in_ok-push.ensures.items c.loop-n.invariant c.in_ok-item.ensures

pub returns : goal.returns
returns c =
    let queue = unwrap_or (slice_get c.args.book.now.mailboxes c.args.mailbox.0) [] in
    queue_there c.args.book.now.mailboxes c.args.mailbox.0 c.loop-n.items.items c.requires (c.loop-n.invariant ∙ take_all c.loop-n.n queue (omega (arith, c.mail_count-n-end.ensures)))
