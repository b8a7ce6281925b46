use Rattle.std.proofs.Common.{◌∙◌, arith, take_all}
use Rattle.cml_verify.proofs.Reading.{mapped_next}
use Rattle.cml_verify.proofs.read.mailboxes.Goals as goal

pub loop-b-preserved : goal.loop-b-preserved
loop-b-preserved c =
    mapped_next (λ v. v.items) c.loop-b.queues.items c.push.new.self.items c.in_ok-items.items c.args.book.now.mailboxes c.loop-b.b c.in_ok-push.ensures.items
    c.loop-b.invariant c.in_ok-items.ensures

pub returns : goal.returns
returns c = c.loop-b.invariant ∙ take_all c.loop-b.b c.args.book.now.mailboxes (omega arith)
