use Rattle.std.proofs.Common.{◌∙◌, arith, take_all}
use Rattle.cml_verify.proofs.Reading.{mapped_next}
use Rattle.cml_verify.proofs.read.ports.Goals as goal

pub loop-p-preserved : goal.loop-p-preserved
loop-p-preserved c =
    mapped_next (λ v. v.items) c.loop-p.queues.items c.push.new.self.items c.in_ok-messages.messages c.args.book.now.ports c.loop-p.p c.in_ok-push.ensures.items
    c.loop-p.invariant c.in_ok-messages.ensures

pub returns : goal.returns
returns c = c.loop-p.invariant ∙ take_all c.loop-p.p c.args.book.now.ports (omega arith)
