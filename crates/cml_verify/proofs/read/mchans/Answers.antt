use Rattle.std.proofs.Common.{map, ◌∙◌, arith, take_all}
use Rattle.cml_verify.proofs.Reading.{mapped_next}
use Rattle.cml_verify.proofs.read.mchans.Goals as goal

pub loop-x-preserved : goal.loop-x-preserved
loop-x-preserved c =
    mapped_next (λ v. map (λ p. p.0) v.items) c.loop-x.channels.items c.push.new.self.items c.in_ok-ports.ports c.args.book.now.mchans c.loop-x.x c.in_ok-push.ensures.items
    c.loop-x.invariant c.in_ok-ports.ensures

pub returns : goal.returns
returns c = c.loop-x.invariant ∙ take_all c.loop-x.x c.args.book.now.mchans (omega arith)
