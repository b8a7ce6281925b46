use Rattle.std.proofs.Common.{◌∙◌, arith, take_all}
use Rattle.cml_scan.specs.Views.{nack_of}
use Rattle.cml_verify.proofs.Reading.{mapped_next}
use Rattle.cml_verify.proofs.read.nacks.Goals as goal

pub loop-k-preserved : goal.loop-k-preserved
loop-k-preserved c =
    mapped_next nack_of c.loop-k.states.items c.push.new.self.items c.state_of_nack-state.result c.args.book.now.nacks c.loop-k.k c.in_ok-push.ensures.items
    c.loop-k.invariant c.state_of_nack-state.ensures

pub returns : goal.returns
returns c = c.loop-k.invariant ∙ take_all c.loop-k.k c.args.book.now.nacks (omega arith)
