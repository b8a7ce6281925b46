use Rattle.std.proofs.Common.{◌∙◌, arith, take_all}
use Rattle.cml_scan.specs.Views.{thread_of}
use Rattle.cml_verify.proofs.Reading.{mapped_next}
use Rattle.cml_verify.proofs.read.threads.Goals as goal

pub loop-t-preserved : goal.loop-t-preserved
loop-t-preserved c =
    mapped_next thread_of c.loop-t.states.items c.push.new.self.items c.in_ok-state.state c.args.book.now.threads c.loop-t.t c.in_ok-push.ensures.items c.loop-t.invariant c.in_ok-state.ensures

pub returns : goal.returns
returns c = c.loop-t.invariant ∙ take_all c.loop-t.t c.args.book.now.threads (omega arith)
