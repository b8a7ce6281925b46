use Rattle.std.proofs.Common.{◌∙◌, arith, take_all}
use Rattle.cml_verify.proofs.Reading.{read_next, held_there}
use Rattle.cml_verify.proofs.read.ivars.Goals as goal

pub loop-i-preserved : goal.loop-i-preserved
loop-i-preserved c =
    read_next c.loop-i.values.items c.push.new.self.items c.in_ok-held.held c.args.book.now.ivars c.loop-i.i c.in_ok-push.ensures.items c.loop-i.invariant
    (held_there c.args.book.now.ivars c.loop-i.i c.in_ok-held.held (omega arith) c.in_ok-held.ensures)

pub returns : goal.returns
returns c = c.loop-i.invariant ∙ take_all c.loop-i.i c.args.book.now.ivars (omega arith)
