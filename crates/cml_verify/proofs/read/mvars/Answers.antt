use Rattle.std.proofs.Common.{◌∙◌, arith, take_all}
use Rattle.cml_verify.proofs.Reading.{read_next, held_there}
use Rattle.cml_verify.proofs.read.mvars.Goals as goal

pub loop-m-preserved : goal.loop-m-preserved
loop-m-preserved c =
    read_next c.loop-m.values.items c.push.new.self.items c.in_ok-held.held c.args.book.now.mvars c.loop-m.m c.in_ok-push.ensures.items c.loop-m.invariant
    (held_there c.args.book.now.mvars c.loop-m.m c.in_ok-held.held (omega arith) c.in_ok-held.ensures)

pub returns : goal.returns
returns c = c.loop-m.invariant ∙ take_all c.loop-m.m c.args.book.now.mvars (omega arith)
