use Rattle.std.proofs.Common.{arith}
use Rattle.cml_step.specs.Calls.{text_of}
use Rattle.cml_hub.specs.Deeds.{origins}
use Rattle.cml_facts.proofs.StuckLemmas.{held_more, held_found, held_none}
use Rattle.cml_facts.proofs.ending.stuck.some_held_up.Goals as goal

pub returns-then-is_held_up : goal.returns-then-is_held_up
returns-then-is_held_up c =
    held_found c.args.servers.now (origins (text_of c.args.hub.now.course.program) c.args.hub.now.course.items)
    c.book.ensures c.loop-t.t c.is_held_up.result _ (omega arith) c.is_held_up.ensures c.if-is_held_up.true c.loop-t.invariant

pub loop-t-preserved : goal.loop-t-preserved
loop-t-preserved c =
    held_more c.args.servers.now (origins (text_of c.args.hub.now.course.program) c.args.hub.now.course.items)
    c.book.ensures c.loop-t.t c.is_held_up.result _ (omega arith) c.is_held_up.ensures c.if-is_held_up.false c.loop-t.invariant

pub returns : goal.returns
returns c =
    held_none c.args.servers.now (origins (text_of c.args.hub.now.course.program) c.args.hub.now.course.items)
    c.book.ensures c.loop-t.t _ (omega arith) c.loop-t.invariant
