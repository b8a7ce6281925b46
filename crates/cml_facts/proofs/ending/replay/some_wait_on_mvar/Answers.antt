use Rattle.std.proofs.Common.{arith, ap, length}
use Rattle.cml_scan.specs.World.{PlainWorld}
use Rattle.cml_facts.proofs.ReplayLemmas.{asked_more, asked_found, asked_none}
use Rattle.cml_facts.proofs.ending.replay.some_wait_on_mvar.Goals as goal

pub returns-then-asks : goal.returns-then-asks
returns-then-asks c = asked_found c.args.hub.now.course.world.threads c.loop-t.t _ (omega (arith, ap (λ (w : PlainWorld). length w.threads) c.book.ensures)) c.in_ok-asks.ensures c.if-asks.true

pub loop-t-preserved : goal.loop-t-preserved
loop-t-preserved c = asked_more c.args.hub.now.course.world.threads c.loop-t.t _
    (omega (arith, ap (λ (w : PlainWorld). length w.threads) c.book.ensures)) c.in_ok-asks.ensures c.if-asks.false
    c.loop-t.invariant

pub returns : goal.returns
returns c = asked_none c.args.hub.now.course.world.threads c.loop-t.t (omega (arith, ap (λ (w : PlainWorld). length w.threads) c.book.ensures)) c.loop-t.invariant
