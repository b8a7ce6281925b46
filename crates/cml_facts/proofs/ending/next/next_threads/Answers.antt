use Rattle.std.proofs.Common.{◌∙◌, arith, ap, length}
use Rattle.cml_scan.specs.World.{PlainWorld}
use Rattle.std.proofs.lemmas.List.{take_all}
use Rattle.cml_facts.specs.Takes.{taker_in}
use Rattle.cml_facts.specs.Rings.{next_threads}
use Rattle.cml_facts.proofs.WaitLemmas.{next_more}
use Rattle.cml_facts.proofs.ending.next.next_threads.Goals as goal

pub loop-t-preserved : goal.loop-t-preserved
loop-t-preserved c =
    c.in_ok-push.ensures.items
    ∙ next_more c.args.hub.now.course.world (taker_in c.args.takers.now) c.args.hub.now.course.world.threads c.loop-t.nexts.items c.loop-t.t _
    (omega (arith, ap (λ (w : PlainWorld). length w.threads) c.book.ensures)) c.in_ok-next_thread.ensures
    c.loop-t.invariant

pub returns : goal.returns
returns c = c.loop-t.invariant ∙ ap (next_threads c.args.hub.now.course.world (taker_in c.args.takers.now))
    (take_all c.loop-t.t c.args.hub.now.course.world.threads
    (omega (arith, ap (λ (w : PlainWorld). length w.threads) c.book.ensures)))
