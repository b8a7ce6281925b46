use Rattle.std.proofs.Common.{◌+◌, ap, ◌∙◌, length, ◌-◌, Some, [], ◌∷◌, ◌++◌}
use Rattle.cml_facts.specs.Rings.{way_to}
use Rattle.cml_facts.proofs.RingLemmas.{onward, begun, stops, steps_on, arrives, runs_out}
use Rattle.cml_facts.proofs.ending.ring.ring_from.Goals as goal

pub loop-step-init : goal.loop-step-init
loop-step-init c =
    begun c.args.nexts.now _ c.args.start c.next_of-next.result (c.in_ok-push.ensures.items ∙ ap (λ way. way ++ c.args.start ∷ []) c.new-way.ensures.items) c.next_of-next.ensures

pub returns-in-None : goal.returns-in-None
returns-in-None c =
    stops c.args.nexts.now c.loop-step.way.items c.args.start (length c.args.nexts.now) c.loop-step._step _ c.loop-step-test.true (rw c.in-None.is at c.loop-step.invariant)

pub returns-then-thread-start : goal.returns-then-thread-start
returns-then-thread-start c =
    ap Some c.in_ok-push-2.ensures.items
    ∙ arrives c.args.nexts.now c.loop-step.way.items c.args.start c.in-Some.thread (length c.args.nexts.now)
    c.loop-step._step _ c.loop-step-test.true c.if-thread-start.true (rw c.in-Some.is at c.loop-step.invariant)

pub loop-step-preserved : goal.loop-step-preserved
loop-step-preserved c =
    let n = length c.args.nexts.now - (c.loop-step._step + 1) in
    ap (λ w. onward w (way_to c.args.nexts.now c.args.start n c.next_of-next-in-loop-step.result)) c.in_ok-push-2.ensures.items
    ∙ (ap (λ t. onward (c.loop-step.way.items ++ c.in-Some.thread ∷ []) (way_to c.args.nexts.now c.args.start n t)) c.next_of-next-in-loop-step.ensures
    ∙ steps_on c.args.nexts.now c.loop-step.way.items c.args.start c.in-Some.thread (length c.args.nexts.now)
    c.loop-step._step _ c.loop-step-test.true c.if-thread-start.false (rw c.in-Some.is at c.loop-step.invariant))

pub returns : goal.returns
returns c =
    runs_out c.args.nexts.now c.loop-step.way.items c.args.start (length c.args.nexts.now) c.loop-step._step c.loop-step.next _ c.loop-step-test.false c.loop-step.invariant
