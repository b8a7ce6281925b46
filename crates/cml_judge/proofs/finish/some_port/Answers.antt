use Rattle.std.proofs.Common.{◌∙◌, ap, arith}
use Rattle.cml_judge.specs.Finishes.{are_some}
use Rattle.cml_judge.proofs.FinishLemmas.{filled_here, none_filled, none_at_all}
use Rattle.cml_judge.proofs.finish.some_port.Goals as goal

pub returns-then-has : goal.returns-then-has
returns-then-has c =
    filled_here c.args.book.now.ports c.loop-port.port _ (omega (arith, c.next_objects-port-end.ensures.port)) (c.are_some-has.ensures ∙ ap are_some c.port_len.ensures) c.if-has.true

pub loop-port-preserved : goal.loop-port-preserved
loop-port-preserved c =
    none_filled c.args.book.now.ports c.loop-port.port _ (omega (arith, c.next_objects-port-end.ensures.port)) (c.are_some-has.ensures ∙ ap are_some c.port_len.ensures) c.if-has.false
    c.loop-port.invariant

pub returns : goal.returns
returns c = none_at_all c.args.book.now.ports c.loop-port.port (omega (arith, c.next_objects-port-end.ensures.port)) c.loop-port.invariant
