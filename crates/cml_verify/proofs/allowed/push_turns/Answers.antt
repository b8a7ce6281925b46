use Rattle.std.proofs.Common.{◌++◌, ap, ◌∙◌, arith, take_all}
use Rattle.cml_schedule.specs.declared.item.Item.TheVariants.{Turn}
use Rattle.cml_verify.specs.Cores.{turns}
use Rattle.cml_verify.proofs.Reading.{grows, turn_at, turn_count}
use Rattle.cml_verify.proofs.allowed.push_turns.Goals as goal

pub loop-t-preserved : goal.loop-t-preserved
loop-t-preserved c =
    grows c.args.items.now.items c.loop-t.items.items c.push.new.self.items (turns c.args.book.now) c.loop-t.t (Turn (record { 0 = c.loop-t.t })) c.in_ok-push.ensures.items c.loop-t.invariant
    (turn_at c.args.book.now c.loop-t.t (omega arith))

pub returns : goal.returns
returns c = c.loop-t.invariant ∙ ap (λ l. c.args.items.now.items ++ l) (take_all c.loop-t.t (turns c.args.book.now) (omega (arith, turn_count c.args.book.now)))
