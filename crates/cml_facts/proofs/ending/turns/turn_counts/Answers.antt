use Rattle.cml_facts.proofs.TurnLemmas.{all_counted}
use Rattle.cml_facts.proofs.ending.turns.turn_counts.Goals as goal

pub returns : goal.returns
returns c =
    all_counted c.loop-item.counts.items c.args.items.now c.args.threads c.loop-item.item-index c.loop-item.invariant.same c.loop-item-test.false c.loop-item.invariant.so_far
