use Rattle.std.proofs.Common.{map, arith}
use Rattle.cml_explore.specs.ClassViews.{plain_class}
use Rattle.cml_explore.proofs.EndLemmas.{told_next}
use Rattle.cml_explore.proofs.ends.each_told.Goals as goal

pub loop-number-preserved : goal.loop-number-preserved
loop-number-preserved c =
    told_next (map (λ own. own.items) c.args.places.now) c.args.program.now c.args.servers.now c.args.classes.now c.loop-number.number (plain_class c.class.result) c.shortest-items.result.now
    c.loop-number.told.items c.push.new.self.items c.in_ok-end.end (omega arith) c.class.ensures c.shortest-items.ensures c.in_ok-push.ensures.items c.in_ok-end.ensures
    c.loop-number.invariant
