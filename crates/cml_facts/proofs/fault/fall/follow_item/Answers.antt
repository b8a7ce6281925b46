use Rattle.std.proofs.Common.{subst, ◌∙◌}
use Rattle.cml_facts.specs.Failed.{FailsSo}
use Rattle.cml_facts.specs.FallViews.{plain_fall, fall_in}
use Rattle.cml_facts.proofs.FallLemmas.{still_fallen, more_fallen}
use Rattle.cml_facts.proofs.fault.fall.follow_item.Goals as goal

pub returns-in_ok-fall-in-Some-clause-falls : goal.returns-in_ok-fall-in-Some-clause-falls
returns-in_ok-fall-in-Some-clause-falls c =
    more_fallen c.keep.result c.args.second.now.course c.args.item c.program.result.now c.in-Some.machine (plain_fall c.in_ok-fall-in-Some.fall) c.thread.result.0
    (fall_in c.args.falls.now) (fall_in c.keep.new.self) (subst (FailsSo c.args.second.now.course c.args.item) c.in-Some.is c.in_ok-failed.ensures.failed)
    (c.program.ensures ∙ c.in_ok-failed.ensures.came.adds.program) c.thread.ensures c.in_ok-fall-in-Some.ensures c.keep.ensures

pub returns-in-None-clause-falls : goal.returns-in-None-clause-falls
returns-in-None-clause-falls c = still_fallen c.args.second.now.course c.args.item (fall_in c.args.falls.now)
    (subst (FailsSo c.args.second.now.course c.args.item) c.in-None.is c.in_ok-failed.ensures.failed)
