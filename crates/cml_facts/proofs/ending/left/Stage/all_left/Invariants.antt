use Rattle.std.proofs.Common.{◌≡◌, ◌++◌, drop}
use Rattle.cml_facts.specs.EndingViews.{plain_stage}
use Rattle.cml_facts.specs.Lefts.{all_left}
use Rattle.cml_facts.proofs.ending.left.Stage.all_left.Given as goal

-- those so far, and those that are left behind them
abbrev pub invariant-loop-t : goal.invariant-loop-t
invariant-loop-t l =
    let threads = l.self.hub.now.course.world.threads in
    l.all.items ++ all_left (plain_stage l.self) l.t (drop l.t threads) ≡ all_left (plain_stage l.self) 0 threads
