use Rattle.std.proofs.Common.{◌≡◌, ◌++◌, filter, not, take}
use Rattle.cml_explore.specs.Cuts.{acts_in}
use Rattle.cml_explore.proofs.shrink.cut.push_others.Given as goal

-- those so far
abbrev pub invariant-loop-item : goal.invariant-loop-item
invariant-loop-item l = l.shorter.items ≡ l.fn.shorter.items ++ filter (λ item. not (acts_in l.thread.0 item)) (take l.item-index l.items)
