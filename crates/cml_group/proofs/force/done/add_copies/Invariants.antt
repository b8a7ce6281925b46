use Rattle.std.proofs.Common.{◌≡◌, ◌++◌, drop}
use Rattle.cml_group.proofs.force.done.add_copies.Given as goal

-- those there and those to come are all
abbrev pub invariant-loop-group : goal.invariant-loop-group
invariant-loop-group l = l.all.items ++ drop l.group-index l.groups ≡ l.initial.all.items ++ l.groups
