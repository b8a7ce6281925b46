use Rattle.std.proofs.Common.{◌≡◌, ◌++◌, drop}
use Rattle.cml_group.proofs.force.with_nack_event.Given as goal

-- those there and those to come are all
abbrev pub invariant-loop-argument : goal.invariant-loop-argument
invariant-loop-argument l = l.args.items ++ drop l.argument-index l.argument-items ≡ l.argument-items
