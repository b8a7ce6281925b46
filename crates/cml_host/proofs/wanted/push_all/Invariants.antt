use Rattle.std.proofs.Common.{◌≡◌, ◌++◌}
use Rattle.cml_host.proofs.wanted.push_all.Given as goal

-- those so far
abbrev pub invariant-loop-property : goal.invariant-loop-property
invariant-loop-property l = l.found.items ≡ l.fn.found.items ++ l.yielded
