use Rattle.std.proofs.Common.{◌≡◌, ◌++◌, take}
use Rattle.cml_verify.specs.Cores.{turns}
use Rattle.cml_verify.proofs.allowed.push_turns.Given as goal

abbrev pub invariant-loop-t : goal.invariant-loop-t
invariant-loop-t l = l.items.items ≡ l.fn.items.items ++ take l.t (turns l.book)
