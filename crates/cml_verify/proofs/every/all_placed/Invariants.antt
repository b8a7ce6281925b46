use Rattle.std.proofs.Common.{take}
use Rattle.std.specs.List.{All}
use Rattle.cml_verify.specs.Placed.{AreThreadsIn}
use Rattle.cml_verify.proofs.every.all_placed.Given as goal

abbrev pub invariant-loop-one : goal.invariant-loop-one
invariant-loop-one l = All (λ one. AreThreadsIn l.program one.machines) (take l.one-index l.kept)
