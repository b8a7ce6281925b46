use Rattle.std.proofs.Common.{◌≡◌, take}
use Rattle.std.specs.List.{fold}
use Rattle.cml_explore.specs.Classes.{with_digest}
use Rattle.cml_explore.proofs.summary.add_digests.Given as goal

-- the digests so far
abbrev pub invariant-loop-digest : goal.invariant-loop-digest
invariant-loop-digest l = l.outputs.keys ≡ fold with_digest l.fn.outputs.keys (take l.digest-index l.more)
