use Rattle.cml_hub.specs.Kept.{NoneOut}
use Rattle.cml_host.proofs.broken.follow_all.Given as goal

-- no slice is out
abbrev pub invariant-loop-item : goal.invariant-loop-item
invariant-loop-item l = NoneOut l.second
