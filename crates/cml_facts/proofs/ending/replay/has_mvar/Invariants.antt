use Rattle.std.proofs.Common.{◌≡◌, false, take}
use Rattle.std.specs.List.{list_any}
use Rattle.cml_facts.specs.Waits.{is_on_mvar}
use Rattle.cml_facts.proofs.ending.replay.has_mvar.Given as goal

-- none so far
abbrev pub invariant-loop-base : goal.invariant-loop-base
invariant-loop-base l = list_any is_on_mvar (take l.base-index l.base-items) ≡ false
