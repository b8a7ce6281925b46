use Rattle.std.proofs.Common.{◌≡◌, false, take}
use Rattle.std.specs.Prelude.{◌==◌}
use Rattle.std.specs.List.{list_any}
use Rattle.cml_facts.proofs.ending.stuck.is_among.Given as goal

-- none so far
abbrev pub invariant-loop-server : goal.invariant-loop-server
invariant-loop-server l = list_any (λ g. g == l.func) (take l.server-index l.servers) ≡ false
