use Rattle.std.proofs.Common.{◌≡◌, false, take}
use Rattle.std.specs.Prelude.{◌==◌}
use Rattle.std.specs.List.{list_any}
use Rattle.cml_picture.proofs.sheet.feed.has_port.Given as goal

-- none so far
abbrev pub invariant-loop-one : goal.invariant-loop-one
invariant-loop-one l = list_any (λ p. p.0 == l.port) (take l.one-index l.ports) ≡ false
