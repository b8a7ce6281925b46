use Rattle.std.proofs.Common.{◌≡◌, false, take}
use Rattle.std.specs.List.{list_any}
use Rattle.cml_judge.specs.Finishes.{has_an_item}
use Rattle.cml_judge.proofs.finish.some_port.Given as goal

-- none so far
abbrev pub invariant-loop-port : goal.invariant-loop-port
invariant-loop-port l = list_any has_an_item (take l.port l.book.ports) ≡ false
