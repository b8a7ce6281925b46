use Rattle.std.proofs.Common.{◌≡◌, ◌++◌, drop}
use Rattle.std.specs.List.{flat_map}
use Rattle.cml_phrase.specs.Shown.{space_under}
use Rattle.cml_phrase.proofs.shown.push_margin.Given as goal

abbrev pub invariant-loop-digit : goal.invariant-loop-digit
invariant-loop-digit l = l.out.items ++ flat_map space_under (drop l._digit-index l.number) ≡ l.fn.out.items ++ flat_map space_under l.number
