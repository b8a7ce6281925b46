use Rattle.std.proofs.Common.{◌≡◌, ◌++◌, drop}
use Rattle.std.specs.List.{flat_map}
use Rattle.cml_phrase.specs.Shown.{caret_under}
use Rattle.cml_phrase.proofs.shown.push_carets_under.Given as goal

abbrev pub invariant-loop-byte : goal.invariant-loop-byte
invariant-loop-byte l = l.out.items ++ flat_map caret_under (drop l.byte-index l.bytes) ≡ l.fn.out.items ++ flat_map caret_under l.bytes
