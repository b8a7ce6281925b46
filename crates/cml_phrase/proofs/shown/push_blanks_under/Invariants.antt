use Rattle.std.proofs.Common.{◌≡◌, ◌++◌, drop}
use Rattle.std.specs.List.{flat_map}
use Rattle.cml_phrase.specs.Shown.{blank_under}
use Rattle.cml_phrase.proofs.shown.push_blanks_under.Given as goal

abbrev pub invariant-loop-byte : goal.invariant-loop-byte
invariant-loop-byte l = l.out.items ++ flat_map blank_under (drop l.byte-index l.bytes) ≡ l.fn.out.items ++ flat_map blank_under l.bytes
