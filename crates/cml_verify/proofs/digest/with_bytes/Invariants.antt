use Rattle.std.proofs.Common.{◌≡◌, drop}
use Rattle.std.specs.Prelude.{fold}
use Rattle.cml_verify.specs.Digests.{mix}
use Rattle.cml_verify.proofs.digest.with_bytes.Given as goal

abbrev pub invariant-loop-byte : goal.invariant-loop-byte
invariant-loop-byte l = fold mix l.all (drop l.byte-index l.bytes) ≡ fold mix l.fn.digest l.bytes
