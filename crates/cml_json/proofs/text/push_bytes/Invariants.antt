use Rattle.std.proofs.Common.{◌≡◌, ◌++◌, take}
use Rattle.std.specs.List.{flat_map}
use Rattle.cml_json.specs.Json.{byte_in_string}
use Rattle.cml_json.proofs.text.push_bytes.Given as goal

-- those of the bytes so far
abbrev pub invariant-loop-byte : goal.invariant-loop-byte
invariant-loop-byte l = l.text.items ≡ l.fn.text.items ++ flat_map byte_in_string (take l.byte-index l.bytes)
