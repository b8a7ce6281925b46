use Rattle.std.proofs.Common.{◌≡◌, ◌++◌, codes, map, take}
use Rattle.cml_json.specs.Json.{commas}
use Rattle.cml_json.specs.Runs.{value_json}
use Rattle.cml_json.proofs.named.push_values.Given as goal

-- those so far
abbrev pub invariant-loop-place : goal.invariant-loop-place
invariant-loop-place l = l.text.items ≡ (l.fn.text.items ++ codes "[") ++ commas (map value_json (take l.place l.values))
