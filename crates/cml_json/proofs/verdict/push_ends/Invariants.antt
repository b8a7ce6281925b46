use Rattle.std.proofs.Common.{◌≡◌, ◌++◌, codes, map, take}
use Rattle.cml_json.specs.Json.{commas}
use Rattle.cml_json.specs.Verdicts.{numbered_json}
use Rattle.cml_json.proofs.verdict.push_ends.Given as goal

-- those so far
abbrev pub invariant-loop-place : goal.invariant-loop-place
invariant-loop-place l = l.text.items ≡ (l.fn.text.items ++ codes "[") ++ commas (map (numbered_json l.forms l.servers l.ends) (take l.place l.order))
