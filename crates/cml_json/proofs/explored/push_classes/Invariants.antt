use Rattle.std.proofs.Common.{◌≡◌, ◌++◌, codes, map, take}
use Rattle.cml_json.specs.Json.{commas}
use Rattle.cml_json.specs.Explored.{class_json}
use Rattle.cml_json.proofs.explored.push_classes.Given as goal

-- those so far
abbrev pub invariant-loop-place : goal.invariant-loop-place
invariant-loop-place l = l.text.items ≡ (l.fn.text.items ++ codes "[") ++ commas (map (class_json l.forms l.properties l.servers) (take l.place l.classes))
