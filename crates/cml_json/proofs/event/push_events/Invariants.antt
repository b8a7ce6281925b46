use Rattle.std.proofs.Common.{◌≡◌, ◌++◌, codes, map, take}
use Rattle.cml_json.specs.Json.{commas}
use Rattle.cml_json.specs.Runs.{event_json}
use Rattle.cml_json.proofs.event.push_events.Given as goal

-- those so far
abbrev pub invariant-loop-place : goal.invariant-loop-place
invariant-loop-place l = l.text.items ≡ (l.fn.text.items ++ codes "[") ++ commas (map (event_json l.forms) (take l.place l.events))
