use Rattle.std.proofs.Common.{◌≡◌, map, take}
use Rattle.cml_json.specs.Json.{json_string}
use Rattle.cml_host.specs.Outcomes.{end_name}
use Rattle.cml_host.proofs.outcomes.end_texts.Given as goal

-- those so far
abbrev pub invariant-loop-end : goal.invariant-loop-end
invariant-loop-end l = map (λ one. one.items) l.texts.items ≡ map (λ end. json_string (end_name end)) (take l.end-index l.ends)
