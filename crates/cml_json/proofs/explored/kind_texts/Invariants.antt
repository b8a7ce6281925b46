use Rattle.std.proofs.Common.{◌≡◌, map, take}
use Rattle.cml_json.specs.Explored.{until_json}
use Rattle.cml_json.proofs.explored.kind_texts.Given as goal

-- those so far
abbrev pub invariant-loop-kind : goal.invariant-loop-kind
invariant-loop-kind l = map (λ one. one.items) l.texts.items ≡ map until_json (take l.kind-index l.kinds)
