use Rattle.std.proofs.Common.{◌≡◌, ◌++◌, codes, map, take}
use Rattle.cml_json.specs.Json.{commas}
use Rattle.cml_json.proofs.text.array.Given as goal

-- those so far
abbrev pub invariant-loop-place : goal.invariant-loop-place
invariant-loop-place l = l.text.items ≡ codes "[" ++ commas (map (λ one. one.items) (take l.place l.texts))
