use Rattle.std.proofs.Common.{◌≡◌, ◌++◌, length, map}
use Rattle.cml_text.specs.Lines.{lines}
use Rattle.cml_json.specs.Json.{json_string}
use Rattle.cml_host.proofs.outcomes.line_texts.Given as goal

-- those so far, and those of the lines that are left
abbrev pub invariant-loop-line : goal.invariant-loop-line
invariant-loop-line l = map (λ one. one.items) l.texts.items ++ map json_string l.all.left ≡ map json_string (lines l.output)

abbrev pub decreases-loop-line : goal.decreases-loop-line
decreases-loop-line l = length l.all.left
