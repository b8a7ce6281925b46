use Rattle.std.proofs.Common.{◌≡◌, ℕ, ◌<◌, get_or}
use Rattle.cml_trace.proofs.line.cut.Given as goal

-- no line feed came yet
abbrev pub invariant-loop-end : goal.invariant-loop-end
invariant-loop-end l = (k : ℕ) → k < l.end → get_or l.input k 0 ≡ 10 → ⊥
