use Rattle.std.proofs.Common.{◌≡◌, ◌≤◌, length, drop}
use Rattle.cml_explain.specs.Names.{past_common}
use Rattle.cml_explain.proofs.near.past_common.Given as goal

-- what is left of both so far goes on as the whole names do
abbrev pub invariant-loop-k : goal.invariant-loop-k
invariant-loop-k l = record {
  within : l.k ≤ length l.second;
  left : past_common (drop l.k l.first) (drop l.k l.second) ≡ past_common l.first l.second;
}
