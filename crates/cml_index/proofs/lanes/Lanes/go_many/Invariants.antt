use Rattle.std.proofs.Common.{◌≤◌, ◌+◌, ◌*◌, ℕ, map, take}
use Rattle.cml_index.specs.Slots as spec
use Rattle.cml_index.specs.Slots.{slot_in}
use Rattle.cml_index.specs.Stands as stands
use Rattle.cml_index.proofs.Walks.{IsDone}
use Rattle.cml_index.proofs.lanes.Lanes.go_many.Given as goal

-- the leaves have gone from the slots so far
abbrev pub invariant-loop-wait : goal.invariant-loop-wait
invariant-loop-wait l = record {
  done : IsDone (stands.HasGone l.tid) (λ k. spec.has_slot k (take l.wait-index (map slot_in l.waits))) (λ k. stands.stand_at l.initial.self k) (λ k. stands.stand_at l.self k);
  cost : (digits : ℕ) → spec.HaveDigits l.initial.self digits → l.tally ≤ l.fn.tally + l.wait-index * digits;
}
