use Rattle.std.proofs.Common.{◌≡◌, map, take}
use Rattle.cml_explore.specs.Ends.{IsGathered}
use Rattle.cml_explore.proofs.ends.gather_ends.Given as goal

-- the runs by the schedules so far
abbrev pub invariant-loop-schedule : goal.invariant-loop-schedule
invariant-loop-schedule l = record {
  made : IsGathered l.program l.servers (map (λ schedule. schedule.items) (take l.schedule-index l.schedules)) l.made;
  count : l.made.runs ≡ l.schedule-index;
}
