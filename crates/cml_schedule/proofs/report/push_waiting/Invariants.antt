use Rattle.std.proofs.Common.{◌≡◌, ◌++◌, drop, map}
use Rattle.std.specs.List.{flat_map}
use Rattle.std.specs.String.{string_bytes}
use Rattle.cml_schedule.specs.Reports.{wait_line}
use Rattle.cml_schedule.proofs.report.push_waiting.Given as goal

abbrev pub invariant-loop-thread : goal.invariant-loop-thread
invariant-loop-thread l = string_bytes l.text ++ flat_map wait_line (map (λ t. t.0) (drop l.thread-index l.waiting)) ≡ string_bytes l.fn.text ++ flat_map wait_line (map (λ t. t.0) l.waiting)
