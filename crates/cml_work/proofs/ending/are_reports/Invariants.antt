use Rattle.std.proofs.Common.{◌≡◌, take}
use Rattle.cml_work.proofs.ending.are_reports.Given as goal

-- those before are the same
abbrev pub invariant-loop-i : goal.invariant-loop-i
invariant-loop-i l = take l.i l.seen ≡ take l.i l.reports
