use Rattle.std.proofs.Common.{take}
use Rattle.cml_step.specs.Calls.{text_of}
use Rattle.cml_facts.specs.Again.{RunsAgain}
use Rattle.cml_facts.specs.ThreadFaults.{AreThreadFaults}
use Rattle.cml_facts.specs.Failures.{first_failures}
use Rattle.cml_facts.specs.FaultViews.{plain_sources}
use Rattle.cml_facts.proofs.fault.faults.follow_all.Given as goal

-- the second hub has gone so far, and so far all is known
abbrev pub invariant-loop-i : goal.invariant-loop-i
invariant-loop-i l = record {
  gone : RunsAgain l.sources.hub.now l.second l.i;
  known : AreThreadFaults (plain_sources l.sources) l.sources.hub.now.course.program (first_failures (text_of l.sources.hub.now.course.program)
      (take l.i l.sources.hub.now.course.items)) l.first.items;
}
