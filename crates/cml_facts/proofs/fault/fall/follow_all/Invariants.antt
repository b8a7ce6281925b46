use Rattle.std.proofs.Common.{take}
use Rattle.cml_step.specs.Calls.{text_of}
use Rattle.cml_facts.specs.Again.{RunsAgain}
use Rattle.cml_facts.specs.Takes.{KnowsTakers}
use Rattle.cml_facts.specs.Falls.{AreFalls}
use Rattle.cml_facts.specs.FallViews.{fall_in}
use Rattle.cml_facts.proofs.fault.fall.follow_all.Given as goal

-- the second hub has gone so far, and so far all is known
abbrev pub invariant-loop-i : goal.invariant-loop-i
invariant-loop-i l = record {
  gone : RunsAgain l.hub l.second l.i;
  takers : KnowsTakers (text_of l.hub.course.program) (take l.i l.hub.course.items) l.takers;
  falls : AreFalls l.hub.course.program (take l.i l.hub.course.items) (fall_in l.falls);
}
