use Rattle.std.proofs.Common.{◌-◌}
use Rattle.cml_hub.specs.Kept.{Continues, NoneOut, NoneDue}
use Rattle.cml_hub.specs.Playing.{called_back}
use Rattle.cml_hub.proofs.Played.{Way}
use Rattle.cml_hub.proofs.hub.Hub.run_alone.Given as goal

abbrev pub invariant-turns : goal.invariant-turns
invariant-turns g l = record {
  more : Continues l.fn.self l.self;
  none_out : NoneOut l.self;
  due : NoneDue l.self;
  way : Way (record { picks = g.C.Chooser.picks; next = g.C.Chooser.next }) l.fn.self (called_back l.fn.self l.fn.chooser) l.self l.chooser;
}

abbrev pub decreases-turns : goal.decreases-turns
decreases-turns g l = l.self.budget - l.self.course.used
