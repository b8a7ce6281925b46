use Rattle.std.proofs.Common.{◌≡◌, ◌-◌}
use Rattle.cml_hub.specs.Kept.{Extends, NoneDue}
use Rattle.cml_hub.specs.Playing.{playing}
use Rattle.cml_hub.proofs.Played.{Way}
use Rattle.cml_hub.proofs.hub.Hub.take.Given as goal

abbrev pub invariant-moves : goal.invariant-moves
invariant-moves g l = record {
  more : Extends l.fn.self l.self;
  due : NoneDue l.self;
  out : l.self.out ≡ l.fn.self.out;
  way : Way (record { picks = g.C.Chooser.picks; next = g.C.Chooser.next }) l.fn.self (playing l.fn.self l.fn.chooser) l.self l.chooser;
}

abbrev pub decreases-moves : goal.decreases-moves
decreases-moves g l = l.self.budget - l.self.course.used
