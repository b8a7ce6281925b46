use Rattle.std.proofs.Common.{◌≡◌, take}
use Rattle.cml_hub.specs.Kept.{NoneOut, NoneDue}
use Rattle.cml_hub.proofs.hub.Hub.replay.Given as goal

abbrev pub invariant-loop-i : goal.invariant-loop-i
invariant-loop-i l = record {
  program : l.hub.course.program ≡ l.fn.program;
  budget : l.hub.budget ≡ l.fn.budget;
  watch : l.hub.watch ≡ l.fn.watch;
  items : l.hub.course.items ≡ take l.i l.items;
  none_out : NoneOut l.hub;
  due : NoneDue l.hub;
}
