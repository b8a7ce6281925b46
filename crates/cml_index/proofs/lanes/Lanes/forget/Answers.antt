use Rattle.std.proofs.Common.{sym, ◌∙◌}
use Rattle.std.proofs.lemmas.List.{nil_from_length}
use Rattle.cml_scan.specs.declared.object.Light.TheVariants as of
use Rattle.cml_index.specs.declared.slot.Slot.TheVariants.{Waiters}
use Rattle.cml_index.specs.Slots.{lane_at}
use Rattle.cml_index.proofs.lanes.Lanes.forget.Goals as goal

pub forget_tick-requires : goal.forget_tick-requires
forget_tick-requires c = record {
  places = nil_from_length (lane_at c.args.self.now (Waiters (of.Alarm c.args.tick))) (sym c.len.ensures ∙ c.if-len-eq0.true);
  late = c.requires.idle (Waiters (of.Alarm c.args.tick));
  going = c.requires.still (Waiters (of.Alarm c.args.tick));
}
