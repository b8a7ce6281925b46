use Rattle.std.proofs.Common.{◌∙◌, length, ap, sym}
use Rattle.cml_index.specs.Posts as spec
use Rattle.cml_index.specs.Slots.{slot_leaves}
use Rattle.cml_index.proofs.Parted.{left_lane}
use Rattle.cml_index.proofs.OneObject.{none_own}
use Rattle.cml_index.proofs.OwnSeat.{none_any}
use Rattle.cml_index.proofs.one_object.own_len.Goals as goal

pub returns-in-Some : goal.returns-in-Some
returns-in-Some c =
    c.count_in.ensures ∙ ap (λ ss. length (slot_leaves c.args.slot 0 ss)) c.waits.ensures.slots
    ∙ left_lane spec.slot_of c.args.slot c.args.tid c.args.entries.now.items c.in-Some.entry.now c.in-Some.ensures.1 c.in-Some.ensures.0

pub returns-in-None : goal.returns-in-None
returns-in-None c = sym (none_own c.args.slot c.args.tid c.args.entries.now.items (λ there. none_any c.args.tid.0 c.args.entries.now.items c.in-None.ensures there))
