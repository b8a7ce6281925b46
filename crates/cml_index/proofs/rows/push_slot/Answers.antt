use Rattle.std.proofs.Common.{◌∙◌, sym, subst}
use Rattle.cml_scan.specs.Order.{Ascends, before}
use Rattle.cml_index.specs.Posts as spec
use Rattle.cml_index.proofs.Parted.{lane-ascends}
use Rattle.cml_index.proofs.rows.push_slot.Goals as goal

pub push_lane-requires : goal.push_lane-requires
push_lane-requires c =
    let there = c.in-Some.ensures ∙ c.requires.placed c.args.slot in
    subst (Ascends before) (sym there) (lane-ascends spec.slot_of c.args.slot c.args.core.now.entries.items c.requires.sorted)
