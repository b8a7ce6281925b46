use Rattle.std.proofs.Common.{◌≤◌, length, arith}
use Rattle.cml_objects.specs.Lanes.{is_of, those}
use Rattle.cml_index.proofs.Parted.{filter_fewer}
use Rattle.cml_index.proofs.rows.push_lane.Goals as goal

pub overflow_sub-own : goal.overflow_sub-own
overflow_sub-own c =
    let ps = c.args.lane.now.places in
    let few : length (those c.args.partner_threads ps) ≤ length ps = filter_fewer (is_of c.args.partner_threads) ps in
    omega (arith, few, c.others_count-count.ensures.count, c.len.ensures)

pub other_in-other-requires-clause-own : goal.other_in-other-requires-clause-own
other_in-other-requires-clause-own c =
    let ps = c.args.lane.now.places in
    let few : length (those c.args.partner_threads ps) ≤ length ps = filter_fewer (is_of c.args.partner_threads) ps in
    omega (arith, few, c.others_count-count.ensures.count, c.len.ensures)
