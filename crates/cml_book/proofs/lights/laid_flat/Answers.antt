use Rattle.std.proofs.Common.{arith, ap}
use Rattle.cml_value.specs.Group.{group_fits, leaf_count}
use Rattle.cml_book.proofs.Entered.{leaf_count-entered, group_fits-entered}
use Rattle.cml_book.proofs.lights.laid_flat.Goals as goal

pub unreachable-requires : goal.unreachable-requires
unreachable-requires c =
    let refuses = rw c.in-Err-Leaves.field-0-is at c.in-Err-Leaves.ensures.err in
    let many = refuses.0 in
    let few = c.requires.few in
    let same = leaf_count-entered c.args.tick c.args.group.now in
    let is = ap leaf_count c.in_ok-entered.ensures in
    omega arith

pub unreachable-requires-in-Err-Deep : goal.unreachable-requires-in-Err-Deep
unreachable-requires-in-Err-Deep c =
    let refuses = rw c.in-Err-Deep.field-0-is at c.in-Err-Deep.ensures.err in
    let off = refuses.1 in
    let on = c.requires.fits in
    let same = group_fits-entered c.args.tick c.args.group.now in
    let is = ap group_fits c.in_ok-entered.ensures in
    cc
