use Rattle.std.proofs.Common.{◌≡◌, ◌≤◌, ◌<◌, ◌+◌, ◌-◌, ◌/◌, length, get_or, true, false, nat_lt, arith}
use Rattle.cml_index.specs.declared.entries.Seat.{Seat}
use Rattle.cml_index.specs.Seats as spec
use Rattle.cml_index.proofs.Parted.{lt_is, ge_is, filter_fewer}
use Rattle.cml_index.proofs.Seated.{ranked, its_place}
use Rattle.cml_index.proofs.OwnSeat.{no_seat}
use Rattle.cml_index.proofs.entries.seats_below.Goals as goal

pub loop-low-init : goal.loop-low-init
loop-low-init c = let fewer : spec.count_seats c.args.tid.0 c.args.seats.now ≤ length c.args.seats.now = filter_fewer (λ (s : Seat). nat_lt s.tid.0 c.args.tid.0) c.args.seats.now in
    record { low = omega arith; high = fewer; within = omega arith }

pub loop-low-preserved-then-seats-middle : goal.loop-low-preserved-then-seats-middle
loop-low-preserved-then-seats-middle c =
    let ss = c.args.seats.now in
    let middle = c.loop-low.low + (c.loop-low.high - c.loop-low.low) / 2 in
    let seen = c.index-seats-middle.result in
    let at = ranked c.args.tid.0 ss middle seen c.requires (omega arith) in
    let is_in : nat_lt (get_or ss middle seen).tid.0 c.args.tid.0 ≡ true = lt_is _ c.args.tid.0 c.if-seats-middle.true in
    let low : middle < spec.count_seats c.args.tid.0 ss = at.front is_in in
    record { low = omega arith; high = c.loop-low.invariant.high; within = c.loop-low.invariant.within }

pub loop-low-preserved : goal.loop-low-preserved
loop-low-preserved c =
    let ss = c.args.seats.now in
    let middle = c.loop-low.low + (c.loop-low.high - c.loop-low.low) / 2 in
    let seen = c.index-seats-middle.result in
    let at = ranked c.args.tid.0 ss middle seen c.requires (omega arith) in
    let is_out : nat_lt (get_or ss middle seen).tid.0 c.args.tid.0 ≡ false = ge_is _ c.args.tid.0 c.if-seats-middle.false in
    record { low = c.loop-low.invariant.low; high = at.back is_out; within = omega arith }

pub returns-then-has_seat : goal.returns-then-has_seat
returns-then-has_seat c = let there = c.has_seat.ensures.0 c.if-has_seat.true in its_place c.args.tid.0 c.args.seats.now c.args.tid.0 no_seat c.requires there.0 (there.1 no_seat)
