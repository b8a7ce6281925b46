use Rattle.std.proofs.Common.{◌∙◌, ◌++◌, map, ap, sym}
use Rattle.std.specs.List.{filter}
use Rattle.cml_scan.specs.Light.{lit_by}
use Rattle.cml_scan.specs.Scan.{PlainOffer, single, offers_of, scan_of}
use Rattle.cml_index.specs.Posts as spec
use Rattle.cml_index.proofs.Seated.{seat_passed}
use Rattle.cml_index.proofs.Seeking.{no_rows}
use Rattle.cml_index.proofs.rows.all_rows.Goals as goal

pub returns-then-head_count-eq0 : goal.returns-then-head_count-eq0
returns-then-head_count-eq0 c = c.new.ensures.items
    ∙ sym (no_rows (scan_of c.args.core.now.entries.items (spec.told c.args.core.now.flags.entries))
    (sym c.head_count.ensures.count ∙ c.if-head_count-eq0.true))

pub loop-seat-preserved-in_default : goal.loop-seat-preserved-in_default
loop-seat-preserved-in_default c =
    let f = λ (o : PlainOffer). lit_by (spec.told c.args.core.now.flags.entries) o.base in
    let same = seat_passed c.seats-seats.result.now c.loop-seat.seat-index c.seat-item.result c.loop-seat-test.true c.seat-item.is c.in_default.ensures in
    ap (λ es. c.loop-seat.rows.items ++ map single (filter f (offers_of es))) (sym same) ∙ c.loop-seat.invariant
