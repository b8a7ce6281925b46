use Rattle.std.proofs.Common.{arith, vec_len}
use Rattle.cml_scan.specs.Scan.{scan}
use Rattle.cml_hub.proofs.MarkLemmas.{empty, not_empty}
use Rattle.cml_stepper.proofs.ReplyLemmas.{none_next, many_next}
use Rattle.cml_stepper.proofs.reply.no_next.Goals as goal

pub returns-then-is_empty : goal.returns-then-is_empty
returns-then-is_empty c =
    let rows = c.in_ok-rows.rows in
    let none = empty (vec_len rows) c.is_empty.result c.is_empty.ensures c.if-is_empty.true in
    none_next rows.items (scan c.args.book.now) c.in_ok-rows.ensures (omega (arith, rows.ok.0))

pub returns : goal.returns
returns c =
    let rows = c.in_ok-rows.rows in
    let some = not_empty (vec_len rows) c.is_empty.result c.is_empty.ensures c.if-is_empty.false in
    many_next rows.items (scan c.args.book.now) c.in_ok-rows.ensures (omega (arith, rows.ok.0))
