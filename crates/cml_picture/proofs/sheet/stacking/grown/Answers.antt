use Rattle.std.proofs.Common.{◌≡◌, ◌+◌, take, arith, inl, inr}
use Rattle.cml_picture.specs.Stacks.{bottom_below, count_with, AreTooMuch}
use Rattle.cml_picture.proofs.StackLemmas.{too_much_at}
use Rattle.cml_picture.proofs.sheet.stacking.grown.Goals.{then-counted-gt-ROW_LIMIT-via-then-counted-gt-ROW_LIMIT, then-counted-gt-ROW_LIMIT-via-else-counted-gt-ROW_LIMIT+then-below-gt-HEIGHT_LIMIT}
use Rattle.cml_picture.proofs.sheet.stacking.grown.Goals as goal

pub returns-then-counted-gt-ROW_LIMIT-clause-refused : goal.returns-then-counted-gt-ROW_LIMIT-clause-refused
returns-then-counted-gt-ROW_LIMIT-clause-refused c =
    let so_far = take c.loop-sign.sign-index c.args.signs.now in
    let much : AreTooMuch (bottom_below c.args.bottom so_far + c.row_height-below.result) (count_with c.args.count so_far + c.counted_rows-counted.result) =
    elim c.then-counted-gt-ROW_LIMIT.branch [
      | then-counted-gt-ROW_LIMIT-via-then-counted-gt-ROW_LIMIT w ↦ inl (omega (arith, c.loop-sign.invariant.count, w.if-counted-gt-ROW_LIMIT.true))
      | then-counted-gt-ROW_LIMIT-via-else-counted-gt-ROW_LIMIT+then-below-gt-HEIGHT_LIMIT w ↦ inr (omega (arith, c.loop-sign.invariant.bottom, w.if-below-gt-HEIGHT_LIMIT.true))
    ] in
    too_much_at c.args.bottom c.args.count c.args.signs.now c.loop-sign.sign-index _ c.row_height-below.result c.counted_rows-counted.result c.loop-sign-test.true
    c.row_height-below.ensures.height c.counted_rows-counted.ensures.counted much
