use Rattle.std.proofs.Common.{◌<◌, length, arith}
use Rattle.cml_properties.proofs.BreachLemmas.{told_next, told_all, told_of_all}
use Rattle.cml_properties.proofs.breach.breaches.Goals as goal

pub loop-index-preserved : goal.loop-index-preserved
loop-index-preserved c =
    let says = rw c.as_slice.ensures.value at c.in_ok-line.ensures in
    told_next _ _ c.args.runs.now c.loop-index.index _ c.in_ok-line.line _ _ c.loop-index-test.true says c.in_ok-push_breach.ensures c.loop-index.invariant

pub returns : goal.returns
returns c =
    let some : 0 < length c.args.runs.now = omega (arith, c.in-len1-up.len_at_least) in
    told_of_all _ c.args.runs.now _ _ _ some c.in_ok-first_lines.ensures (told_all _ _ c.args.runs.now c.loop-index.index _ (omega arith) c.loop-index.invariant)
