use Rattle.std.proofs.Common.{slice_index_or, refl, subst, arith, true, set}
use Rattle.std.specs.List.{All}
use Rattle.std.proofs.lemmas.List.{take_all}
use Rattle.std.proofs.lemmas.Option.{slice_get-get_or}
use Rattle.cml_verify.specs.Marks.{IsMarked}
use Rattle.cml_verify.proofs.Marking.{marks_more}
use Rattle.cml_verify.proofs.search.unending.marks_at.Goals as goal

pub loop-place-preserved : goal.loop-place-preserved
loop-place-preserved c =
    let places = c.args.places.now in
    let n = c.loop-place.place-index in
    let place = slice_index_or places n 0 in
    marks_more places c.args.count n c.loop-place.marks.items (set c.loop-place.marks.items place true) place c.loop-place.invariant (c.requires n 0 (omega arith))
    (slice_get-get_or places n 0 (omega arith)) refl

pub returns-clause-each : goal.returns-clause-each
returns-clause-each c =
    let places = c.args.places.now in
    subst (All (IsMarked c.loop-place.marks.items)) (take_all c.loop-place.place-index places (omega arith)) c.loop-place.invariant.each
