use Rattle.std.proofs.Common.{map, subst, sym}
use Rattle.cml_facts.specs.FallViews.{fall_in}
use Rattle.cml_explore.specs.Sights.{AreSpotsBelow, AreSpotsToTell}
use Rattle.cml_explore.proofs.SightLemmas.{threads_seen}
use Rattle.cml_explore.proofs.tell.threads_told.Goals as goal

pub returns : goal.returns
returns c =
    let h = c.args.hub.now.course in
    threads_seen c.threads.result (map (λ own. own.items) c.args.places.now) h c.in_ok-known.known.takers (fall_in c.in_ok-known.known.falls) c.as_slice.result.now
    c.as_slice-2.result.now
    c.in_ok-known.ensures.takers c.in_ok-known.ensures.falls
    (subst (AreSpotsToTell h (fall_in c.in_ok-known.known.falls)) (sym c.as_slice.ensures.value) c.in_ok-spots.ensures.spots)
    (subst (AreSpotsBelow h (fall_in c.in_ok-known.known.falls)) (sym c.as_slice-2.ensures.value) c.in_ok-below.ensures) c.threads.ensures
