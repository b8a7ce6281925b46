use Rattle.std.proofs.Common.{◌+◌, ◌<◌, ℕ, length, subst, sym, ap, ◌∙◌}
use Rattle.std.proofs.lemmas.List.{length_push}
use Rattle.cml_facts.specs.Standings.{IsSpotOf, spot_at}
use Rattle.cml_facts.specs.FallViews.{fall_in}
use Rattle.cml_explore.specs.Sights.{call_below}
use Rattle.cml_explore.proofs.SightLemmas.{spot_more}
use Rattle.cml_explore.proofs.below.spots_below.Goals as goal

pub loop-t-preserved : goal.loop-t-preserved
loop-t-preserved c =
    let p = c.args.hub.now.course.program in
    let falls = fall_in c.args.falls.now in
    let here = subst (λ q. IsSpotOf q (call_below (falls c.loop-t.t)) c.spot_below.result) c.program.ensures c.spot_below.ensures in
    record {
      as_many = ap length c.in_ok-push.ensures.items ∙ (length_push c.loop-t.spots.items c.spot_below.result ∙ ap (λ n. n + 1) c.loop-t.invariant.as_many);
      so_far = subst (λ spots. (t : ℕ) → t < c.loop-t.t + 1 → IsSpotOf p (call_below (falls t)) (spot_at spots t)) (sym c.in_ok-push.ensures.items)
          (spot_more p (λ t. call_below (falls t)) c.loop-t.spots.items c.spot_below.result c.loop-t.t c.loop-t.invariant.as_many here c.loop-t.invariant.so_far);
    }
