use Rattle.std.proofs.Common.{◌+◌, ◌<◌, ℕ, length, subst, sym, ap, ◌∙◌}
use Rattle.std.proofs.lemmas.List.{length_push}
use Rattle.cml_facts.specs.Standings.{IsSpotOf, spot_at}
use Rattle.cml_facts.specs.FallViews.{fall_in}
use Rattle.cml_explore.specs.Sights.{call_of_thread}
use Rattle.cml_explore.proofs.SightLemmas.{spot_more}
use Rattle.cml_explore.proofs.sight.spots_of.Goals as goal

pub loop-t-preserved : goal.loop-t-preserved
loop-t-preserved c =
    let h = c.args.hub.now.course in
    let falls = fall_in c.args.falls.now in
    record {
      as_many = ap length c.in_ok-push.ensures.items ∙ (length_push c.loop-t.spots.items c.spot_to_tell.result ∙ ap (λ n. n + 1) c.loop-t.invariant.as_many);
      so_far = subst (λ spots. (t : ℕ) → t < c.loop-t.t + 1 → IsSpotOf h.program (call_of_thread h falls t) (spot_at spots t)) (sym c.in_ok-push.ensures.items)
          (spot_more h.program (call_of_thread h falls) c.loop-t.spots.items c.spot_to_tell.result c.loop-t.t c.loop-t.invariant.as_many c.spot_to_tell.ensures c.loop-t.invariant.so_far);
    }
