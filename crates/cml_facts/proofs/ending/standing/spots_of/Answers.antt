use Rattle.std.proofs.Common.{◌+◌, ◌<◌, ℕ, length, subst, sym, ap, ◌∙◌}
use Rattle.std.specs.Prelude.{option_and_then, slice_get}
use Rattle.std.proofs.lemmas.List.{length_push}
use Rattle.cml_facts.specs.Standings.{IsSpotOf, spot_at, call_of_machine}
use Rattle.cml_facts.proofs.StandingLemmas.{spots_more}
use Rattle.cml_facts.proofs.ending.standing.spots_of.Goals as goal

pub loop-t-preserved : goal.loop-t-preserved
loop-t-preserved c =
    let h = c.args.hub.now.course in
    record {
      as_many = ap length c.in_ok-push.ensures.items ∙ (length_push c.loop-t.spots.items c.thread_spot.result ∙ ap (λ n. n + 1) c.loop-t.invariant.as_many);
      so_far = subst (λ spots. (t : ℕ) → t < c.loop-t.t + 1 → IsSpotOf h.program (option_and_then call_of_machine (slice_get h.machines t)) (spot_at spots t)) (sym c.in_ok-push.ensures.items)
          (spots_more h c.loop-t.spots.items c.thread_spot.result c.loop-t.t c.loop-t.invariant.as_many c.thread_spot.ensures c.loop-t.invariant.so_far);
    }
