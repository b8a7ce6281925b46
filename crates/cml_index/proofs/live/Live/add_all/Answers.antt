use Rattle.std.proofs.Common.{◌+◌, map, drop, ap, sym, ◌∙◌}
use Rattle.cml_index.specs.Slots.{slot_in}
use Rattle.cml_index.specs.Live as spec
use Rattle.cml_index.proofs.Walks.{waits_left, waits_any}
use Rattle.cml_index.proofs.Kept.{add_more, add_under, counted_more, came_counted}
use Rattle.cml_index.proofs.live.Live.add_all.Goals as goal

pub add_at-requires : goal.add_at-requires
add_at-requires c n e = c.loop-wait.invariant.places n (c.requires.there n (waits_any (spec.has_side n) c.args.waits.now c.loop-wait.wait-index c.slot.result _ c.loop-wait-test.true c.slot.ensures e))

pub loop-wait-preserved : goal.loop-wait-preserved
loop-wait-preserved c =
    let i = c.loop-wait.wait-index in
    let ss = map slot_in c.args.waits.now in
    record {
      was = λ n rest. add_more (spec.has_side n c.slot.result) (spec.have_side n (drop (i + 1) ss))
          (spec.have_side n (drop i ss)) (spec.is_in c.loop-wait.self n) (spec.is_in c.add_at.new.self n)
          (spec.is_live c.args.lanes.now n)
          (ap (spec.have_side n) (waits_left c.args.waits.now i c.slot.result _ c.loop-wait-test.true c.slot.ensures))
          rest (c.add_at.ensures.here n) (c.add_at.ensures.elsewhere n) (c.loop-wait.invariant.was n)
          (c.loop-wait.invariant.under n);
      under = λ n. add_under (spec.has_side n c.slot.result) (spec.is_in c.loop-wait.self n)
          (spec.is_in c.add_at.new.self n) (spec.is_live c.args.lanes.now n) (c.add_at.ensures.here n)
          (c.add_at.ensures.elsewhere n) (c.loop-wait.invariant.under n);
      counted = λ n rest. counted_more (spec.has_side n c.slot.result) (spec.have_side n (drop (i + 1) ss)) (spec.have_side n (drop i ss))
          (ap (spec.have_side n) (waits_left c.args.waits.now i c.slot.result _ c.loop-wait-test.true c.slot.ensures)) rest
          (λ here_ on two. came_counted (spec.is_in c.loop-wait.self n) (spec.is_in c.add_at.new.self n)
          (spec.is_live c.args.lanes.now n) (c.add_at.ensures.here n here_) (c.loop-wait.invariant.under n) on
          (λ live_. c.add_at.ensures.heads n here_ live_ on two))
          (λ off left on two. c.add_at.ensures.beside n off ∙ c.loop-wait.invariant.counted n left (sym (c.add_at.ensures.elsewhere n off) ∙ on) two);
      places = λ n h. c.add_at.ensures.places n (c.loop-wait.invariant.places n h);
    }
