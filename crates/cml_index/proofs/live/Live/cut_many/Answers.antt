use Rattle.std.proofs.Common.{◌+◌, map, drop, ap, sym, ◌∙◌}
use Rattle.cml_index.specs.Slots.{slot_in}
use Rattle.cml_index.specs.Live as spec
use Rattle.cml_index.proofs.Walks.{waits_left}
use Rattle.cml_index.proofs.Kept.{cut_more, cut_over, counted_more}
use Rattle.cml_index.proofs.live.Live.cut_many.Goals as goal

pub loop-wait-preserved : goal.loop-wait-preserved
loop-wait-preserved c =
    let i = c.loop-wait.wait-index in
    let ss = map slot_in c.args.waits.now in
    record {
      was = λ n rest. cut_more (spec.has_side n c.slot.result) (spec.have_side n (drop (i + 1) ss))
          (spec.have_side n (drop i ss)) (spec.is_in c.loop-wait.self n) (spec.is_in c.cut_at.new.self n)
          (spec.is_live c.args.lanes.now n)
          (ap (spec.have_side n) (waits_left c.args.waits.now i c.slot.result _ c.loop-wait-test.true c.slot.ensures))
          rest (c.cut_at.ensures.here n) (c.cut_at.ensures.elsewhere n) (c.loop-wait.invariant.was n)
          (c.loop-wait.invariant.over n);
      over = λ n. cut_over (spec.has_side n c.slot.result) (spec.is_in c.loop-wait.self n)
          (spec.is_in c.cut_at.new.self n) (spec.is_live c.args.lanes.now n) (c.cut_at.ensures.here n)
          (c.cut_at.ensures.elsewhere n) (c.loop-wait.invariant.over n);
      counted = λ n rest. counted_more (spec.has_side n c.slot.result) (spec.have_side n (drop (i + 1) ss)) (spec.have_side n (drop i ss))
          (ap (spec.have_side n) (waits_left c.args.waits.now i c.slot.result _ c.loop-wait-test.true c.slot.ensures)) rest
          (λ here_. c.cut_at.ensures.heads n here_)
          (λ off left on two. c.cut_at.ensures.beside n off ∙ c.loop-wait.invariant.counted n left (sym (c.cut_at.ensures.elsewhere n off) ∙ on) two);
      places = λ n h. c.cut_at.ensures.places n (c.loop-wait.invariant.places n h);
    }
