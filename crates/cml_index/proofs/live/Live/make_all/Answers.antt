use Rattle.std.proofs.Common.{◌≡◌, ◌||◌, true, false, map, take, sym, ◌∙◌, refl}
use Rattle.cml_index.specs.Slots.{slot_in}
use Rattle.cml_index.specs.Live as spec
use Rattle.std.proofs.Common.{Bool}
use Rattle.cml_index.proofs.Walks.{waits_more, decide}
use Rattle.cml_index.proofs.live.Live.make_all.Goals as goal

pub loop-wait-preserved : goal.loop-wait-preserved
loop-wait-preserved c =
    let ss = map slot_in c.args.waits.now in
    let i = c.loop-wait.wait-index in
    record {
      same = record {
        same = c.make_at.ensures.same.same ∙ c.loop-wait.invariant.same.same;
        places = λ n h. c.make_at.ensures.same.places n (c.loop-wait.invariant.same.places n h);
        here = λ n. c.make_at.ensures.same.here n ∙ c.loop-wait.invariant.same.here n;
        counts = λ n. c.make_at.ensures.same.counts n ∙ c.loop-wait.invariant.same.counts n;
      };
      there = λ n e. decide (spec.has_side n c.slot.result)
          (λ on. c.in_ok-make_at.ensures.there n on)
          (λ off. c.make_at.ensures.same.places n
          (c.loop-wait.invariant.there n
          (first (spec.have_side n (take i ss)) (spec.has_side n c.slot.result) off
          (sym (waits_more (spec.has_side n) c.args.waits.now i c.slot.result _ c.loop-wait-test.true
          c.slot.ensures) ∙ e))));
    }
  where
    first : (a b : Bool) → b ≡ false → a || b ≡ true → a ≡ true
    first true b e f = refl
    first false b e f = sym e ∙ f
