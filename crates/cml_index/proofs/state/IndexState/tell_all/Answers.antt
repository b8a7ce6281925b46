use Rattle.std.proofs.Common.{◌∙◌, get_or, arith}
use Rattle.cml_scan.specs.declared.object.Light.TheVariants as of
use Rattle.cml_index.specs.declared.slot.Slot.TheVariants.{Waiters}
use Rattle.cml_index.specs.Posts as spec
use Rattle.cml_index.proofs.Lit.{told_more, at_place}
use Rattle.cml_index.proofs.state.IndexState.tell_all.Goals as goal

pub tell-requires-clause-there : goal.tell-requires-clause-there
tell-requires-clause-there c = λ on.
    let d = of.IVar (record { 0 = 0 }) in
    c.loop-light.invariant.kept (Waiters (get_or c.args.lights.now c.loop-light.light-index d))
    (at_place (λ l. spec.is_named c.args.self.now.flags.entries (Waiters l)) c.args.lights.now c.loop-light.light-index d c.loop-light-test.true (c.requires.there on))

pub loop-light-preserved : goal.loop-light-preserved
loop-light-preserved c =
    record {
      told = λ m. told_more c.args.lights.now c.loop-light.light-index _ m c.args.lit _ _ _ c.loop-light-test.true (c.tell.ensures.told m) (c.loop-light.invariant.told m);
      indexed = c.tell.ensures.indexed;
      entries = c.tell.ensures.still.entries ∙ c.loop-light.invariant.entries;
      lanes = c.tell.ensures.still.lanes ∙ c.loop-light.invariant.lanes;
      live = c.tell.ensures.still.live ∙ c.loop-light.invariant.live;
      leaves = c.tell.ensures.still.leaves ∙ c.loop-light.invariant.leaves;
      kept = λ k h. c.tell.ensures.kept k (c.loop-light.invariant.kept k h);
      cost = omega (arith, c.tell.ensures.cost, c.loop-light.invariant.cost);
    }
