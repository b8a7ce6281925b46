use Rattle.std.proofs.Common.{◌∙◌, not, get_or}
use Rattle.cml_scan.specs.declared.object.Light.TheVariants as of
use Rattle.cml_index.specs.Posts as spec
use Rattle.cml_index.proofs.Lit.{at_place, not_true}
use Rattle.cml_index.proofs.state.IndexState.forget_all.Goals as goal

pub forget-requires-clause-out : goal.forget-requires-clause-out
forget-requires-clause-out c =
    let d = of.IVar (record { 0 = 0 }) in
    let light = get_or c.args.lights.now c.loop-light.light-index d in
    c.loop-light.invariant.told light ∙ not_true (spec.told c.args.self.now.flags.entries light)
    (at_place (λ l. not (spec.told c.args.self.now.flags.entries l)) c.args.lights.now c.loop-light.light-index d c.loop-light-test.true c.requires.out)

pub loop-light-preserved : goal.loop-light-preserved
loop-light-preserved c =
    record {
      told = λ m. c.forget.ensures.told m ∙ c.loop-light.invariant.told m;
      indexed = c.forget.ensures.indexed;
      idle = c.forget.ensures.idle;
      entries = c.forget.ensures.entries ∙ c.loop-light.invariant.entries;
      leaves = c.forget.ensures.leaves ∙ c.loop-light.invariant.leaves;
    }
