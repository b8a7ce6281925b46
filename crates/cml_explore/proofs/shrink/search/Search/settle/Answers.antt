use Rattle.cml_explore.specs.Searching.{MinimalTo}
use Rattle.cml_explore.proofs.SearchLemmas.{goes_nowhere, goes_on, step_goes, step_less, settles}
use Rattle.cml_explore.proofs.shrink.search.Search.settle.Goals as goal

pub passes-init : goal.passes-init
passes-init c = goes_nowhere c.args.goal.now c.args.self.now c.requires.alike

pub passes-preserved : goal.passes-preserved
passes-preserved c =
    let g = c.args.goal.now in
    goes_on g c.args.self.now c.passes.self c.pass.new.self c.passes.invariant
    (step_goes g (MinimalTo g c.passes.self.items) c.passes.self c.pass.new.self c.in_ok-changed.changed c.passes.invariant.ends_alike c.in_ok-changed.ensures)

pub passes-smaller : goal.passes-smaller
passes-smaller c =
    let g = c.args.goal.now in
    step_less g (MinimalTo g c.passes.self.items) c.passes.self c.pass.new.self c.in_ok-changed.changed c.if-not-changed.false c.in_ok-changed.ensures

pub returns-then-not-changed : goal.returns-then-not-changed
returns-then-not-changed c = settles c.args.goal.now c.args.self.now c.passes.self c.pass.new.self c.in_ok-changed.changed c.if-not-changed.true c.passes.invariant c.in_ok-changed.ensures
