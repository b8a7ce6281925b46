use Rattle.std.proofs.Common.{◌∙◌, sym, true≢false}
use Rattle.cml_host.proofs.explore.explore_beside.Goals as goal

pub explore_program-requires-clause-beside : goal.explore_program-requires-clause-beside
explore_program-requires-clause-beside g c κs within =
    λ some. absurd (true≢false (sym some ∙ (sym c.some_compare-compare.ensures ∙ c.if-compare.false)))
