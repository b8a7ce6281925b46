use Rattle.std.proofs.Common.{rules, ap, ◌∙◌}
use Rattle.cml_work.specs.Marks.{shown_all}
use Rattle.cml_work.proofs.MarkSteps.{gives_as}
use Rattle.cml_work.proofs.marks.show.Goals as goal

pub split_pass-requires : goal.split_pass-requires
split_pass-requires c = (search rules, (search rules, (c.requires.keeper.0, gives_as _ _ _ c.requires.keeper.1)))

pub returns-clause-keeper : goal.returns-clause-keeper
returns-clause-keeper c = (c.split_pass.ensures.kept.0.0 ∙ c.requires.keeper.0, c.split_pass.ensures.kept.1 ∙ c.requires.keeper.1)

pub returns-clause-mark : goal.returns-clause-mark
returns-clause-mark c =
    let given = c.split_pass.ensures.given in
    (given.0 ∙ c.requires.keeper.0, given.2, given.1 ∙ ap shown_all c.requires.keeper.1)
