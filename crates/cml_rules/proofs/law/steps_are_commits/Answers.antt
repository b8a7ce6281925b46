use Rattle.cml_rules.proofs.Committing.{steps_are_commits}
use Rattle.cml_rules.proofs.law.steps_are_commits.Goals as goal

pub returns : goal.returns
returns c = steps_are_commits
