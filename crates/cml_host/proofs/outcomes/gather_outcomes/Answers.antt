use Rattle.std.proofs.Common.{map}
use Rattle.std.proofs.lemmas.Result.{IfOk-weaker}
use Rattle.cml_host.specs.Outcomes.{plain_outcome_told}
use Rattle.cml_host.proofs.FoundLemmas.{outcomes_of}
use Rattle.cml_host.proofs.outcomes.gather_outcomes.Goals as goal

pub returns : goal.returns
returns c =
    IfOk-weaker c.listed.result _ _
    (λ told is. outcomes_of c.args.program.now (map
    (λ schedule. schedule.items) c.args.schedules.now) c.in_ok-found.found c.in_ok-found.ensures c.listed.ensures.ordered (map plain_outcome_told told.items) is)
    c.listed.ensures.told
