use Rattle.std.proofs.lemmas.Result.{on_ok_weaker}
use Rattle.cml_explore.specs.Outcomes.{plain_outcome}
use Rattle.cml_host.proofs.outcomes.add.Goals as goal

pub returns : goal.returns
returns c =
    on_ok_weaker c.note.result
    (λ noted. (c.in_ok-text.text.items, (plain_outcome c.in_ok-outcome.outcome, c.in_ok-outcome.ensures, c.in_ok-text.ensures), noted)) c.note.ensures
