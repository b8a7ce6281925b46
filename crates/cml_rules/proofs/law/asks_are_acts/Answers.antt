use Rattle.cml_rules.proofs.Asking.{derived, done_so}
use Rattle.cml_rules.proofs.Raising.{raised, only_raised}
use Rattle.cml_rules.proofs.law.asks_are_acts.Goals as goal

pub returns : goal.returns
returns c = λ w t a r. record { derived = derived w t a; done = done_so w t a r; raised = raised w t a; only_raised = only_raised w t a }
