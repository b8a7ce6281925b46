use Rattle.cml_host.proofs.verify.verdict_on.Goals as goal

pub returns-in-Ok-clause-found : goal.returns-in-Ok-clause-found
returns-in-Ok-clause-found c = record { ends = c.in-Ok.ensures.ends; faults = c.in-Ok.ensures.faults; unending = c.in-Ok.ensures.unending }
