use Rattle.cml_check.proofs.StatementLemmas.{no_act}
use Rattle.cml_check.proofs.effect.simple.Goals as goal

pub returns-in_default-clause-gives : goal.returns-in_default-clause-gives
returns-in_default-clause-gives c = rw c.fault_at.ensures (no_act _ _ _ c.args.act c.args.behind.now c.in_default.len_at_least)
