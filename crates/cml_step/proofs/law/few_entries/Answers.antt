use Rattle.std.proofs.Common.{◌≤◌, sym, subst}
use Rattle.cml_step.specs.Machines.{machine_term}
use Rattle.cml_step.specs.Terms.{max_entries}
use Rattle.cml_step.proofs.ShortLemmas.{machine_length, short_few}
use Rattle.cml_step.proofs.law.few_entries.Goals as goal

pub returns : goal.returns
returns c p m fits = subst (λ n. n ≤ max_entries) (sym (machine_length p m)) (short_few (machine_term p m) fits.short)
