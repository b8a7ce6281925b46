use Rattle.std.proofs.Common.{◌≡◌, drop, map}
use Rattle.cml_trace.specs.Given.{all_of}
use Rattle.cml_trace.specs.ValueForms.{value_from}
use Rattle.cml_trace.proofs.GivenLemmas.{onto}
use Rattle.cml_trace.proofs.form.values_from.Given as goal

-- what was found, and what is left, is what all are
abbrev pub invariant-loop-form : goal.invariant-loop-form
invariant-loop-form l = onto l.values.items (all_of (map value_from (drop l.form-index l.forms))) ≡ all_of (map value_from l.forms)
