use Rattle.std.proofs.Common.{◌≡◌, drop}
use Rattle.cml_check.specs.Syntax.{exprs}
use Rattle.cml_step.specs.Variables.{slot_value}
use Rattle.cml_facts.specs.Parts.{first_no_event}
use Rattle.cml_facts.proofs.fault.choice.first_no_event.Given as goal

-- it is among those that are left
abbrev pub invariant-loop-e : goal.invariant-loop-e
invariant-loop-e l = first_no_event (slot_value l.slots) (exprs (drop l.e-index l.e-items)) ≡ first_no_event (slot_value l.slots) (exprs l.e-items)
