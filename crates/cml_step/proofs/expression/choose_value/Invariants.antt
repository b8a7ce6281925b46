use Rattle.std.proofs.Common.{◌≡◌, drop}
use Rattle.cml_step.specs.Operators.{as_events}
use Rattle.cml_step.proofs.Prefixes.{prefixed}
use Rattle.cml_step.proofs.expression.choose_value.Given as goal

abbrev pub invariant-loop-member : goal.invariant-loop-member
invariant-loop-member l = as_events l.member-items ≡ prefixed l.events.items (as_events (drop l.member-index l.member-items))
