use Rattle.std.proofs.Common.{◌≡◌, ◌++◌, drop}
use Rattle.cml_judge.specs.Judgements.{break_details}
use Rattle.cml_judge.proofs.details.push_breaks.Given as goal

-- what was said so far, and what is to be said of the properties that are left
abbrev pub invariant-loop-number : goal.invariant-loop-number
invariant-loop-number l = l.details.items ++ break_details l.number (drop l.number l.judged) ≡ l.fn.details.items ++ break_details 0 l.judged
