use Rattle.std.proofs.Common.{◌≡◌, ◌++◌, map, take}
use Rattle.cml_facts.specs.Details.{kind_detail}
use Rattle.cml_facts.proofs.fault.details.push_kinds.Given as goal

-- those of the base events so far
abbrev pub invariant-loop-base : goal.invariant-loop-base
invariant-loop-base l = l.details.items ≡ l.fn.details.items ++ map kind_detail (take l.base-index l.bases)
