use Rattle.std.proofs.Common.{◌≡◌, drop}
use Rattle.cml_value.specs.Group.{groups}
use Rattle.cml_group.specs.LaidOut.{are_bare_leaves}
use Rattle.cml_group.proofs.bare.are_bare_leaves.Given as goal

-- whether all are such rests on the rest
abbrev pub invariant-loop-member : goal.invariant-loop-member
invariant-loop-member l = are_bare_leaves (groups (drop l.member-index l.members)) ≡ are_bare_leaves (groups l.members)
