use Rattle.std.proofs.Common.{◌≡◌, ◌+◌, drop}
use Rattle.std.specs.List.{flat_map}
use Rattle.cml_value.specs.Group.{groups, groups_depth, groups_nodes}
use Rattle.cml_value.specs.Limits.{is_within}
use Rattle.cml_group.proofs.force.done.Done.spend.Given as goal

-- what was spent is what the pieces so far have, and whether it is enough for all rests on the rest
abbrev pub invariant-loop-piece : goal.invariant-loop-piece
invariant-loop-piece l =
    let rest = groups (flat_map (λ p. p.value.items) (drop l.piece-index l.piece-items)) in
    let all = groups (flat_map (λ p. p.value.items) l.piece-items) in
    (l.budget + groups_nodes rest ≡ l.left + groups_nodes all)
    × (is_within l.depth l.left (groups_depth rest) (groups_nodes rest) ≡ is_within l.depth l.budget (groups_depth all) (groups_nodes all))
