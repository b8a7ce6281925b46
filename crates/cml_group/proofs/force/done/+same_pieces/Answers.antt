use Rattle.std.proofs.Common.{arith, rules}
use Rattle.std.specs.List.{flat_map}
use Rattle.cml_group.proofs.Cuts.{same_cut}
use Rattle.cml_group.proofs.force.done.+same_pieces.Goals as goal

pub returns-then-same_groups : goal.returns-then-same_groups
returns-then-same_groups t c =
    let cut = same_cut c.min-many.result c.args.groups.now c.args.others.now (flat_map (λ p. p.value.items) c.args.pieces.now)
    (flat_map (λ p. p.value.items) c.args.other_pieces.now) _ _ _ _ (omega arith) (omega arith)
    c.split_at.ensures.front c.split_at.ensures.back c.split_at-2.ensures.front c.split_at-2.ensures.back in (
      (λ h. cut.1 (c.same_groups.ensures.0 (rw c.if-same_groups.true (search rules)), c.same_pieces-then-same_groups.ensures.0 h)),
      (λ h. c.same_pieces-then-same_groups.ensures.1 (cut.0 h).1),
    )

pub returns-else-same_groups : goal.returns-else-same_groups
returns-else-same_groups t c =
    let cut = same_cut c.min-many.result c.args.groups.now c.args.others.now (flat_map (λ p. p.value.items) c.args.pieces.now)
    (flat_map (λ p. p.value.items) c.args.other_pieces.now) _ _ _ _ (omega arith) (omega arith)
    c.split_at.ensures.front c.split_at.ensures.back c.split_at-2.ensures.front c.split_at-2.ensures.back in (
      (λ h. let no = c.if-same_groups.false in cc),
      (λ h. c.same_groups.ensures.1 (cut.0 h).0),
    )
