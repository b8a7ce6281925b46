use Rattle.std.proofs.Common.{◌≡◌, ap, arith, ◌∙◌, ◌<◌, ◌+◌, ◌++◌, ◌∷◌, [], drop, map, sym, append_assoc}
use Rattle.std.proofs.lemmas.List.{drop_more}
use Rattle.cml_value.specs.Group.{choose, groups, bases, scopes, nacks_of}
use Rattle.cml_value.specs.GroupHeights.{group_height, groups_height}
use Rattle.cml_scan.proofs.Heights.{member_below}
use Rattle.cml_index.specs.Waits.{leaf_wait}
use Rattle.cml_index.proofs.Waits.{waits_of_all, waits-groups_and}
use Rattle.cml_index.proofs.Scopes.{nacks_of_all, nacks-groups_and}
use Rattle.cml_index.proofs.entry.+push_waits.Goals.{in-Leaf-kind+in_ok-push_wait-in-Leaf-kind, in_default+in_ok-push_waits-in_default}
use Rattle.cml_index.proofs.entry.+push_waits.Goals as goal

-- a member of a choice lies lower than the choice
pub push_waits-requires : goal.push_waits-requires
push_waits-requires t c =
    let below : group_height c.member-item.result < groups_height (groups c.deref-member-items.result.now) = member_below _ _ _ c.loop-member-test.true c.member-item.is in
    let of_kind = rw c.in-Choose.is at c.kind.ensures in
    let items = c.deref-member-items.ensures.value ∙ ap (λ v. v.items) c.deref.ensures in
    let whole : choose (groups c.deref-member-items.result.now) ≡ c.args.group.now = rw items of_kind in
    let height : groups_height (groups c.deref-member-items.result.now) ≡ group_height c.args.group.now = ap group_height whole in
    let start = c.decreases in
    (omega arith, tt)

pub loop-member-preserved : goal.loop-member-preserved
loop-member-preserved t c =
    let xs = c.deref-member-items.result.now in
    let i = c.loop-member.member-index in
    let item = c.member-item.result in
    let later = groups (drop (i + 1) xs) in
    let split : drop i xs ≡ item ∷ drop (i + 1) xs = drop_more xs i item c.loop-member-test.true ∙ ap (λ x. x ∷ drop (i + 1) xs) (sym c.member-item.is) in
    let waits : map leaf_wait (bases item) ++ waits_of_all later ≡ waits_of_all (groups (drop i xs)) = sym (waits-groups_and item later) ∙ ap (λ gs. waits_of_all (groups gs)) (sym split) in
    let nacks : nacks_of (scopes item) ++ nacks_of_all later ≡ nacks_of_all (groups (drop i xs)) = sym (nacks-groups_and item later) ∙ ap (λ gs. nacks_of_all (groups gs)) (sym split) in
    elim c.match-kind-2.branch [
      | in-Leaf-kind+in_ok-push_wait-in-Leaf-kind w ↦
          let is = rw w.in-Leaf-kind.is at c.kind-in-loop-member.ensures in
          let one : map leaf_wait (bases item) ≡ w.of-in-Leaf-kind.result ∷ [] = ap (λ g. map leaf_wait (bases g)) (sym is) ∙ ap (λ x. x ∷ []) (sym w.of-in-Leaf-kind.ensures) in
          let none : nacks_of (scopes item) ≡ [] = ap (λ g. nacks_of (scopes g)) (sym is) in
          record {
            waits = ap (λ v. v.items ++ waits_of_all later) w.all-is
                ∙ ap (λ ws. ws ++ waits_of_all later) (w.in_ok-push_wait-in-Leaf-kind.ensures ∙ ap (λ ws. c.loop-member.all.items ++ ws) (sym one))
                ∙ append_assoc c.loop-member.all.items (map leaf_wait (bases item)) (waits_of_all later)
                ∙ ap (λ ws. c.loop-member.all.items ++ ws) waits
                ∙ c.loop-member.invariant.waits;
            nacks = ap (λ v. v.items ++ nacks_of_all later) w.nacks-is
                ∙ ap (λ ns. c.loop-member.nacks.items ++ ns) (ap (λ ns. ns ++ nacks_of_all later) (sym none) ∙ nacks)
                ∙ c.loop-member.invariant.nacks;
          }
      | in_default+in_ok-push_waits-in_default w ↦
          record {
            waits = ap (λ v. v.items ++ waits_of_all later) w.all-is
                ∙ ap (λ ws. ws ++ waits_of_all later) w.in_ok-push_waits-in_default.ensures.waits
                ∙ append_assoc c.loop-member.all.items (map leaf_wait (bases item)) (waits_of_all later)
                ∙ ap (λ ws. c.loop-member.all.items ++ ws) waits
                ∙ c.loop-member.invariant.waits;
            nacks = ap (λ v. v.items ++ nacks_of_all later) w.nacks-is
                ∙ ap (λ ns. ns ++ nacks_of_all later) w.in_ok-push_waits-in_default.ensures.nacks
                ∙ append_assoc c.loop-member.nacks.items (nacks_of (scopes item)) (nacks_of_all later)
                ∙ ap (λ ns. c.loop-member.nacks.items ++ ns) nacks
                ∙ c.loop-member.invariant.nacks;
          }
    ]
