use Rattle.std.proofs.Common.{◌≡◌, true, ap, sym, ◌∙◌, arith}
use Rattle.cml_value.specs.Group.{PlainGroup, choose, groups, leaf_count}
use Rattle.cml_value.specs.GroupViews.{plain_group}
use Rattle.cml_group.specs.LaidOut.{is_flat}
use Rattle.cml_group.specs.Leaves.{leaf_base}
use Rattle.cml_group.proofs.Listed.{bare_count, bare_base}
use Rattle.cml_group.proofs.bare.own_leaf.Goals as goal

pub bare_member-requires-clause-n : goal.bare_member-requires-clause-n
bare_member-requires-clause-n c =
    let gs = c.deref-in-Choose.result.now in
    let whole : choose (groups gs) ≡ c.args.group.now =
    ap (λ v. choose (groups v)) (c.deref-in-Choose.ensures.value ∙ ap (λ v. v.items) c.deref.ensures) ∙ ap plain_group (sym c.in-Choose.is) ∙ c.kind.ensures in
    let flat : is_flat (choose (groups gs)) ≡ true = ap is_flat whole ∙ c.requires.flat in
    let count : leaf_count (choose (groups gs)) ≡ leaf_count c.args.group.now = ap leaf_count whole in
    omega (arith, bare_count gs flat)

pub returns-in-Choose : goal.returns-in-Choose
returns-in-Choose c =
    let gs = c.deref-in-Choose.result.now in
    let whole : choose (groups gs) ≡ c.args.group.now =
    ap (λ v. choose (groups v)) (c.deref-in-Choose.ensures.value ∙ ap (λ v. v.items) c.deref.ensures) ∙ ap plain_group (sym c.in-Choose.is) ∙ c.kind.ensures in
    ap (λ (g : PlainGroup). leaf_base g c.args.n) (sym whole)
    ∙ bare_base gs c.args.n _ (ap is_flat whole ∙ c.requires.flat) c.bare_member.ensures.leaf
