use Rattle.std.proofs.Common.{◌≡◌, true, ap, sym, ◌∙◌, arith}
use Rattle.cml_value.specs.Group.{choose, groups, leaf_count}
use Rattle.cml_value.specs.GroupViews.{plain_group}
use Rattle.cml_group.specs.LaidOut.{is_flat}
use Rattle.cml_group.proofs.Listed.{bare_count}
use Rattle.cml_group.proofs.bare.own_count.Goals as goal

pub returns-in-Choose : goal.returns-in-Choose
returns-in-Choose c =
    let gs = c.deref.result.now.items in
    let whole : choose (groups gs) ≡ c.args.group.now = ap (λ v. choose (groups v)) (ap (λ v. v.items) c.deref.ensures) ∙ ap plain_group (sym c.in-Choose.is) ∙ c.kind.ensures in
    let flat : is_flat (choose (groups gs)) ≡ true = ap is_flat whole ∙ c.requires in
    let count : leaf_count (choose (groups gs)) ≡ leaf_count c.args.group.now = ap leaf_count whole in
    omega (arith, bare_count gs flat, c.len.ensures, c.deref.result.now.ok.0)
