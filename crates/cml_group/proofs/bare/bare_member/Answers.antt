use Rattle.std.proofs.Common.{◌≡◌, Some, refl, ap, sym, ◌∙◌}
use Rattle.std.proofs.lemmas.Option.{slice_get_read}
use Rattle.cml_value.specs.Group.{leaf}
use Rattle.cml_value.specs.GroupViews.{plain_group}
use Rattle.cml_group.proofs.Listed.{bare_at, leaf_kind}
use Rattle.cml_group.proofs.bare.bare_member.Goals as goal

pub unreachable-requires : goal.unreachable-requires
unreachable-requires c =
    let at = bare_at c.args.members.now c.args.n c.requires.bare c.requires.n in
    let read = slice_get_read c.args.members.now _ c.args.n c.index-members-n.result refl c.requires.n c.index-members-n.is in
    let member : c.index-members-n.result ≡ leaf at.0 = cc (at.1, read) in
    leaf_kind c.kind.result.now at.0 (c.kind.ensures ∙ member) c.in_default.not-Leaf

pub returns-clause-leaf : goal.returns-clause-leaf
returns-clause-leaf c =
    slice_get_read c.args.members.now _ c.args.n c.index-members-n.result refl c.requires.n c.index-members-n.is
    ∙ ap Some (sym (ap plain_group (sym c.in-Leaf.is) ∙ c.kind.ensures))

pub returns-clause-bare : goal.returns-clause-bare
returns-clause-bare c =
    let at = bare_at c.args.members.now c.args.n c.requires.bare c.requires.n in
    let read = slice_get_read c.args.members.now _ c.args.n c.index-members-n.result refl c.requires.n c.index-members-n.is in
    let here : leaf c.in-Leaf.base ≡ c.index-members-n.result = ap plain_group (sym c.in-Leaf.is) ∙ c.kind.ensures in
    cc (at.1, at.2, read, here)
