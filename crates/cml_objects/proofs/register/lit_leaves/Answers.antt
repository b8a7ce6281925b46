use Rattle.std.proofs.Common.{◌≡◌, [], None, map, rules, sym, ◌∙◌, append-nil}
use Rattle.cml_objects.specs.Registered.{lit_at}
use Rattle.cml_objects.proofs.LitLeaves.{lit_leaves_after, lit_leaves_exact, lit_leaves_in_order}
use Rattle.cml_objects.proofs.register.lit_leaves.Goals as goal

pub returns-clause-exact : goal.returns-clause-exact
returns-clause-exact g c = λ leaf.
    let lit = lit_at g.K.Source.is_lit (map g.K.Source.state c.args.objects.now) in
    let end : c.loop-leaf.leaf-iterator ≡ [] = search rules in
    let list : c.loop-leaf.list.items ≡ lit_leaves_after lit None c.args.waits.now.keys = sym (append-nil c.loop-leaf.list.items) ∙ (rw end at c.loop-leaf.invariant) in
    rw list (lit_leaves_exact lit c.args.waits.now.keys leaf)

pub returns-clause-order : goal.returns-clause-order
returns-clause-order g c =
    let lit = lit_at g.K.Source.is_lit (map g.K.Source.state c.args.objects.now) in
    let end : c.loop-leaf.leaf-iterator ≡ [] = search rules in
    let list : c.loop-leaf.list.items ≡ lit_leaves_after lit None c.args.waits.now.keys = sym (append-nil c.loop-leaf.list.items) ∙ (rw end at c.loop-leaf.invariant) in
    rw list (lit_leaves_in_order lit c.args.waits.now.keys c.into_iter-leaf-iterator.ensures.into_iter_gives.4)
