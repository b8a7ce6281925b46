use Rattle.std.proofs.Common.{◌≡◌, ◌++◌, None, map}
use Rattle.cml_objects.specs.Registered.{lit_at}
use Rattle.cml_objects.proofs.LitLeaves.{lit_leaves_after}
use Rattle.cml_objects.proofs.register.lit_leaves.Given as goal

abbrev pub invariant-loop-leaf : goal.invariant-loop-leaf
invariant-loop-leaf g l =
    let lit = lit_at g.K.Source.is_lit (map g.K.Source.state l.objects) in
    l.list.items ++ lit_leaves_after lit l.last l.leaf-iterator ≡ lit_leaves_after lit None l.waits.keys
