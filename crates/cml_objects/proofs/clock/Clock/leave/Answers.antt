use Rattle.std.proofs.Common.{◌≡◌, ◌<◌, ◌-◌, None, Some, arith}
use Rattle.std.specs.Ordering.{nat_cmp}
use Rattle.std.specs.BTreeMap as tree
use Rattle.std.proofs.lemmas.Map.Views.{All-values-insert_entry, All-map-remove_entry}
use Rattle.cml_objects.specs.Clocks.{leaves_at}
use Rattle.cml_objects.proofs.ClockLemmas.{removes_one, removes_last, not_absent, sure_insert}
use Rattle.cml_objects.proofs.clock.Clock.leave.Goals as goal

pub invariant_of-self : goal.invariant_of-self
invariant_of-self c =
    let m = c.self.inside.waited in
    let l = c.leaves-leaves.result in
    let was : l ≡ leaves_at m.entries c.args.tick = rw (← c.self.view_is) at c.leaves-leaves.ensures in
    let some : 0 < leaves_at m.entries c.args.tick = omega (arith, was, c.if-leaves-gt1.true) in
    let more : 0 < l - 1 = omega (arith, c.if-leaves-gt1.true) in
    let P = c.insert.new.self.entries ≡ tree.insert_entry nat_cmp m.entries c.args.tick (l - 1) in
    let Q = tree.get nat_cmp m c.args.tick ≡ None in
    let done : P = sure_insert P Q c.insert.result c.insert.ensures.entries c.insert.ensures.absent (λ q. not_absent m c.args.tick q some) in
    rw done (All-values-insert_entry nat_cmp c.args.tick (l - 1) (λ n. 0 < n) m.entries c.self.invariant more)

pub invariant_of-self-else-leaves-gt1 : goal.invariant_of-self-else-leaves-gt1
invariant_of-self-else-leaves-gt1 c = rw c.remove.ensures.entries (All-map-remove_entry (tree.is_at (nat_cmp c.args.tick)) (λ e. e.1) (λ n. 0 < n) c.self.inside.waited.entries c.self.invariant)

pub returns-then-leaves-gt1-clause-waited : goal.returns-then-leaves-gt1-clause-waited
returns-then-leaves-gt1-clause-waited c = λ t.
    let m = c.self.inside.waited in
    let n = c.insert.new.self in
    let l = c.leaves-leaves.result in
    let was : l ≡ leaves_at m.entries c.args.tick = rw (← c.self.view_is) at c.leaves-leaves.ensures in
    let some : 0 < leaves_at m.entries c.args.tick = omega (arith, was, c.if-leaves-gt1.true) in
    let P = tree.Updates nat_cmp m n c.args.tick (Some (l - 1)) in
    let Q = tree.get nat_cmp m c.args.tick ≡ None in
    let done : P = sure_insert P Q c.insert.result c.insert.ensures.updates c.insert.ensures.absent (λ q. not_absent m c.args.tick q some) in
    rw (← c.self.view_is) (removes_one m n c.args.tick l was done.0 t)

pub returns-else-leaves-gt1-clause-waited : goal.returns-else-leaves-gt1-clause-waited
returns-else-leaves-gt1-clause-waited c = λ t.
    let m = c.self.inside.waited in
    let l = c.leaves-leaves.result in
    let was : l ≡ leaves_at m.entries c.args.tick = rw (← c.self.view_is) at c.leaves-leaves.ensures in
    rw (← c.self.view_is) (removes_last m c.remove.new.self c.args.tick l c.if-leaves-gt1.false was c.remove.ensures.updates.0 t)
