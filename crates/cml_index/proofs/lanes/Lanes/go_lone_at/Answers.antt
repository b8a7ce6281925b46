use Rattle.std.proofs.Common.{◌≡◌, ◌<◌, ◌^◌, length, ap, sym, subst, ◌∙◌}
use Rattle.std.specs.Prelude.{slice_get}
use Rattle.cml_index.specs.Stands.{places_in, stand_at}
use Rattle.cml_index.proofs.lanes.Lanes.go_lone_at.Goals as goal

pub returns-in-Side-clause-cost : goal.returns-in-Side-clause-cost
returns-in-Side-clause-cost c digits few =
    let is : slice_get c.side_mut.result.now.items c.in-Side.object.number ≡ stand_at c.args.self.now c.args.slot.now = ap (λ v. slice_get v.items c.in-Side.object.number)
    c.side_mut.ensures.value ∙ ap (stand_at c.args.self.now) (sym c.in-Side.is) in
    c.go_lone_in.ensures.cost digits (subst (λ s. length (places_in s) < 2 ^ digits) (sym is) few)

pub returns-in-Waiters-clause-cost : goal.returns-in-Waiters-clause-cost
returns-in-Waiters-clause-cost c digits few = c.go_lone_waiter.ensures.cost digits (subst (λ k. length (places_in (stand_at c.args.self.now k)) < 2 ^ digits) c.in-Waiters.is few)
