use Rattle.std.proofs.Common.{◌≡◌, ◌<◌, ◌^◌, length, nat_eq, ap, sym, subst, ◌∙◌}
use Rattle.std.specs.Prelude.{slice_get}
use Rattle.indexmap.specs.IndexMap.{get}
use Rattle.cml_index.specs.declared.slot.Slot.TheVariants.{Waiters}
use Rattle.cml_index.specs.declared.slot.Spot.TheVariants.{Listed, Tick}
use Rattle.cml_index.specs.Stands.{places_in, light_spot, stand_at, stand_in}
use Rattle.cml_index.proofs.lanes.Lanes.go_lone_waiter.Goals as goal

pub returns-in-Listed-clause-cost : goal.returns-in-Listed-clause-cost
returns-in-Listed-clause-cost c digits few =
    let to : Listed c.in-Listed.row c.in-Listed.number ≡ light_spot c.args.light.now = sym c.in-Listed.is ∙ c.spot_of_light.ensures in
    let is : slice_get c.row_mut.result.now.items c.in-Listed.number
    ≡ stand_at c.args.self.now (Waiters c.args.light.now) = ap (λ v. slice_get v.items c.in-Listed.number)
    c.row_mut.ensures.value ∙ ap (stand_in c.args.self.now) to in
    c.go_lone_in.ensures.cost digits (subst (λ s. length (places_in s) < 2 ^ digits) (sym is) few)

pub returns-in-Tick-clause-cost : goal.returns-in-Tick-clause-cost
returns-in-Tick-clause-cost c digits few =
    let to : Tick c.in-Tick.tick ≡ light_spot c.args.light.now = sym c.in-Tick.is ∙ c.spot_of_light.ensures in
    let is : get nat_eq c.args.self.now.ticks c.in-Tick.tick ≡ stand_at c.args.self.now (Waiters c.args.light.now) = ap (stand_in c.args.self.now) to in
    c.go_lone_tick.ensures.cost digits (subst (λ s. length (places_in s) < 2 ^ digits) (sym is) few)
