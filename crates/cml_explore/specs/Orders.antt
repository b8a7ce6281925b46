-- What decides in each of many runs what happens next.
use Rattle.std.specs.Prelude.{ℕ, ◌%◌, ◌==◌, if◌then◌else◌}
use Rattle.cml_explore.specs.declared.seed.order.Order.{Order}
use Rattle.cml_explore.specs.declared.seed.order.Order.TheVariants as by
use Rattle.cml_explore.specs.declared.orders.Orders.{Orders}
use Rattle.cml_explore.specs.declared.orders.Orders.TheVariants as each

-- the orders that go round, by place
abbrev pub order_at : ℕ → Order
order_at place =
    if place == 0 then by.Queue
    else if place == 1 then by.Lot
    else if place == 2 then by.Priority 2
    else if place == 3 then by.Priority 3
    else by.Priority 5

-- The order of the run by this seed: the one that is named; or the five go round with the seeds.
abbrev pub seed_order : Orders → ℕ → Order
seed_order (each.Named order) seed = order
seed_order each.Round seed = order_at (seed % 5)
