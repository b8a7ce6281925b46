-- What decides what happens next, as the arguments say it.
use Rattle.std.specs.Prelude.{ℕ, Bool, if◌then◌else◌, Option, Some, None}
use Rattle.cml_explore.specs.declared.seed.order.Order.{Order}
use Rattle.cml_explore.specs.declared.seed.order.Order.TheVariants as by
use Rattle.cml_explore.specs.declared.orders.Orders.{Orders}
use Rattle.cml_explore.specs.declared.orders.Orders.TheVariants as each

-- in a run, where they say it: priorities of this depth; or that turns are drawn too
abbrev pub order_said : Bool → Option ℕ → Option Order
order_said turns (Some depth) = Some (by.Priority depth)
order_said turns None = if turns then Some by.Lot else None

-- in each of many runs: this order; or, where none is said, threads have their turns in order, where that is asked for; and else all orders go round
abbrev pub orders_said : Bool → Option Order → Orders
orders_said picks (Some order) = each.Named order
orders_said picks None = if picks then each.Named by.Queue else each.Round
