use Rattle.std.proofs.Common.{◌≡◌, ◌-◌, length}
use Rattle.cml_explore.specs.Priorities.{numbers_drawn}
use Rattle.cml_explore.proofs.seed.priority.draw.Given as goal

-- so many are left to be drawn
abbrev pub invariant-drawing : goal.invariant-drawing
invariant-drawing l =
    numbers_drawn l.above l.span (l.count - length l.numbers.items) (record { numbers = l.numbers.items; state = l.chooser })
    ≡ numbers_drawn l.above l.span (l.count - length l.fn.numbers.items) (record { numbers = l.fn.numbers.items; state = l.fn.chooser })

abbrev pub decreases-drawing : goal.decreases-drawing
decreases-drawing l = l.count - length l.numbers.items
