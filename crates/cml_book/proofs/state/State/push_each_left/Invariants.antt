use Rattle.std.proofs.Common.{◌≡◌, ◌≤◌, ◌+◌, ◌-◌, ◌++◌, drop, length}
use Rattle.std.specs.List.{filter}
use Rattle.std.specs.Vec.{vec_capacity}
use Rattle.cml_value.specs.Group.{bases, leaf_count}
use Rattle.cml_scan.specs.World.{pending}
use Rattle.cml_book.specs.Clock.{bases_awaited}
use Rattle.cml_book.specs.Keeping.{lights_in}
use Rattle.cml_book.specs.Leaving.{is_left, bases_of}
use Rattle.cml_book.proofs.state.State.push_each_left.Given as goal

-- what stands there, and what is left, are the lights of all; and there is room for what is left
abbrev pub invariant-loop-n : goal.invariant-loop-n
invariant-loop-n l = record {
  leads : l.lights.items ++ lights_in (filter (is_left (bases_awaited (pending l.self)) (bases l.flat) (bases_of l.other)) (drop l.n (bases l.flat)))
      ≡ l.fn.lights.items ++ lights_in (filter (is_left (bases_awaited (pending l.self)) (bases l.flat) (bases_of l.other)) (bases l.flat));
  room : vec_capacity l.lights ≡ vec_capacity l.fn.lights;
  fits : length l.lights.items + (leaf_count l.flat - l.n) ≤ vec_capacity l.lights;
}
