use Rattle.std.proofs.Common.{◌≡◌, ◌≤◌, ◌+◌, ◌-◌, ◌++◌, not, drop, length}
use Rattle.std.specs.List.{filter}
use Rattle.std.specs.Vec.{vec_capacity}
use Rattle.cml_value.specs.Group.{bases, leaf_count}
use Rattle.cml_scan.specs.Light.{light_of}
use Rattle.cml_book.specs.Keeping.{lights_in}
use Rattle.cml_book.proofs.state.State.push_awaited.Given as goal

-- what stands in each list, and what is left for it, is all that it gets; and there is room for what is left
abbrev pub invariant-loop-n : goal.invariant-loop-n
invariant-loop-n l = record {
  leads_on : l.lit.items ++ filter (light_of l.self) (lights_in (drop l.n (bases l.flat))) ≡ l.fn.lit.items ++ filter (light_of l.self) (lights_in (bases l.flat));
  leads_off : l.unlit.items ++ filter (λ x. not (light_of l.self x)) (lights_in (drop l.n (bases l.flat))) ≡ l.fn.unlit.items ++ filter (λ x. not (light_of l.self x)) (lights_in (bases l.flat));
  room_on : vec_capacity l.lit ≡ vec_capacity l.fn.lit;
  room_off : vec_capacity l.unlit ≡ vec_capacity l.fn.unlit;
  fits_on : length l.lit.items + (leaf_count l.flat - l.n) ≤ vec_capacity l.lit;
  fits_off : length l.unlit.items + (leaf_count l.flat - l.n) ≤ vec_capacity l.unlit;
}
