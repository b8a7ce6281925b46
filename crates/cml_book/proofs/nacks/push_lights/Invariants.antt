use Rattle.std.proofs.Common.{◌≡◌, ◌≤◌, ◌+◌, ◌-◌, ◌++◌, map, drop, length}
use Rattle.std.specs.List.{filter}
use Rattle.std.specs.Vec.{vec_capacity}
use Rattle.cml_value.specs.Group.{scopes, nacks_of, lies_outside, lost}
use Rattle.cml_book.specs.Keeping.{nack_light}
use Rattle.cml_book.proofs.nacks.push_lights.Given as goal

-- what stands there, and what is left, are the lights of all; and there is room for what is left
abbrev pub invariant-loop-i : goal.invariant-loop-i
invariant-loop-i l = record {
  leads : l.lights.items ++ map nack_light (nacks_of (filter (lies_outside l.leaf) (drop l.i (scopes l.flat)))) ≡ l.fn.lights.items ++ map nack_light (lost l.flat l.leaf);
  room : vec_capacity l.lights ≡ vec_capacity l.fn.lights;
  fits : length l.lights.items + (length (scopes l.flat) - l.i) ≤ vec_capacity l.lights;
}
