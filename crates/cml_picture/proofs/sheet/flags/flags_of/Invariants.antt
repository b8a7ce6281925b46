use Rattle.std.proofs.Common.{◌≡◌, ℕ, ◌<◌, length, take, Some}
use Rattle.std.specs.Prelude.{slice_get}
use Rattle.cml_picture.specs.Parts.{acts}
use Rattle.cml_picture.proofs.sheet.flags.flags_of.Given as goal

-- those of the items so far
abbrev pub invariant-loop-item : goal.invariant-loop-item
invariant-loop-item l = record {
  count : length l.flags.items ≡ l.threads;
  each : (t : ℕ) → t < l.threads → slice_get l.flags.items t ≡ Some (acts (take l.item-index l.items) t);
}
