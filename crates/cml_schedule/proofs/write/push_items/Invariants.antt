use Rattle.std.proofs.Common.{◌≡◌, ◌++◌, drop}
use Rattle.std.specs.List.{flat_map}
use Rattle.std.specs.String.{string_bytes}
use Rattle.cml_schedule.specs.Written.{item_line}
use Rattle.cml_schedule.proofs.write.push_items.Given as goal

abbrev pub invariant-loop-item : goal.invariant-loop-item
invariant-loop-item l = string_bytes l.text ++ flat_map item_line (drop l.item-index l.items) ≡ string_bytes l.fn.text ++ flat_map item_line l.items
