use Rattle.std.proofs.Common.{◌≡◌, ◌++◌, map, drop}
use Rattle.cml_schedule.specs.declared.item.Item.TheVariants as item
use Rattle.cml_verify.proofs.allowed.push_exchanges.Given as goal

-- what was put there, and what is left, are all
abbrev pub invariant-loop-row : goal.invariant-loop-row
invariant-loop-row l = l.items.items ++ map item.Exchange (drop l.row-index l.rows) ≡ l.fn.items.items ++ map item.Exchange l.rows
