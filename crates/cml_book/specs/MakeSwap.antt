-- The command that makes a swap channel.
use Rattle.std.specs.Prelude.{◌+◌, nat_le, Ok}
use Rattle.cml_value.specs.declared.number.SwapId.{SwapId}
use Rattle.cml_scan.specs.World.{PlainWorld}
use Rattle.cml_book.specs.declared.refusal.Refusal.TheVariants.{Full}
use Rattle.cml_book.specs.Outcomes.{Outcome, refuse_if, max_objects}

-- A new swap channel, over which two threads exchange values. The kind is this project's own.
abbrev pub make_swap : PlainWorld → Outcome SwapId
make_swap w = refuse_if (nat_le max_objects w.swaps) Full
    (Ok (record w { swaps = w.swaps + 1 }, record { 0 = w.swaps }))
