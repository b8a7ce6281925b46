-- The command that makes a channel.
use Rattle.std.specs.Prelude.{◌+◌, nat_le, Ok}
use Rattle.cml_value.specs.declared.number.ChanId.{ChanId}
use Rattle.cml_scan.specs.World.{PlainWorld}
use Rattle.cml_book.specs.declared.refusal.Refusal.TheVariants.{Full}
use Rattle.cml_book.specs.Outcomes.{Outcome, refuse_if, max_objects}

-- A new channel (Reppy's channel).
abbrev pub make_chan : PlainWorld → Outcome ChanId
make_chan w = refuse_if (nat_le max_objects w.channels) Full
    (Ok (record w { channels = w.channels + 1 }, record { 0 = w.channels }))
