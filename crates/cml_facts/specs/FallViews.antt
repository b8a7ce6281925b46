-- What is seen of falls.
use Rattle.std.specs.Prelude.{ℕ, Option, None, option_map, slice_index_or}
use Rattle.cml_step.specs.AskViews.{plain_ask}
use Rattle.cml_facts.specs.declared.fault.fall.Fall.{Fall}
use Rattle.cml_facts.specs.declared.fault.fall.Falls.{Falls}
use Rattle.cml_facts.specs.Falls.{PlainFall}

abbrev pub plain_fall : Fall → PlainFall
plain_fall f = record { machine = f.machine; ask = plain_ask f.ask }

-- that of the thread of this number, if it ended at a fault
abbrev pub fall_in : Falls → ℕ → Option PlainFall
fall_in falls t = option_map plain_fall (slice_index_or falls.by_thread.items t None)
