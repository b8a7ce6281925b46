-- The command that makes a thread.
use Rattle.std.specs.Prelude.{◌++◌, [], ◌∷◌, length, nat_le, Ok}
use Rattle.cml_value.specs.declared.number.Tid.{Tid}
use Rattle.cml_scan.specs.World.{PlainWorld, running}
use Rattle.cml_book.specs.declared.refusal.Refusal.TheVariants.{Full}
use Rattle.cml_book.specs.Outcomes.{Outcome, refuse_if, max_threads}

-- A new thread runs.
abbrev pub spawn : PlainWorld → Outcome Tid
spawn w = refuse_if (nat_le max_threads (length w.threads)) Full
    (Ok (record w { threads = w.threads ++ running ∷ [] }, record { 0 = length w.threads }))
