-- The command that makes a nack.
use Rattle.std.specs.Prelude.{ℕ, ◌++◌, [], ◌∷◌, length, nat_le, slice_get, Ok}
use Rattle.cml_value.specs.declared.number.NackId.{NackId}
use Rattle.cml_scan.specs.World.{PlainWorld, fresh_of}
use Rattle.cml_book.specs.declared.refusal.Refusal.TheVariants.{Full}
use Rattle.cml_book.specs.Outcomes.{Outcome, refuse_if, refuse_by, thread_refusal, max_objects}

-- A new nack is fresh and belongs to the thread that asks for it.
abbrev pub nack : PlainWorld → ℕ → Outcome NackId
nack w t = refuse_by (thread_refusal (slice_get w.threads t))
    (refuse_if (nat_le max_objects (length w.nacks)) Full
    (Ok (record w { nacks = w.nacks ++ fresh_of t ∷ [] }, record { 0 = length w.nacks })))
