-- The command that sends to a mailbox.
use Rattle.std.specs.Prelude.{ℕ, not, length, nat_lt, Ok}
use Rattle.cml_value.specs.Value.{PlainValue}
use Rattle.cml_value.specs.Limits.{value_fits}
use Rattle.cml_objects.specs.Queues.{is_full_at, added_at}
use Rattle.cml_scan.specs.World.{PlainWorld}
use Rattle.cml_book.specs.declared.refusal.Refusal.TheVariants.{Object, Deep, Full}
use Rattle.cml_book.specs.Outcomes.{Outcome, refuse_if}

-- The value is put after the items of the mailbox, and nobody waits (Reppy's send to a mailbox). That a mailbox can be full is a rule
-- of our own.
abbrev pub mail : PlainWorld → ℕ → PlainValue → Outcome (Unit {0})
mail w b v = refuse_if (not (nat_lt b (length w.mailboxes))) Object
    (refuse_if (not (value_fits v)) Deep
    (refuse_if (is_full_at w.mailboxes b) Full
    (Ok (record w { mailboxes = added_at w.mailboxes b v }, tt))))
