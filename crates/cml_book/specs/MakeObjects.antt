-- The commands that make variables, mailboxes and multicast channels.
use Rattle.std.specs.Prelude.{Bool, true, not, ◌++◌, [], ◌∷◌, length, nat_le, Option, Some, None, Ok}
use Rattle.cml_value.specs.Value.{PlainValue}
use Rattle.cml_value.specs.Limits.{value_fits}
use Rattle.cml_value.specs.declared.number.IVarId.{IVarId}
use Rattle.cml_value.specs.declared.number.MVarId.{MVarId}
use Rattle.cml_value.specs.declared.number.MboxId.{MboxId}
use Rattle.cml_value.specs.declared.number.McastId.{McastId}
use Rattle.cml_scan.specs.World.{PlainWorld}
use Rattle.cml_book.specs.declared.refusal.Refusal.TheVariants.{Deep, Full}
use Rattle.cml_book.specs.Outcomes.{Outcome, refuse_if, max_objects}

-- A new I-variable, which is empty (Reppy's iVar).
abbrev pub make_ivar : PlainWorld → Outcome IVarId
make_ivar w = refuse_if (nat_le max_objects (length w.ivars)) Full
    (Ok (record w { ivars = w.ivars ++ None ∷ [] }, record { 0 = length w.ivars }))

-- what a new variable is to hold is not too large
abbrev pub held_fits : Option PlainValue → Bool
held_fits None = true
held_fits (Some v) = value_fits v

-- A new M-variable, which is empty (Reppy's mVar) or holds this value (his mVarInit).
abbrev pub make_mvar : PlainWorld → Option PlainValue → Outcome MVarId
make_mvar w held = refuse_if (not (held_fits held)) Deep
    (refuse_if (nat_le max_objects (length w.mvars)) Full
    (Ok (record w { mvars = w.mvars ++ held ∷ [] }, record { 0 = length w.mvars })))

-- A new mailbox, which has no item (Reppy's mailbox).
abbrev pub make_mailbox : PlainWorld → Outcome MboxId
make_mailbox w = refuse_if (nat_le max_objects (length w.mailboxes)) Full
    (Ok (record w { mailboxes = w.mailboxes ++ [] ∷ [] }, record { 0 = length w.mailboxes }))

-- A new multicast channel, which has no port (Reppy's mChannel).
abbrev pub make_mchan : PlainWorld → Outcome McastId
make_mchan w = refuse_if (nat_le max_objects (length w.mchans)) Full
    (Ok (record w { mchans = w.mchans ++ [] ∷ [] }, record { 0 = length w.mchans }))
