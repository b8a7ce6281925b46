-- Room for the answer of a fresh nack.
use Rattle.std.specs.Prelude.{◌≡◌, ℕ, false, List, [], ◌∷◌, ◌++◌}
use Rattle.cml_value.specs.Value.{PlainEvent}
use Rattle.cml_check.specs.Syntax.{PlainItem}
use Rattle.cml_step.specs.declared.entry.Entry.TheVariants as entry
use Rattle.cml_step.specs.declared.nack.NackRoom.{NackRoom}
use Rattle.cml_step.specs.Answers.{after_answer}
use Rattle.cml_step.specs.Asks.{a_nack}
use Rattle.cml_step.specs.Calls.{text_of}
use Rattle.cml_step.specs.Machines.{PlainHeld, force, PlainMachine, plain_held, machine_term, Fits}

-- the entries, the top one last, with the top one replaced by these two
abbrev pub topped_by : PlainHeld → PlainHeld → List PlainHeld → List PlainHeld
topped_by a b [] = []
topped_by a b (h ∷ []) = a ∷ b ∷ []
topped_by a b (h ∷ g ∷ hs) = h ∷ topped_by a b (g ∷ hs)

-- the machine with the entries that were made for it, the call above them
abbrev pub nack_given : NackRoom → PlainMachine → PlainMachine
nack_given r m = record { thread = m.thread; stack = r.below ++ plain_held (entry.Call r.call) ∷ [] }

-- There is room for the answer of the nack to this machine: its top entry is replaced by an event and the call, and by this the machine
-- becomes what the answer makes of it.
pub record IsNackRoom (m : PlainMachine) (r : NackRoom) : Type 0 where
  pub made : (e : PlainEvent) × ((nack_given r m).stack ≡ topped_by (force e false) (plain_held (entry.Call r.call)) m.stack)
  pub meant : (p : List (PlainItem ℕ)) → Fits p m → machine_term p (nack_given r m) ≡ after_answer (text_of p) (a_nack r.nack.0) (machine_term p m)
  pub fits : (p : List (PlainItem ℕ)) → Fits p m → Fits p (nack_given r m)
