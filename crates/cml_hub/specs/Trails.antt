-- What the items of a course have left beside the threads and objects, and a turn that is added to it.
use Rattle.std.specs.Prelude.{◌≡◌, ℕ, ◌+◌, ◌<◌, ◌≤◌, List, [], ◌∷◌, ◌++◌, length, count_by, Some, slice_get, slice_set}
use Rattle.std.specs.List.{filter_map}
use Rattle.std.specs.String.{string_bytes, string_len, string_capacity}
use Rattle.std.specs.Vec.{vec_len, vec_capacity}
use Rattle.cml_value.specs.declared.number.Tid.{Tid}
use Rattle.cml_scan.specs.World.{PlainWorld}
use Rattle.cml_check.specs.Syntax.{PlainItem}
use Rattle.cml_schedule.specs.declared.item.Item.TheVariants.{Turn}
use Rattle.cml_step.specs.Asks.{PlainAsk}
use Rattle.cml_step.specs.Machines.{PlainMachine}
use Rattle.cml_step.specs.Rans.{IsSlice}
use Rattle.cml_hub.specs.declared.trail.Trail.{Trail}
use Rattle.cml_hub.specs.declared.turn.TurnMade.{TurnMade}
use Rattle.cml_hub.specs.Asking.{IsPrepared}
use Rattle.cml_hub.specs.Courses.{PlainCourse}
use Rattle.cml_hub.specs.Deeds.{begotten, is_fault}
use Rattle.cml_hub.specs.Dones.{plain_done}
use Rattle.cml_hub.specs.Settling.{AllSettled}

-- the course of a program with these threads and objects
abbrev pub course_of : List (PlainItem ℕ) → PlainWorld → Trail → PlainCourse
course_of p w t = record { program = p; items = t.items.items; world = w; machines = t.machines.items; output = string_bytes t.output; used = t.used }

-- nothing was added, and these are the machines; the lists may have more room than before
pub record KeepsTrail (old : Trail) (ms : List PlainMachine) (new : Trail) : Type 0 where
  pub items : new.items.items ≡ old.items.items
  pub machines : new.machines.items ≡ ms
  pub output : string_bytes new.output ≡ string_bytes old.output
  pub used : new.used ≡ old.used
  pub origins : new.deeds.origins.items ≡ old.deeds.origins.items
  pub faults : new.deeds.faults ≡ old.deeds.faults

-- there is room for an item, a machine and an origin more
pub record HasTurnRoom (t : Trail) : Type 0 where
  pub items : vec_len t.items < vec_capacity t.items
  pub machines : vec_len t.machines < vec_capacity t.machines
  pub origins : vec_len t.deeds.origins < vec_capacity t.deeds.origins

-- the same, and for this line
pub record HasRoomFor (t : Trail) (line : List ℕ) : Type 0 where
  pub lists : HasTurnRoom t
  pub output : string_len t.output + length line ≤ string_capacity t.output

-- The machine of the thread has run a slice where it stands, and the book has done what the slice asks.
pub record IsTurnMade (p : List (PlainItem ℕ)) (t : ℕ) (a : PlainAsk) (old : Trail) (before : PlainWorld) (m : TurnMade) (new : Trail) (after : PlainWorld) : Type 0 where
  pub start : PlainMachine
  pub end : PlainMachine
  pub at : slice_get old.machines.items t ≡ Some start
  pub slice : IsSlice (record { program = p; start = start; end = end; ask = a; steps = m.steps })
  pub done : IsPrepared p t a end before after m.prepared
  pub keeps : KeepsTrail old (slice_set old.machines.items t end) new

-- A turn of the thread was added, whose slice ended at this machine with this ask: its item, its steps, its line, and what it did.
pub record AddsTurn (old : Trail) (thread : Tid) (end : PlainMachine) (a : PlainAsk) (m : TurnMade) (new : Trail) : Type 0 where
  pub items : new.items.items ≡ old.items.items ++ Turn thread ∷ []
  pub machines : AllSettled old.machines.items thread.0 end m.prepared.done new.machines.items
  pub output : string_bytes new.output ≡ string_bytes old.output ++ string_bytes m.prepared.line
  pub used : new.used ≡ old.used + m.steps
  pub origins : new.deeds.origins.items ≡ old.deeds.origins.items ++ filter_map begotten (plain_done a m.prepared.done ∷ [])
  pub faults : new.deeds.faults ≡ old.deeds.faults + count_by is_fault (plain_done a m.prepared.done ∷ [])
