-- What a turn of a thread did.
use Rattle.std.specs.Prelude.{◌≡◌, ℕ, ◌-◌, Bool, true, false, if◌then◌else◌, List, length, Option, Some, None, option_map, option_and_then, slice_get}
use Rattle.cml_value.specs.Value.{PlainFunction}
use Rattle.cml_value.specs.Group.{PlainGroup}
use Rattle.cml_scan.specs.World.{PlainWorld}
use Rattle.cml_book.specs.Threads.{flat_of}
use Rattle.cml_step.specs.Asks as ask
use Rattle.cml_step.specs.Asks.{PlainAsk}
use Rattle.cml_step.specs.AskViews.{plain_ask}
use Rattle.cml_step.specs.Calls.{text_of}
use Rattle.cml_step.specs.Machines.{PlainMachine, machine_term}
use Rattle.cml_step.specs.Slices.{sliced, sliced_from}
use Rattle.cml_step.specs.Terms.{Term}
use Rattle.cml_schedule.specs.declared.item.Item.TheVariants.{Turn}
use Rattle.cml_hub.specs.Performed.{PlainDone, fails}
use Rattle.cml_hub.specs.Courses.{PlainCourse, run_of}
use Rattle.cml_hub.specs.Deeds.{deed, origins}
use Rattle.cml_phrase.specs.declared.place.Place.{Place}
use Rattle.cml_facts.specs.declared.ending.standing.Spot.{Spot}
use Rattle.cml_facts.specs.Standings.{IsSpotOf, call_of_machine, spot_place}
use Rattle.cml_facts.specs.Takes.{takes_of, last_taker}
use Rattle.cml_facts.specs.Waits.{who_is, PlainAwaited, awaited_of}
use Rattle.cml_facts.specs.declared.narrative.deed.Turned.{Turned}
use Rattle.cml_facts.specs.declared.narrative.deed.Came.{Came}
use Rattle.cml_facts.specs.declared.narrative.deed.Came.TheVariants.{Done, Waits, Failed}
use Rattle.cml_facts.specs.declared.narrative.plan.Planned.{Planned}

-- the function with which each thread of a course began
abbrev pub began_in : PlainCourse → List PlainFunction
began_in c = origins (text_of c.program) c.items

-- the group that a thread waits on
abbrev pub waits_on : PlainWorld → ℕ → Option PlainGroup
waits_on w t = option_and_then flat_of (slice_get w.threads t)

-- the thread is at fault
abbrev pub is_fault_ask : PlainAsk → Bool
is_fault_ask (ask.fault why) = true
is_fault_ask a = false

-- What a thread asks at the end of its next turn; and a machine of it that stands where it asks that: at the end of the slice, or at a
-- fault before its last step.
pub record AsksNext (c : PlainCourse) (t : ℕ) (a : PlainAsk) (m : PlainMachine) : Type 0 where
  pub start : Term
  pub end : Term
  pub steps : ℕ
  pub runs : slice_get (run_of c).terms t ≡ Some start
  pub slice : sliced (text_of c.program) t start ≡ record { ask = a; end = end; steps = steps }
  pub stands : machine_term c.program m ≡ (if is_fault_ask a then (sliced_from (text_of c.program) t (steps - 1) 0 start).end else end)

-- the number of what an ask makes in this world: a thread, an object or a nack; or the tick that it reads
abbrev pub number_asked : PlainWorld → PlainAsk → ℕ
number_asked w (ask.spawn f) = length w.threads
number_asked w ask.make_chan = w.channels
number_asked w ask.make_swap = w.swaps
number_asked w ask.make_ivar = length w.ivars
number_asked w (ask.make_mvar v) = length w.mvars
number_asked w ask.make_mailbox = length w.mailboxes
number_asked w ask.make_mchan = length w.mchans
number_asked w (ask.make_port x) = length w.ports
number_asked w (ask.copy_port p) = length w.ports
number_asked w ask.now = w.tick
number_asked w ask.fresh_nack = length w.nacks
number_asked w a = 0

-- what a thread asks at the end of its next turn, where it stands as it does, and the number of what it asks for
pub record Plans (c : PlainCourse) (t : ℕ) (plan : Planned) : Type 0 where
  pub machine : PlainMachine
  pub asks : AsksNext c t (plain_ask plan.ask) machine
  pub stands : IsSpotOf c.program (call_of_machine machine) plan.spot
  pub number : plan.number ≡ number_asked c.world (plain_ask plan.ask)

-- the thread ended at a fault of this name
abbrev pub EndsAtFault : List ℕ → Came → Type 0
EndsAtFault name (Failed said) = said.items ≡ name
EndsAtFault name came = ⊥

-- the thread waits for this, where it waits; else what it asked was done, which has this number
abbrev pub WentOn : Option PlainAwaited → ℕ → Came → Type 0
WentOn (Some awaited) number (Waits found) = found ≡ awaited
WentOn None number (Done found) = found ≡ number
WentOn awaited number came = ⊥

-- the one where the ask ended in a fault, else the other
abbrev pub IsCame : Option PlainDone → Option PlainAwaited → ℕ → Came → Type 0
IsCame (Some (fails name)) awaited number came = EndsAtFault name came
IsCame d awaited number came = WentOn awaited number came

-- What came of an ask in a turn that led from one course to the next: what it did in the old run, and for what the thread waits in the new
-- world, with the thread that took last from each M-variable.
pub record IsOutcome (old : PlainCourse) (t : ℕ) (new : PlainCourse) (number : ℕ) (came : Came) : Type 0 where
  pub taker : ℕ → Option ℕ
  pub takers : (m : ℕ) → taker m ≡ last_taker (takes_of (text_of new.program) new.items) m
  pub is : IsCame (deed (text_of old.program) (run_of old) (Turn (record { 0 = t }))) (option_map (awaited_of new.world (began_in new) taker) (waits_on new.world t)) number came

-- The turn of a thread that led from one course to the next: the thread, what it asked and where it stood as it did, and what came of that.
pub record IsTurned (places : List (List Place)) (old : PlainCourse) (t : ℕ) (new : PlainCourse) (x : Turned) : Type 0 where
  pub thread : x.thread ≡ who_is (began_in new) t
  pub machine : PlainMachine
  pub asks : AsksNext old t (plain_ask x.ask) machine
  pub spot : Option Spot
  pub stands : IsSpotOf old.program (call_of_machine machine) spot
  pub place : x.place ≡ option_and_then (spot_place places) spot
  pub came : IsOutcome old t new (number_asked old.world (plain_ask x.ask)) x.came
