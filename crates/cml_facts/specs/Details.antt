-- What two runs have to share to have ended alike.
use Rattle.std.specs.Prelude.{◌≡◌, ℕ, suc, Bool, List, [], ◌∷◌, ◌++◌, map, Option, Some, None, option_and_then, slice_get}
use Rattle.std.specs.Cmp.Lexicographic.{pointwise}
use Rattle.cml_value.specs.Value.{PlainFunction, func_of, PlainBase, always, send, recv, swap, iget, mtake, mget, mswap, mail_recv, port_recv, join, at_tick, after_ticks, nack}
use Rattle.cml_value.specs.Group.{bases}
use Rattle.cml_scan.specs.World.{PlainThread, running, pending_on, ended}
use Rattle.cml_step.specs.Calls.{text_of}
use Rattle.cml_step.specs.Machines.{PlainHeld, call, force, wraps}
use Rattle.cml_hub.specs.declared.fault.End.{End}
use Rattle.cml_hub.specs.declared.fault.End.TheVariants as end
use Rattle.cml_hub.specs.Runs.{ending}
use Rattle.cml_hub.specs.Courses.{PlainCourse, run_of}
use Rattle.cml_hub.specs.Deeds.{origins, fault_count}
use Rattle.cml_hub.specs.Kept.{Kept}
use Rattle.cml_step.specs.declared.fault.Fault.{Fault}
use Rattle.cml_step.specs.declared.fault.Fault.TheVariants as fault
use Rattle.cml_step.specs.Asks as ask
use Rattle.cml_step.specs.Asks.{PlainAsk}
use Rattle.cml_facts.specs.Standings.{call_of_machine}
use Rattle.cml_facts.specs.Falls.{PlainFall, AreFalls}
use Rattle.cml_facts.specs.declared.fault.detail.Detail.{Detail}
use Rattle.cml_facts.specs.declared.fault.detail.Detail.TheVariants as detail
use Rattle.cml_facts.specs.contracts.fault.detail.DetailPartialEq.TheImpl as derived

-- how the run ended
abbrev pub end_detail : End → Detail
end_detail end.Quiet = detail.Quiet
end_detail end.Budget = detail.Budget
end_detail end.Partial = detail.Partial

-- what kind of event a base event is
abbrev pub kind_detail : PlainBase → Detail
kind_detail (always v) = detail.Always
kind_detail (send c v) = detail.Send
kind_detail (recv c) = detail.Recv
kind_detail (swap s v) = detail.Swap
kind_detail (iget i) = detail.IGet
kind_detail (mtake m) = detail.MTake
kind_detail (mget m) = detail.MGet
kind_detail (mswap m v) = detail.MSwap
kind_detail (mail_recv b) = detail.MailRecv
kind_detail (port_recv p) = detail.PortRecv
kind_detail (join t) = detail.Join
kind_detail (at_tick t) = detail.Tick
kind_detail (after_ticks d) = detail.Tick
kind_detail (nack k) = detail.Nack

-- the function with which a thread began
abbrev pub began_details : Option PlainFunction → List Detail
began_details None = []
began_details (Some f) = detail.Began (func_of f) ∷ []

-- a call: its function, and the place where it goes on
abbrev pub call_details : Option PlainHeld → List Detail
call_details (Some (call f at slots w)) = detail.In f ∷ detail.At at ∷ []
call_details (Some (force g asked)) = []
call_details (Some (wraps left v)) = []
call_details None = []

-- with which function the thread of this number began, and where its top call is
abbrev pub standing_details : PlainCourse → ℕ → List Detail
standing_details c t =
    began_details (slice_get (origins (text_of c.program) c.items) t) ++ call_details (option_and_then call_of_machine (slice_get c.machines t))

-- what was wrong with a step
abbrev pub fault_detail : Fault → Detail
fault_detail fault.Kind = detail.Kind
fault_detail fault.Overflow = detail.Overflow
fault_detail fault.Range = detail.Range
fault_detail fault.Deep = detail.Deep
fault_detail fault.Stack = detail.Stack
fault_detail fault.Put = detail.Put
fault_detail fault.Leaves = detail.Group
fault_detail fault.Far = detail.Group
fault_detail fault.Full = detail.Full

-- What was wrong with what a thread asked for at a fault: its step, or that it was refused. A variable that is full refuses to be put; a group
-- may have too many leaves or wait for a tick that is too far away; and of all else there is no more.
abbrev pub ask_detail : PlainAsk → Detail
ask_detail (ask.fault why) = fault_detail why
ask_detail (ask.iput i v) = detail.Put
ask_detail (ask.mput m v) = detail.Put
ask_detail (ask.sync g) = detail.Group
ask_detail a = detail.Full

-- A thread that ended at a fault: the function with which it began, where its top call was, and what was wrong. Of one that has ended otherwise
-- there is nothing.
abbrev pub fall_details : PlainCourse → ℕ → Option PlainFall → List Detail
fall_details c t None = []
fall_details c t (Some fall) =
    detail.Fell
    ∷ (began_details (slice_get (origins (text_of c.program) c.items) t) ++ (call_details (call_of_machine fall.machine) ++ ask_detail fall.ask ∷ []))

-- A thread: whether it waits, runs, or ended at a fault, where it stands or stood, and for what kinds of events it waits.
abbrev pub thread_details : PlainCourse → (ℕ → Option PlainFall) → ℕ → PlainThread → List Detail
thread_details c falls t running = detail.Runs ∷ standing_details c t
thread_details c falls t (pending_on g) = detail.Waits ∷ (standing_details c t ++ map kind_detail (bases g))
thread_details c falls t ended = fall_details c t (falls t)

-- those of these threads, of which the first has this number
abbrev pub threads_details : PlainCourse → (ℕ → Option PlainFall) → ℕ → List PlainThread → List Detail
threads_details c falls t [] = []
threads_details c falls t (thread ∷ threads) = thread_details c falls t thread ++ threads_details c falls (suc t) threads

-- How a run ended: its end, the threads that wait, run, or ended at a fault, by number, and how many of the last there are.
abbrev pub details_with : Kept → (ℕ → Option PlainFall) → List Detail
details_with h falls =
    end_detail (ending h.budget (run_of h.course))
    ∷ (threads_details h.course falls 0 h.course.world.threads ++ detail.Faults (fault_count (text_of h.course.program) h.course.items) ∷ [])

-- These are the details of how the run of a hub ended.
pub record AreDetails (h : Kept) (ds : List Detail) : Type 0 where
  pub falls : ℕ → Option PlainFall
  pub are : AreFalls h.course.program h.course.items falls
  pub details_are : ds ≡ details_with h falls

-- of the threads that ended at faults alone, how each did
abbrev pub fallen_details : PlainCourse → (ℕ → Option PlainFall) → ℕ → List PlainThread → List Detail
fallen_details c falls t [] = []
fallen_details c falls t (thread ∷ threads) = fall_details c t (falls t) ++ fallen_details c falls (suc t) threads

pub record AreFallenDetails (h : Kept) (ds : List Detail) : Type 0 where
  pub falls : ℕ → Option PlainFall
  pub are : AreFalls h.course.program h.course.items falls
  pub details_are : ds ≡ fallen_details h.course falls 0 h.course.world.threads

-- the two details are the same one, with the same numbers
abbrev pub same_detail : Detail → Detail → Bool
same_detail = derived.ghosts.eq

-- Two runs ended alike: all their details are the same, in the same order.
abbrev pub alike : List Detail → List Detail → Bool
alike = pointwise same_detail
