-- What is known of a thread that ended at a fault.
use Rattle.std.specs.Prelude.{◌≡◌, ℕ, List, [], ◌∷◌, Option, option_and_then, slice_get}
use Rattle.std.specs.Option.{option_or}
use Rattle.cml_text.specs.declared.sexpr.Span.{Span}
use Rattle.cml_text.specs.Forms.{PlainSexpr}
use Rattle.cml_value.specs.Value.{PlainFunction}
use Rattle.cml_check.specs.Syntax.{PlainItem}
use Rattle.cml_phrase.specs.declared.place.Place.{Place}
use Rattle.cml_phrase.specs.Statements.{spans_of}
use Rattle.cml_facts.specs.declared.fault.frame.Frame.{Frame}
use Rattle.cml_facts.specs.declared.fault.fact.ThreadFault.{ThreadFault}
use Rattle.cml_facts.specs.Failures.{Failure}
use Rattle.cml_facts.specs.Falls.{PlainFall, IsFall}
use Rattle.cml_facts.specs.Frames.{calls_down, AreFrames, first_values}
use Rattle.cml_facts.specs.Reasons.{reason_of}

-- what is known: the script's forms, where the statements of each function begin, and the function with which each thread began
pub record Known : Type 0 where
  pub forms : List PlainSexpr
  pub places : List (List Place)
  pub began : List PlainFunction

-- where the statement of a frame stands
abbrev pub frame_span : List PlainSexpr → Frame → Option Span
frame_span forms frame = option_and_then (slice_get (spans_of (slice_get forms frame.function))) frame.statement

-- that of the first frame, or where it has none, of the one below it, which called it
abbrev pub first_span : List PlainSexpr → List Frame → Option Span
first_span forms frames = option_or (option_and_then (frame_span forms) (slice_get frames 0)) (option_and_then (frame_span forms) (slice_get frames 1))

-- This is known of a thread that stood so before its last step, and asked for that by it.
pub record IsKnownOf (k : Known) (p : List (PlainItem ℕ)) (fall : PlainFall) (fault : ThreadFault) : Type 0 where
  pub thread : fault.thread.0 ≡ fall.machine.thread
  pub began : fault.began ≡ slice_get k.began fall.machine.thread
  pub reason : fault.reason ≡ reason_of p fall.machine fall.ask
  pub calls : AreFrames k.places p (calls_down fall.machine.stack) fault.calls.items
  pub variables : fault.variables.items ≡ first_values (calls_down fall.machine.stack)
  pub statement : fault.statement ≡ first_span k.forms fault.calls.items

-- that of a failure: by a machine of its thread that stands for its term
pub record IsThreadFault (k : Known) (p : List (PlainItem ℕ)) (f : Failure) (fault : ThreadFault) : Type 0 where
  pub fall : PlainFall
  pub fell : IsFall p f fall
  pub is : IsKnownOf k p fall fault

-- that of each of these failures, in their order
abbrev pub AreThreadFaults : Known → List (PlainItem ℕ) → List Failure → List ThreadFault → Type 0
AreThreadFaults k p [] [] = Unit {0}
AreThreadFaults k p (f ∷ fs) (fault ∷ faults) = IsThreadFault k p f fault × AreThreadFaults k p fs faults
AreThreadFaults k p fs faults = ⊥
