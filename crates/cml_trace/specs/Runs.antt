-- What a run of the engine did: which bytes came, and which text was written.
use Rattle.std.specs.Prelude.{◌≡◌, ◌⊎◌, ℕ, ◌<◌, List, length}
use Rattle.cml_scan.specs.World.{PlainWorld}
use Rattle.cml_trace.specs.declared.fault.TraceEnd.{TraceEnd}
use Rattle.cml_trace.specs.declared.fault.TraceFault.{TraceFault}
use Rattle.cml_trace.specs.declared.fault.TraceFault.TheVariants.{Read, Turns, Write, Memory}
use Rattle.cml_stream.specs.Streams.{Stream, Supplies, IsSpent, Takes, TakesStart, IsUntouched}
use Rattle.cml_trace.specs.declared.fault.TraceEnd.TheVariants.{Done}
use Rattle.cml_trace.specs.Pages.{Tells, TellsStart}
use Rattle.cml_trace.specs.Lines.{TraceLines}
use Rattle.cml_trace.specs.Answers.{Answers, AreDone, max_input, AnswersTrace}

-- The lines were answered in this world, to that world where none of them is bad, and the text that answers them was told after what waited.
pub record AreAnswered (all : TraceLines) (w v : PlainWorld) (waited waits : List ℕ) (output : Stream) (end : TraceEnd) : Type 0 where
  pub text : List ℕ
  pub answered : Answers all.number w all.left text end
  pub leads : end ≡ Done → AreDone w all.left text v
  pub told : Tells waited waits output text

-- a prefix of the text that answers the lines was told
pub record AreBegun (all : TraceLines) (w : PlainWorld) (waited waits : List ℕ) (output : Stream) : Type 0 where
  pub text : List ℕ
  pub end : TraceEnd
  pub answered : Answers all.number w all.left text end
  pub told : TellsStart waited waits output text

-- The lines were answered in this world, to that world where none of them is bad, and the text that answers them was written.
pub record AreWritten (all : TraceLines) (w v : PlainWorld) (output : Stream) (end : TraceEnd) : Type 0 where
  pub text : List ℕ
  pub answered : Answers all.number w all.left text end
  pub leads : end ≡ Done → AreDone w all.left text v
  pub written : Takes output text

-- a prefix of the text that answers the lines was written
pub record AreWrittenTo (all : TraceLines) (w : PlainWorld) (output : Stream) : Type 0 where
  pub text : List ℕ
  pub end : TraceEnd
  pub answered : Answers all.number w all.left text end
  pub written : TakesStart output text

-- the bytes came from the input, and they are all that it had, or more than a trace can have
pub record Came (input : Stream) (trace : List ℕ) : Type 0 where
  pub given : Supplies input trace
  pub whole : IsSpent input ⊎ (max_input < length trace)

-- The trace that came from the input was answered: the output took the text that answers it.
pub record IsAnswered (input output : Stream) (end : TraceEnd) : Type 0 where
  pub trace : List ℕ
  pub text : List ℕ
  pub came : Came input trace
  pub answered : AnswersTrace trace text end
  pub written : Takes output text

-- The trace came from the input, and the output took a prefix of the text that answers it.
pub record IsBegun (input output : Stream) : Type 0 where
  pub trace : List ℕ
  pub text : List ℕ
  pub end : TraceEnd
  pub came : Came input trace
  pub answered : AnswersTrace trace text end
  pub written : TakesStart output text

-- What was written where the trace was not answered to its end: nothing where it was not read whole, and else a prefix of the text
-- that answers it.
abbrev pub IsBroken : Stream → Stream → TraceFault → Type 0
IsBroken input output Read = IsUntouched output
IsBroken input output Turns = IsUntouched output
IsBroken input output Write = IsBegun input output
IsBroken input output Memory = IsUntouched output ⊎ IsBegun input output
