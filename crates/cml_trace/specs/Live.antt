-- A live trace: its lines are those of a trace, and each is answered as soon as it was read.
use Rattle.std.specs.Prelude.{◌≡◌, ◌⊎◌, ℕ, ◌+◌, ◌^◌, List, [], ◌∷◌, ◌++◌, length, Bool, IsTrue, Result, Err}
use Rattle.cml_scan.specs.World.{PlainWorld}
use Rattle.cml_stream.specs.Counts.{Calls}
use Rattle.cml_stream.specs.Streams.{Stream, Supplies, IsSpent, Takes, TakesStart, IsUntouched}
use Rattle.cml_book.specs.Step.{empty_world}
use Rattle.cml_trace.specs.declared.fault.TraceEnd.{TraceEnd}
use Rattle.cml_trace.specs.declared.fault.TraceEnd.TheVariants.{Done}
use Rattle.cml_trace.specs.declared.fault.TraceFault.{TraceFault}
use Rattle.cml_trace.specs.declared.fault.TraceFault.TheVariants.{Read, Turns, Write, Memory}
use Rattle.cml_trace.specs.declared.live.Turn.{Turn}
use Rattle.cml_trace.specs.declared.live.Turn.TheVariants.{On, End}
use Rattle.cml_trace.specs.Answers.{trace_lines, Answers, AreDone}

-- the most turns of a live trace
abbrev pub max_turns : ℕ
max_turns = 2 ^ 48

-- the line that was begun: its number, and what was read of it
pub record PlainBegun : Type 0 where
  pub number : ℕ
  pub bytes : List ℕ

-- What a turn did in which nothing ended. These bytes came. With what was read before, they are whole lines and the line that is begun
-- now; the whole lines are answered, and lead from that world to this one.
pub record TurnGoesOn (old new : PlainBegun) (w v : PlainWorld) (input output : Stream) : Type 0 where
  pub given : List ℕ
  pub whole : List (List ℕ)
  pub text : List ℕ
  pub came : Supplies input given
  pub lines : trace_lines (old.bytes ++ given) ≡ whole ++ new.bytes ∷ []
  pub number : new.number ≡ old.number + length whole
  pub answered : AreDone w whole text v
  pub written : Takes output text

-- This text answers, from this world on, the lines that these bytes begin, the first of which has this number: the bytes are all, or
-- whatever comes after them makes no difference.
abbrev pub AnswersAll : Stream → ℕ → PlainWorld → List ℕ → List ℕ → TraceEnd → Type 0
AnswersAll input n w bytes text end =
    (IsSpent input × Answers n w (trace_lines bytes) text end)
    ⊎ ((ahead : List ℕ) → Answers n w (trace_lines (bytes ++ ahead)) text end)

-- A prefix of a text that answers these lines from this world on, the first of which has this number, was written.
pub record AnswersStart (n : ℕ) (w : PlainWorld) (all : List (List ℕ)) (output : Stream) : Type 0 where
  pub text : List ℕ
  pub end : TraceEnd
  pub answered : Answers n w all text end
  pub written : TakesStart output text

-- The same of the lines that these bytes begin: the bytes are all, or it is so whatever comes after them.
abbrev pub BeginsAll : Stream → Stream → ℕ → PlainWorld → List ℕ → Type 0
BeginsAll input output n w bytes =
    (IsSpent input × AnswersStart n w (trace_lines bytes) output)
    ⊎ ((ahead : List ℕ) → AnswersStart n w (trace_lines (bytes ++ ahead)) output)

-- What a turn did in which the trace ended. These bytes came, and with what was read before they are answered.
pub record Ends (old : PlainBegun) (w : PlainWorld) (input output : Stream) (end : TraceEnd) : Type 0 where
  pub given : List ℕ
  pub text : List ℕ
  pub came : Supplies input given
  pub answered : AnswersAll input old.number w (old.bytes ++ given) text end
  pub written : Takes output text

-- what a turn did
abbrev pub IsTurn : PlainBegun → PlainBegun → PlainWorld → PlainWorld → Stream → Stream → Turn → Type 0
IsTurn old new w v input output On = TurnGoesOn old new w v input output
IsTurn old new w v input output (End end) = Ends old w input output end

-- These bytes came, and with what was read before, a prefix of what answers them was written.
pub record TurnIsCut (old : PlainBegun) (w : PlainWorld) (input output : Stream) : Type 0 where
  pub given : List ℕ
  pub came : Supplies input given
  pub begun : BeginsAll input output old.number w (old.bytes ++ given)

-- What a turn did that came to a fault: nothing was read or written where a read failed.
abbrev pub IsTurnBroken : PlainBegun → PlainWorld → Stream → Stream → TraceFault → Type 0
IsTurnBroken old w input output Read = IsUntouched input × IsUntouched output
IsTurnBroken old w input output Turns = ⊥
IsTurnBroken old w input output Write = TurnIsCut old w input output
IsTurnBroken old w input output Memory = TurnIsCut old w input output

-- When a turn comes to a fault, by how often a call of its reader and of its writer failed.
abbrev pub HasTurnCause : {A : Type 0} → Result A TraceFault → ℕ → ℕ → Type 0
HasTurnCause (Err Read) reader writer = (reader ≡ 1) × (writer ≡ 0)
HasTurnCause (Err Write) reader writer = (reader ≡ 0) × (writer ≡ 1)
HasTurnCause _ reader writer = (reader ≡ 0) × (writer ≡ 0)

-- All bytes that came before are whole lines, which were all answered, and the line that was begun.
pub record HasAnswered (input output : Stream) : Type 0 where
  pub heard : List ℕ
  pub whole : List (List ℕ)
  pub begun : List ℕ
  pub text : List ℕ
  pub came : Supplies input heard
  pub lines : trace_lines heard ≡ whole ++ begun ∷ []
  pub answered : Answers 1 empty_world whole text Done
  pub written : Takes output text

-- The bytes that came were answered as a trace: the output took the text that answers them, and whatever would have come after them.
pub record IsHeardOut (input output : Stream) (end : TraceEnd) : Type 0 where
  pub heard : List ℕ
  pub text : List ℕ
  pub came : Supplies input heard
  pub answered : AnswersAll input 1 empty_world heard text end
  pub written : Takes output text

-- The bytes came, and the output took a prefix of the text that answers them.
pub record LiveIsCut (input output : Stream) : Type 0 where
  pub heard : List ℕ
  pub came : Supplies input heard
  pub begun : BeginsAll input output 1 empty_world heard

-- What was written where the trace was not answered to its end. Where a read failed, or where as many turns were taken as may be, the
-- answer to all whole lines that came.
abbrev pub LiveIsStopped : Stream → Stream → TraceFault → Type 0
LiveIsStopped input output Read = HasAnswered input output
LiveIsStopped input output Turns = HasAnswered input output
LiveIsStopped input output Write = LiveIsCut input output
LiveIsStopped input output Memory = LiveIsCut input output

-- When a live trace of at most this many turns ends in this way, by the calls of its reader and of its writer.
abbrev pub HasLiveCause : ℕ → Result TraceEnd TraceFault → Calls → Calls → Type 0
HasLiveCause turns (Err Read) reader writer = (reader.failed ≡ 1) × (writer.failed ≡ 0)
HasLiveCause turns (Err Turns) reader writer = (reader.calls ≡ turns) × (reader.failed ≡ 0) × (writer.failed ≡ 0)
HasLiveCause turns (Err Write) reader writer = (reader.failed ≡ 0) × (writer.failed ≡ 1)
HasLiveCause turns _ reader writer = (reader.failed ≡ 0) × (writer.failed ≡ 0)

-- All that was written was flushed too, except where a write failed or memory ran out.
abbrev pub IsFlushed : {A : Type 0} → Result A TraceFault → Bool → Type 0
IsFlushed (Err Write) flushed = Unit {0}
IsFlushed (Err Memory) flushed = Unit {0}
IsFlushed _ flushed = IsTrue flushed
