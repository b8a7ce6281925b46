-- The command `trace`: its status, what it says of a fault, and what is told of it where it is explained.
use Rattle.std.specs.Prelude.{◌≡◌, ◌⊎◌, ℕ, ◌≤◌, Bool, true, false, List, [], Ok, Err, codes}
use Rattle.cml_trace.specs.declared.fault.TraceEnd.{TraceEnd}
use Rattle.cml_trace.specs.declared.fault.TraceEnd.TheVariants.{Done, Bad, TooLong}
use Rattle.cml_trace.specs.declared.fault.TraceFault.{TraceFault}
use Rattle.cml_trace.specs.declared.fault.TraceFault.TheVariants.{Read, Turns, Write, Memory}
use Rattle.cml_trace.specs.Answers.{max_input}
use Rattle.cml_trace.specs.Faults.{HasCause}
use Rattle.cml_trace.specs.Live.{max_turns, IsHeardOut, LiveIsStopped, HasLiveCause}
use Rattle.cml_trace.specs.Replies.{line}
use Rattle.cml_trace.specs.Runs.{IsAnswered, IsBroken}
use Rattle.cml_stream.specs.Counts.{most_reads}
use Rattle.cml_stream.specs.Streams.{Counted}
use Rattle.cml_host.specs.Behind.{RepliesBehind, bytes_of, calls_of}
use Rattle.cml_host.specs.Replies.{Passage, PlainReply, refusal}
use Rattle.cml_host.specs.Stores.{Shelf}

-- 0 where all was done, 2 where the trace has a bad line or is too long
abbrev pub status_of : TraceEnd → ℕ
status_of Done = 0
status_of (Bad n) = 2
status_of TooLong = 2

-- 1 where the input or the output is at fault, 5 where memory ran out
abbrev pub fault_status : TraceFault → ℕ
fault_status Read = 1
fault_status Turns = 1
fault_status Write = 1
fault_status Memory = 5

-- the line that tells of the fault
abbrev pub trace_fault_line : TraceFault → List ℕ
trace_fault_line Read = line (codes "cannot read input")
trace_fault_line Turns = line (codes "cannot read input")
trace_fault_line Write = line (codes "cannot write output")
trace_fault_line Memory = line (codes "memory")

-- the fault is told
abbrev pub faulted : TraceFault → PlainReply
faulted fault = refusal (trace_fault_line fault) (fault_status fault)

-- what is said of a trace that was answered: what is wrong with it, where that is explained; else nothing
abbrev pub EndsAs : Bool → TraceEnd → PlainReply → Type 0
EndsAs false end reply = reply ≡ refusal [] (status_of end)
EndsAs true end reply = (told : List ℕ) × (reply ≡ refusal told (status_of end))

-- The trace on the input was answered, and no call of its streams failed; or not to its end, since a call failed, the input did not end
-- or memory ran out, and that is told.
abbrev pub WholeTraced : Bool → Counted → Passage → PlainReply → Type 0
WholeTraced explains input output reply =
    ((end : TraceEnd) × IsAnswered input.bytes (bytes_of output) end × HasCause (Ok end) input.counts (calls_of output) × EndsAs explains end reply)
    ⊎ ((fault : TraceFault) × IsBroken input.bytes (bytes_of output) fault × HasCause (Err fault) input.counts (calls_of output) × (reply ≡ faulted fault))

-- The same of a trace of which each line is answered as soon as it was read: where a read failed, or as many turns were taken as may be,
-- all whole lines that came are answered.
abbrev pub LiveTraced : Counted → Passage → PlainReply → Type 0
LiveTraced input output reply =
    ((end : TraceEnd) × IsHeardOut input.bytes (bytes_of output) end × HasLiveCause max_turns (Ok end) input.counts (calls_of output) × EndsAs false end reply)
    ⊎ ((fault : TraceFault) × LiveIsStopped input.bytes (bytes_of output) fault × HasLiveCause max_turns (Err fault) input.counts (calls_of output) × (reply ≡ faulted fault))

-- the lines are answered as they come, or the whole trace is, of which the reader is asked only so often
abbrev pub TracesSo : Bool → Bool → Counted → Passage → PlainReply → Type 0
TracesSo true explains input output reply = LiveTraced input output reply
TracesSo false explains input output reply = WholeTraced explains input output reply × (input.counts.calls ≤ most_reads max_input)

-- `trace`: that was done, and what was left to say was said
abbrev pub TraceOutcome : Bool → Bool → Counted → Passage → Passage → Shelf → ℕ → Type 0
TraceOutcome live explains input output errors store status = RepliesBehind (TracesSo live explains input) output errors store status
