-- When each fault comes, by how often the streams were called and how often that failed.
use Rattle.std.specs.Prelude.{◌≡◌, ℕ, Result, Ok, Err}
use Rattle.cml_stream.specs.declared.input_output.ReadFault.{ReadFault}
use Rattle.cml_stream.specs.declared.input_output.ReadFault.TheVariants as read
use Rattle.cml_trace.specs.declared.fault.TraceEnd.{TraceEnd}
use Rattle.cml_trace.specs.declared.fault.TraceFault.{TraceFault}
use Rattle.cml_trace.specs.declared.fault.TraceFault.TheVariants.{Read, Turns, Write, Memory}
use Rattle.cml_stream.specs.Counts.{Calls, most_reads}
use Rattle.cml_trace.specs.Answers.{max_input}

-- the fault of a trace whose input was not read
abbrev pub read_fault : ReadFault → TraceFault
read_fault read.Read = Read
read_fault read.Turns = Turns
read_fault read.Memory = Memory

-- When a trace ends in this way, by the calls of its reader and of its writer. The fault of reading comes only where a read failed, and
-- the fault that the input does not end only where the reader was called as often as it may be; at both, nothing was written. The fault
-- of writing comes only where a write failed. No stream fails twice; without such a fault nothing failed.
abbrev pub HasCause : Result TraceEnd TraceFault → Calls → Calls → Type 0
HasCause (Err Read) reader writer = (reader.failed ≡ 1) × (writer.calls ≡ 0)
HasCause (Err Turns) reader writer = (reader.calls ≡ most_reads max_input) × (reader.failed ≡ 0) × (writer.calls ≡ 0)
HasCause (Err Write) reader writer = (reader.failed ≡ 0) × (writer.failed ≡ 1)
HasCause _ reader writer = (reader.failed ≡ 0) × (writer.failed ≡ 0)

-- The writer failed once where the fault is one of writing, and else not at all. There is no fault of reading.
abbrev pub IsWriteFailure : {A : Type 0} → Result A TraceFault → ℕ → Type 0
IsWriteFailure (Ok a) failed = failed ≡ 0
IsWriteFailure (Err Write) failed = failed ≡ 1
IsWriteFailure (Err Memory) failed = failed ≡ 0
IsWriteFailure (Err _) failed = ⊥
