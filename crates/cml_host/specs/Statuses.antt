-- What the program does about its arguments, and with which status it ends.
use Rattle.std.specs.Prelude.{◌≡◌, ◌⊎◌, ℕ, ◌+◌, ◌^◌, ◌≤◌, Bool, false, IfSome, List, codes}
use Rattle.std.specs.String.{string_bytes}
use Rattle.cml_arguments.specs.declared.Task.TheVariants.{Trace, Check, Fmt, Run, Replay, Explain, Explore, Verify, Shrink, Draw, Step}
use Rattle.cml_arguments.specs.declared.Answer.{Answer}
use Rattle.cml_arguments.specs.declared.Answer.TheVariants as answer
use Rattle.cml_arguments.specs.declared.Task.{Task}
use Rattle.cml_arguments.specs.Words.{IsAnswer, IsDepth, IsRuns, IsStates, explains}
use Rattle.cml_hub.specs.Kept.{IsBudget, IsWatch}
use Rattle.cml_work.specs.Works.{IsWorkerCount}
use Rattle.cml_trace.specs.Replies.{line}
use Rattle.cml_stream.specs.Counts.{Calls}
use Rattle.cml_stream.specs.Streams.{Counted, Stream, IsIdle, Says}
use Rattle.cml_host.specs.Replies.{Passage, PlainReply, Replies, gives, refusal, whole}
use Rattle.cml_host.specs.Stores.{Shelf, IsUnchanged}
use Rattle.cml_host.specs.Scripts.{CheckOutcome, FmtOutcome}
use Rattle.cml_host.specs.Running.{RunOutcome}
use Rattle.cml_host.specs.Replaying.{ReplayOutcome}
use Rattle.cml_host.specs.Narrated.{ExplainOutcome}
use Rattle.cml_host.specs.Drawn.{DrawOutcome}
use Rattle.cml_host.specs.Exploring.{ExploreOutcome}
use Rattle.cml_host.specs.Shrunk.{ShrinkOutcome}
use Rattle.cml_host.specs.Stepped.{StepOutcome}
use Rattle.cml_host.specs.Traced.{TraceOutcome}
use Rattle.cml_host.specs.Verified.{VerifyOutcome}

-- What stands around a run of the program, before and after: its input, its output, what it writes its errors to, whether that is a
-- terminal, and its store.
pub record Surroundings : Type 0 where
  pub input : Counted
  pub output : Counted
  pub errors : Counted
  pub terminal : Bool
  pub store : Shelf

-- a reply that is so was carried out, and nothing was read
abbrev pub IsReplied : (PlainReply → Type 0) → Counted → Passage → Passage → Shelf → ℕ → Type 0
IsReplied IsSo input output errors store status = Replies IsSo output errors store status × IsIdle input

-- What a command did. What is saved stands in what it replies: only `run`, `explore`, `verify` and `step` save anything.
abbrev pub TaskOutcome : Task → Bool → Counted → Passage → Passage → Shelf → ℕ → Type 0
TaskOutcome (Trace options) terminal input output errors store status =
    TraceOutcome options.live (explains options.explain terminal) input output errors store status
TaskOutcome (Check options) terminal input output errors store status =
    IsReplied (CheckOutcome (explains options.explain terminal) options.file.now (store.before options.file.now)) input output errors store status
TaskOutcome (Fmt options) terminal input output errors store status =
    IsReplied (FmtOutcome (explains options.explain terminal) options.file.now (store.before options.file.now)) input output errors store status
TaskOutcome (Run options) terminal input output errors store status =
    RunOutcome options (explains options.explain terminal) output errors store status × IsIdle input
TaskOutcome (Replay options) terminal input output errors store status =
    ReplayOutcome options (explains options.explain terminal) output errors store status × IsIdle input
TaskOutcome (Explain options) terminal input output errors store status = ExplainOutcome options output errors store status × IsIdle input
TaskOutcome (Explore options) terminal input output errors store status = ExploreOutcome options terminal output errors store status × IsIdle input
TaskOutcome (Verify options) terminal input output errors store status = IsReplied (VerifyOutcome options store.before) input output errors store status
TaskOutcome (Shrink options) terminal input output errors store status = IsReplied (ShrinkOutcome options store.before) input output errors store status
TaskOutcome (Draw options) terminal input output errors store status = IsReplied (DrawOutcome options store.before) input output errors store status
TaskOutcome (Step options) terminal input output errors store status = StepOutcome options input output errors store status

-- What was done about the arguments: the command that they name was done; or the text that they ask for was written to the output; or
-- what is wrong with them was written to the errors.
abbrev pub AnswerOutcome : Answer → Surroundings → ℕ → Type 0
AnswerOutcome (answer.Task task) around status =
    TaskOutcome task around.terminal around.input (whole around.output) (whole around.errors) around.store status
AnswerOutcome (answer.Help text) around status =
    IsReplied (λ reply. reply ≡ gives (string_bytes text)) around.input (whole around.output) (whole around.errors) around.store status
AnswerOutcome (answer.Fault text) around status =
    IsReplied (λ reply. reply ≡ refusal (string_bytes text) 1) around.input (whole around.output) (whole around.errors) around.store status

-- nothing was saved in the store
abbrev pub SavesNothing : Surroundings → Type 0
SavesNothing around = IsUnchanged around.store.before around.store.after

-- memory ran out before the arguments were read
abbrev pub IsOutOfMemory : Surroundings → ℕ → Type 0
IsOutOfMemory around status =
    Says around.errors (line (codes "memory")) × (status ≡ 5)
    × IsIdle around.input × IsIdle around.output × SavesNothing around

-- The arguments were read and what they ask for was done, or memory ran out before.
abbrev pub Ran : List (List ℕ) → Surroundings → ℕ → Type 0
Ran words around status =
    ((what : Answer) × IsAnswer words what × AnswerOutcome what around status) ⊎ IsOutOfMemory around status

-- The same of streams whose calls nobody counts, and of errors that go to no terminal: there are counts with which it holds.
abbrev pub RanOver : List (List ℕ) → Stream → Stream → Stream → Shelf → ℕ → Type 0
RanOver words input output errors store status =
    (reads : Calls) × (writes : Calls) × (complaints : Calls)
    × Ran words
    (record {
      input = record { bytes = input; counts = reads };
      output = record { bytes = output; counts = writes };
      errors = record { bytes = errors; counts = complaints };
      terminal = false;
      store = store;
    })
    status

-- ---- what private functions say

-- the numbers that a command is given lie within their bounds
abbrev pub HasCounts : Task → Type 0
HasCounts (Run options) = IsWorkerCount options.workers × IsBudget options.steps × IsWatch options.watch × IfSome options.priority IsDepth
HasCounts (Replay options) = IsWatch options.watch
HasCounts (Explore options) =
    IsRuns options.runs × IsBudget options.steps × IfSome options.priority IsDepth × (options.seed + options.runs ≤ 2 ^ 64)
HasCounts (Verify options) = IsStates options.states
HasCounts _ = Unit {0}
