-- What holds of every keyword and of every trace.
use Rattle.std.specs.Prelude.{◌≡◌, ℕ, ◌≤◌, List, length, Option, Some}
use Rattle.cml_stream.specs.Streams.{Stream, stream, Takes}
use Rattle.cml_trace.specs.declared.fault.TraceEnd.{TraceEnd}
use Rattle.cml_trace.specs.declared.keyword.Keyword.{Keyword}
use Rattle.cml_trace.specs.Keywords.{spelling, keyword_of}
use Rattle.cml_trace.specs.Answers.{AnswersTrace, max_input}
use Rattle.cml_trace.specs.Live.{IsHeardOut}

-- a text and an end that answer the trace, and that are the only ones
pub record OneAnswer (trace : List ℕ) : Type 0 where
  pub text : List ℕ
  pub end : TraceEnd
  pub answered : AnswersTrace trace text end
  pub same_text : (other : List ℕ) (way : TraceEnd) → AnswersTrace trace other way → other ≡ text
  pub same_end : (other : List ℕ) (way : TraceEnd) → AnswersTrace trace other way → way ≡ end

-- every trace has an answer, and no other one
abbrev pub HasOneAnswer : Type 0
HasOneAnswer = (trace : List ℕ) → OneAnswer trace

-- What a live trace writes, where the input has these bytes and a trace of them would not be too long, answers that trace.
abbrev pub LiveAnswersAsTrace : Type 0
LiveAnswersAsTrace = (all : List ℕ) (after : Option (List ℕ)) (output : Stream) (end : TraceEnd) → length all ≤ max_input →
    IsHeardOut (stream (Some all) after) output end → (text : List ℕ) × AnswersTrace all text end × Takes output text

-- every keyword is the one that its spelling names
abbrev pub SpellingNamesKeyword : Type 0
SpellingNamesKeyword = (keyword : Keyword) → keyword_of (spelling keyword) ≡ Some keyword
