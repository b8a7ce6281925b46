-- Commands that write while they work: what is replied behind that.
use Rattle.std.specs.Prelude.{ℕ, [], Result, Ok, Err, Vec}
use Rattle.std.specs.declared.alloc.Global.{Global}
use Rattle.cml_stream.specs.Counts.{Calls}
use Rattle.cml_stream.specs.Streams.{Stream, stream}
use Rattle.cml_host.specs.Replies.{IsCarriedOut, Moment, Passage, PlainReply, gives, plain_refusal, since, upto}
use Rattle.cml_host.specs.Stores.{Shelf}
use Rattle.cml_host.specs.declared.refusal.Refusal.{Refusal}

-- what the stream held before and after
abbrev pub bytes_of : Passage → Stream
bytes_of s = stream s.old.bytes s.new.bytes

-- how often it was called since it is counted
abbrev pub calls_of : Passage → Calls
calls_of s = record { calls = s.new.calls; failed = s.new.failed }

-- Something was written to the output, and then a reply was carried out. (`Tells`: what was written so, and the reply.)
abbrev pub RepliesBehind : (Passage → PlainReply → Type 0) → Passage → Passage → Shelf → ℕ → Type 0
RepliesBehind Tells output errors store status =
    (mid : Moment) × (reply : PlainReply) × Tells (upto mid output) reply × IsCarriedOut reply (since mid output) errors store status

-- the same of the errors
abbrev pub RepliesAfter : (Passage → PlainReply → Type 0) → Passage → Passage → Shelf → ℕ → Type 0
RepliesAfter Tells output errors store status =
    (mid : Moment) × (reply : PlainReply) × Tells (upto mid errors) reply × IsCarriedOut reply output (since mid errors) store status

-- ---- what private functions say

-- the text, or why there is none
abbrev pub plain_text : Result (Vec ℕ Global) Refusal → PlainReply
plain_text (Ok text) = gives text.items
plain_text (Err why) = plain_refusal [] why
