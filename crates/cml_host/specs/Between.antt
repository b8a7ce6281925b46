-- What went through a stream whose calls are counted.
use Rattle.std.specs.Prelude.{ℕ, List, Option}
use Rattle.cml_stream.specs.declared.counts.Counting.{Counting}
use Rattle.cml_stream.specs.Streams.{Counted, counted_stream}

-- The bytes of the stream before and after, by what a reader has left or a writer holds; and its calls since it was counted.
abbrev pub between : {S : Type 0} → (S → Option (List ℕ)) → Counting S → Counting S → Counted
between bytes old new = counted_stream (bytes old.stream.now) (bytes new.stream.now) new.calls new.failed
