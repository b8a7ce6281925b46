-- A run of the program over the system.
use Rattle.std.specs.Prelude.{ℕ, List, Option, Some, None}
use Rattle.cml_host.specs.Stores.{Shelf, unknown}
use Rattle.cml_host.specs.Statuses.{Surroundings, Ran, IsOutOfMemory}
use Rattle.cml_stream.specs.Streams.{IsIdle}

-- the files of the system, of which nothing is known
abbrev pub files : Shelf
files = record { before = λ name. unknown; after = λ name. unknown }

-- What these words ask for was done over the files of the system; or there was no memory to read them.
abbrev pub RanOnSystem : Option (List (List ℕ)) → Surroundings → ℕ → Type 0
RanOnSystem (Some words) around status = Ran words around status
RanOnSystem None around status = IsOutOfMemory around status

-- no stream was called
abbrev pub NothingCalled : Surroundings → Type 0
NothingCalled around = IsIdle around.input × IsIdle around.output × IsIdle around.errors
