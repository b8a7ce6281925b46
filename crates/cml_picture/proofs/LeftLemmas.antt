-- A thread that is left.
use Rattle.std.proofs.Common.{◌≡◌, true, false, Option, Some, None, refl, ap}
use Rattle.std.specs.Prelude.{option_and_then}
use Rattle.std.specs.Option.{option_map_or}
use Rattle.cml_value.specs.Group.{PlainGroup, bases}
use Rattle.cml_scan.specs.World.{PlainThread, running, pending_on, ended}
use Rattle.cml_book.specs.Threads.{flat_of}
use Rattle.cml_book.specs.Walks.{runs}
use Rattle.cml_picture.specs.Lives.{awaits_of}

-- it runs
pub awaits_runs : (thread : Option PlainThread) → option_map_or runs thread false ≡ true → awaits_of thread ≡ Some None
awaits_runs None h = absurd cc
awaits_runs (Some running) h = refl
awaits_runs (Some (pending_on g)) h = absurd cc
awaits_runs (Some ended) h = absurd cc

-- it waits
pub awaits_waits : (thread : Option PlainThread) (g : PlainGroup) → option_and_then flat_of thread ≡ Some g → awaits_of thread ≡ Some (Some (bases g))
awaits_waits None g h = absurd cc
awaits_waits (Some running) g h = absurd cc
awaits_waits (Some (pending_on x)) g h = let e : x ≡ g = cc in ap (λ y. Some (Some (bases y))) e
awaits_waits (Some ended) g h = absurd cc

-- it has ended
pub awaits_ended : (thread : Option PlainThread) → option_map_or runs thread false ≡ false → option_and_then flat_of thread ≡ None → awaits_of thread ≡ None
awaits_ended None h e = refl
awaits_ended (Some running) h e = absurd cc
awaits_ended (Some (pending_on x)) h e = absurd cc
awaits_ended (Some ended) h e = refl
