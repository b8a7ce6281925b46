-- When a run is stuck: it ended, and not all is well.
use Rattle.std.specs.Prelude.{ℕ, suc, ◌==◌, Bool, true, false, not, ◌&&◌, ◌||◌, List, [], ◌∷◌, Option, Some, None, slice_get}
use Rattle.std.specs.List.{list_any}
use Rattle.cml_value.specs.Value.{PlainFunction, func_of}
use Rattle.cml_scan.specs.World.{PlainThread, running, pending_on, ended}
use Rattle.cml_step.specs.Calls.{text_of}
use Rattle.cml_hub.specs.declared.fault.End.{End}
use Rattle.cml_hub.specs.declared.fault.End.TheVariants.{Quiet, Budget, Partial}
use Rattle.cml_hub.specs.Runs.{ending}
use Rattle.cml_hub.specs.Courses.{run_of}
use Rattle.cml_hub.specs.Deeds.{origins, fault_count}
use Rattle.cml_hub.specs.Kept.{Kept}

abbrev pub is_quiet : End → Bool
is_quiet Quiet = true
is_quiet Budget = false
is_quiet Partial = false

-- a thread that began with one of these functions is a server
abbrev pub is_server : List ℕ → Option PlainFunction → Bool
is_server servers None = false
is_server servers (Some f) = list_any (λ g. g == func_of f) servers

-- a thread that waits and is no server, as it began so
abbrev pub is_held_up : List ℕ → Option PlainFunction → PlainThread → Bool
is_held_up servers began running = false
is_held_up servers began (pending_on g) = not (is_server servers began)
is_held_up servers began ended = false

-- one of these threads is, of which the first has this number
abbrev pub some_held_up : List ℕ → List PlainFunction → ℕ → List PlainThread → Bool
some_held_up servers began t [] = false
some_held_up servers began t (thread ∷ threads) = is_held_up servers (slice_get began t) thread || some_held_up servers began (suc t) threads

-- Nothing is left to do, and a thread waits that is no server, or a thread has ended at a fault.
abbrev pub is_stuck : List ℕ → Kept → Bool
is_stuck servers h =
    is_quiet (ending h.budget (run_of h.course))
    && (some_held_up servers (origins (text_of h.course.program) h.course.items) 0 h.course.world.threads
    || not (fault_count (text_of h.course.program) h.course.items == 0))
