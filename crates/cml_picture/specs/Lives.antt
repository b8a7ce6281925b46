-- Where the lines of threads begin and end.
use Rattle.std.specs.Prelude.{ℕ, zero, suc, Bool, if◌then◌else◌, List, [], ◌∷◌, ◌++◌, Option, Some, None, slice_get}
use Rattle.cml_value.specs.Value.{PlainBase, PlainFunction}
use Rattle.cml_value.specs.Group.{bases}
use Rattle.cml_scan.specs.World.{PlainThread, running, pending_on, ended}
use Rattle.cml_schedule.specs.declared.item.Item.{Item}
use Rattle.cml_hub.specs.Courses.{PlainCourse}
use Rattle.cml_hub.specs.Runs.{terminal}
use Rattle.cml_facts.specs.declared.ending.awaited.Named.{Named}
use Rattle.cml_facts.specs.Waits.{who_is}
use Rattle.cml_facts.specs.Turns.{began_in}
use Rattle.cml_picture.specs.Holds.{all_held}
use Rattle.cml_picture.specs.Stacks.{PlainStack, thread_count}
use Rattle.cml_picture.specs.Parts.{acts, takes_part}
use Rattle.cml_picture.specs.Sheets.{PlainLeft, PlainSheet}

-- of the first n threads those of which this is true, whose lines begin at the top
unfoldable pub beginnings : List PlainFunction → (ℕ → Bool) → ℕ → List Named
beginnings began is_shown zero = []
beginnings began is_shown (suc t) = if is_shown t then beginnings began is_shown t ++ who_is began t ∷ [] else beginnings began is_shown t

-- for what a thread waits that has not ended, or that it runs
abbrev pub awaits_of : Option PlainThread → Option (Option (List PlainBase))
awaits_of (Some running) = Some None
awaits_of (Some (pending_on g)) = Some (Some (bases g))
awaits_of (Some ended) = None
awaits_of None = None

abbrev pub left_at : List PlainFunction → ℕ → Option (Option (List PlainBase)) → List PlainLeft
left_at began t None = []
left_at began t (Some awaits) = record { named = who_is began t; awaits = awaits } ∷ []

-- of the first n threads those that have not ended, and of which this is true
unfoldable pub lefts : List PlainFunction → (ℕ → Bool) → List PlainThread → ℕ → List PlainLeft
lefts began is_shown threads zero = []
lefts began is_shown threads (suc t) =
    if is_shown t then lefts began is_shown threads t ++ left_at began t (awaits_of (slice_get threads t)) else lefts began is_shown threads t

-- Where the lines begin and end of the threads that take part in these items of so many, which lead to this course; so many threads were there before.
abbrev pub with_lines : PlainCourse → List Item → ℕ → ℕ → PlainStack → PlainSheet
with_lines c items count before s = record {
  stack = s;
  held = all_held s.shown;
  beginnings = beginnings (began_in c) (acts items) before;
  left = lefts (began_in c) (takes_part before items) c.world.threads (thread_count c);
  quiet = terminal c.world;
  threads = thread_count c;
  items = count;
}
