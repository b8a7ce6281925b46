-- The run of a program in which priorities say what happens next: the scheduler of Burckhardt, Kothari, Musuvathi and Nagarakatte (2010). Each
-- party draws a priority as it begins, and the one whose priority is highest acts; at a few points the priority of the party that acted becomes lower
-- than all that are drawn. A party is a thread, which has its turn; or the rows, of which one is taken.
use Rattle.std.specs.Prelude.{ℕ, zero, suc, ◌+◌, ◌-◌, ◌^◌, ◌==◌, nat_lt, Bool, not, ◌&&◌, if◌then◌else◌, List, [], ◌∷◌, ◌++◌, length, slice_index, slice_set, position, Option, Some, None, option_map}
use Rattle.rand_pcg.specs.Lcg.{Lcg}
use Rattle.cml_value.specs.declared.number.Tid.{Tid}
use Rattle.cml_scan.specs.World.{PlainWorld}
use Rattle.cml_scan.specs.Scan.{scan}
use Rattle.cml_schedule.specs.declared.item.Item.{Item}
use Rattle.cml_schedule.specs.declared.item.Item.TheVariants.{Turn, Clock}
use Rattle.cml_step.specs.Terms.{Program}
use Rattle.cml_hub.specs.Runs.{next_alarm, is_empty}
use Rattle.cml_hub.specs.Playing.{picked, run_by}
use Rattle.cml_explore.specs.Generators.{by_generator}
use Rattle.cml_explore.specs.Draws.{Way, Drawn, run_drawn}
use Rattle.cml_explore.specs.Lots.{ready_from, row_by_lot}

-- numbers that were drawn, and the generator then
pub record Numbers : Type 0 where
  pub numbers : List ℕ
  pub state : Lcg

-- one number more: the next word of the generator modulo the span, and as much as it is to be above
abbrev pub number_drawn : ℕ → ℕ → Numbers → Numbers
number_drawn above span d = record {
  numbers = d.numbers ++ (above + by_generator.picks d.state span) ∷ [];
  state = by_generator.next d.state;
}

-- so many more, one after another
abbrev pub numbers_drawn : ℕ → ℕ → ℕ → Numbers → Numbers
numbers_drawn above span zero d = d
numbers_drawn above span (suc n) d = numbers_drawn above span n (number_drawn above span d)

-- What draws such a run: its depth; the points, which are numbers of items, counted from 0; the priorities of the parties that have begun, by number;
-- and the generator. Party 0 is that of the rows, and party t + 1 is thread t.
pub record PlainPriorities : Type 0 where
  pub depth : ℕ
  pub points : List ℕ
  pub priorities : List ℕ
  pub state : Lcg

-- At the beginning the points are drawn, one fewer than the depth, among so many items as the span says.
abbrev pub begun_priorities : ℕ → ℕ → Lcg → PlainPriorities
begun_priorities depth span state =
    let d = numbers_drawn 0 span (depth - 1) (record { numbers = []; state = state }) in
    record { depth = depth; points = d.numbers; priorities = []; state = d.state }

-- So many parties have begun: for each that has no priority one is drawn, a word of 32 bits and the depth. So it is above all numbers of points.
abbrev pub all_begun : ℕ → PlainPriorities → PlainPriorities
all_begun parties g =
    let d = numbers_drawn g.depth (2 ^ 32) (parties - length g.priorities) (record { numbers = g.priorities; state = g.state }) in
    record g { priorities = d.numbers; state = d.state }

abbrev pub priority_of : PlainPriorities → ℕ → ℕ
priority_of g party = slice_index g.priorities party

-- of two threads the one whose priority is higher; the first, where they are equal
abbrev pub higher : PlainPriorities → Tid → Option Tid → Tid
higher g t None = t
higher g t (Some u) = if nat_lt (priority_of g (t.0 + 1)) (priority_of g (u.0 + 1)) then u else t

-- of these threads the one whose priority is highest; the first of those, where there are several
abbrev pub highest : PlainPriorities → List Tid → Option Tid
highest g [] = None
highest g (t ∷ ts) = Some (higher g t (highest g ts))

-- whether a row comes before the turn of this thread: one can be taken, and the priority of the rows is higher
abbrev pub row_is_first : PlainWorld → PlainPriorities → Tid → Bool
row_is_first w g t = not (is_empty (scan w)) && nat_lt (priority_of g (t.0 + 1)) (priority_of g 0)

-- Who acts: the thread whose priority is highest of those that run; or none, and a row is taken, where no thread runs or a row comes before it.
abbrev pub actor : PlainWorld → PlainPriorities → Option Tid → Option Tid
actor w g None = None
actor w g (Some t) = if row_is_first w g t then None else Some t

-- The item of a thread is its turn. That of the rows is one of them, which the generator picks as in every run; where none can be taken, the time
-- moves to the next alarm, if there is one.
abbrev pub item_of_actor : PlainWorld → Lcg → Option Tid → Option Item × Lcg
item_of_actor w state (Some t) = (Some (Turn t), state)
item_of_actor w state None =
    if is_empty (scan w) then (option_map Clock (next_alarm w), state) else row_by_lot by_generator w state (picked by_generator state (scan w))

-- the party of a thread; where there is none, that of the rows
abbrev pub party_of : Option Tid → ℕ
party_of None = 0
party_of (Some t) = t.0 + 1

-- the priority of this party becomes the number, if there is one
abbrev pub with_priority : PlainPriorities → ℕ → Option ℕ → PlainPriorities
with_priority g party None = g
with_priority g party (Some number) = record g { priorities = slice_set g.priorities party number }

-- The party has acted by the item of this number. If that is a point, its priority becomes the number of the point, the first of those, counted
-- from 0.
abbrev pub lowered : PlainPriorities → ℕ → ℕ → PlainPriorities
lowered g party item = with_priority g party (position (λ p. p == item) g.points)

-- what draws goes on with this generator
abbrev pub with_state : PlainPriorities → Lcg → PlainPriorities
with_state g state = record g { state = state }

-- The item of the one that acts, after so many items; if it is a point, the priority changes.
unfoldable pub acted : ℕ → PlainWorld → PlainPriorities → Option Tid → Option Item × PlainPriorities
acted items w g who =
    let d = item_of_actor w g.state who in
    (d.0, lowered (with_state g d.1) (party_of who) items)

-- where all that have begun have their priorities, the one acts whose priority is highest of those that can
unfoldable pub next_of_begun : ℕ → PlainWorld → PlainPriorities → Option Item × PlainPriorities
next_of_begun items w g = acted items w g (actor w g (highest g (ready_from 0 w.threads)))

-- The next item, after so many items, and what draws then.
abbrev pub next_by_priority : ℕ → PlainWorld → PlainPriorities → Option Item × PlainPriorities
next_by_priority items w g = next_of_begun items w (all_begun (length w.threads + 1) g)

-- Priorities say what happens next.
abbrev pub by_priority : Way PlainPriorities
by_priority items w g = next_by_priority items w g

-- Among so many items the points are drawn: one more than the run has that the generator makes of this state while threads have their turns in order.
abbrev pub points_span : Program → ℕ → Lcg → ℕ
points_span p budget state = length (run_by p budget by_generator state).items + 1

-- The run of a program by priorities, of this depth and span, to its end.
abbrev pub run_by_priority : Program → ℕ → ℕ → ℕ → Lcg → Drawn PlainPriorities
run_by_priority p budget depth span state = run_drawn by_priority p budget (begun_priorities depth span state)
