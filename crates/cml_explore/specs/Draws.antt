-- Runs in which it is drawn what happens next.
use Rattle.std.specs.Prelude.{ℕ, zero, suc, ◌≡◌, if◌then◌else◌, List, [], ◌∷◌, ◌++◌, length, Option, Some, None}
use Rattle.cml_scan.specs.World.{PlainWorld}
use Rattle.cml_schedule.specs.declared.item.Item.{Item}
use Rattle.cml_step.specs.Calls.{text_of}
use Rattle.cml_step.specs.Terms.{Program}
use Rattle.cml_hub.specs.Runs.{Run, opening, advance, over}
use Rattle.cml_hub.specs.Courses.{run_of}
use Rattle.cml_hub.specs.Kept.{Kept, NoneOut}

-- A way to draw: how many items there are so far, the world, and the state of what draws say which item comes next, if any, and the state then.
abbrev pub Way : Type 0 → Type 0
Way S = ℕ → PlainWorld → S → Option Item × S

-- a run on its way: the schedule so far, where that has led, and the state of what draws
pub record Drawn (S : Type 0) : Type 0 where
  pub items : List Item
  pub run : Run
  pub state : S

-- the item was added, where it leads to this run; what is drawn leads somewhere
abbrev pub item_added : {S : Type 0} → Drawn S → S → Option Item → Option Run → Drawn S
item_added g state (Some item) (Some r) = record { items = g.items ++ item ∷ []; run = r; state = state }
item_added g state (Some item) None = record g { state = state }
item_added g state None r = record g { state = state }

-- where an item leads, if there is one
abbrev pub led_by : Program → Run → Option Item → Option Run
led_by p r None = None
led_by p r (Some item) = advance p r item

-- one item more, as it was drawn
abbrev pub one_drawn : {S : Type 0} → Program → Drawn S → Option Item × S → Drawn S
one_drawn p g d = item_added g d.1 d.0 (led_by p g.run d.0)

-- so many items more, but none once the run is over
abbrev pub more_drawn : {S : Type 0} → Way S → Program → ℕ → ℕ → Drawn S → Drawn S
more_drawn way p budget zero g = g
more_drawn way p budget (suc n) g =
    if over budget g.run then g else more_drawn way p budget n (one_drawn p g (way (length g.items) g.run.world g.state))

abbrev pub begun_drawn : {S : Type 0} → Program → S → Drawn S
begun_drawn p state = record { items = []; run = opening p; state = state }

-- The run of a program in which what happens next is drawn in this way, from this state on, to its end. Each item uses at least 1 of the budget, so
-- no more items than that are added.
abbrev pub run_drawn : {S : Type 0} → Way S → Program → ℕ → S → Drawn S
run_drawn way p budget state = more_drawn way p budget budget (begun_drawn p state)

-- where a hub stands with what draws
abbrev pub drawn_at : {S : Type 0} → Kept → S → Drawn S
drawn_at h state = record { items = h.course.items; run = run_of h.course; state = state }

-- ---- what private functions say

-- one item more
pub record GoesDrawn {S : Type 0} (way : Way S) (old : Kept) (state : S) (new : Kept) (last : S) : Type 0 where
  pub program : new.course.program ≡ old.course.program
  pub budget_is : new.budget ≡ old.budget
  pub goes : drawn_at new last ≡ one_drawn (text_of old.course.program) (drawn_at old state) (way (length old.course.items) old.course.world state)

-- to the end
pub record RunsDrawn {S : Type 0} (way : Way S) (old : Kept) (state : S) (new : Kept) (last : S) : Type 0 where
  pub program : new.course.program ≡ old.course.program
  pub budget_is : new.budget ≡ old.budget
  pub plays : drawn_at new last ≡ more_drawn way (text_of old.course.program) old.budget old.budget (drawn_at old state)

-- so many items more at most lead from where the hub stands now to the end
pub record LeftDrawn {S : Type 0} (way : Way S) (old : Kept) (state : S) (left : ℕ) (now : Kept) (last : S) : Type 0 where
  pub program : now.course.program ≡ old.course.program
  pub budget_is : now.budget ≡ old.budget
  pub none_out : NoneOut now
  pub plays : more_drawn way (text_of old.course.program) old.budget left (drawn_at now last) ≡ more_drawn way (text_of old.course.program) old.budget old.budget (drawn_at old state)
