-- The rows that a run of workers takes are those that the hub's chooser picks.
use Rattle.std.specs.Prelude.{◌≡◌, ℕ, zero, suc, Bool, false, List, [], ◌∷◌, ◌++◌, Option, Some, None, IfSome, Result, Ok, Err}
use Rattle.cml_scan.specs.Scan.{scan}
use Rattle.cml_scan.specs.declared.meet.Meet.{Meet}
use Rattle.cml_schedule.specs.declared.item.Item.{Item}
use Rattle.cml_step.specs.Calls.{text_of}
use Rattle.cml_step.specs.Terms.{Program}
use Rattle.cml_hub.specs.Runs.{stands}
use Rattle.cml_hub.specs.Kept.{Kept}
use Rattle.cml_hub.specs.Playing.{Rules, picked, row_taken, asked, EachPicked}
use Rattle.cml_work.specs.Works.{PlainOpening}
use Rattle.cml_work.specs.declared.fault.WorkFault.{WorkFault}
use Rattle.cml_work.specs.declared.fault.WorkFault.TheVariants.{Count, Memory, Start, Write, Foreign}

-- The schedule of the second hub begins with the first's. Each row that was taken after that is the one that the chooser picked where it
-- was taken, asked once for each of them.
pub record PicksRows {C : Type 0} (rules : Rules C) (chooser : C) (old new : Kept) : Type 0 where
  pub more : List Item
  pub items : new.course.items ≡ old.course.items ++ more
  pub rows : EachPicked (text_of old.course.program) rules chooser old.course.items more

-- the hub that a fault carries
abbrev pub hub_in : WorkFault → Kept
hub_in (Count hub) = hub
hub_in (Memory hub) = hub
hub_in (Start hub) = hub
hub_in (Write hub) = hub
hub_in (Foreign hub seen) = hub

-- the hub that comes back: of a run of workers; of one with a watcher; or of one thread that ends the run
abbrev pub hub_of_run : Result Kept WorkFault → Kept
hub_of_run (Ok hub) = hub
hub_of_run (Err fault) = hub_in fault

abbrev pub hub_of_watched : {A : Type 0} → Result (Kept × A) WorkFault → Kept
hub_of_watched (Ok r) = r.0
hub_of_watched (Err fault) = hub_in fault

abbrev pub hub_of_end : Result Kept Kept → Kept
hub_of_end (Ok hub) = hub
hub_of_end (Err hub) = hub

-- ---- under the lock

-- the same, and what the chooser is then
pub record PicksOn {C : Type 0} (rules : Rules C) (old : Kept) (chooser : C) (new : Kept) (last : C) : Type 0 where
  pub rows : PicksRows rules chooser old new
  pub last_is : last ≡ asked rules chooser rows.more

-- The same; the last picks of the chooser may have been for an item that was not made.
pub record PicksSome {C : Type 0} (rules : Rules C) (old : Kept) (chooser : C) (new : Kept) : Type 0 where
  pub last : C
  pub picks : PicksOn rules old chooser new last

-- which row is picked among these, when one is picked for the k-th time, from 0
abbrev pub Picker : Type 0
Picker = ℕ → List Meet → Option Meet

abbrev pub picker : {C : Type 0} → Rules C → C → Picker
picker rules chooser zero rows = picked rules chooser rows
picker rules chooser (suc k) rows = picker rules (rules.next (rules.next chooser)) k rows

-- the picks that are left after a row, and after these items
abbrev pub picks_less : Picker → Option Meet → Picker
picks_less picks None = picks
picks_less picks (Some row) = λ k. picks (suc k)

abbrev pub picks_after : Picker → List Item → Picker
picks_after picks [] = picks
picks_after picks (item ∷ more) = picks_after (picks_less picks (row_taken item)) more

-- each row that these items take, which were added after the others, is the one that was picked where it was taken
abbrev pub EachBy : Program → Picker → List Item → List Item → Type 0
EachBy p picks items [] = Unit {0}
EachBy p picks items (item ∷ more) =
    IfSome (stands p items) (λ r. IfSome (row_taken item) (λ row. picks 0 (scan r.world) ≡ Some row)) × EachBy p (picks_less picks (row_taken item)) (items ++ item ∷ []) more

-- the rows that the hub took after the opening are those of these picks
pub record TakenBy (opening : PlainOpening) (picks : Picker) (h : Kept) : Type 0 where
  pub program : h.course.program ≡ opening.program
  pub more : List Item
  pub items : h.course.items ≡ opening.items ++ more
  pub rows : EachBy (text_of opening.program) picks opening.items more

-- the same; and what the chooser is to pick now are the picks that are left, unless the workers are to stop
pub record ChoosesBy (opening : PlainOpening) (picks : Picker) (h : Kept) (now : Picker) (is_stopped : Bool) : Type 0 where
  pub taken : TakenBy opening picks h
  pub left : is_stopped ≡ false → now ≡ picks_after picks taken.more
