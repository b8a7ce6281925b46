-- Which thread took from an M-variable last.
use Rattle.std.specs.Prelude.{◌≡◌, ℕ, ◌==◌, if◌then◌else◌, List, [], ◌∷◌, ◌++◌, Option, Some, None, option_map, option_and_then, slice_get, slice_index_or}
use Rattle.std.specs.Option.{option_or, option_to_list}
use Rattle.cml_value.specs.Value.{PlainBase, mtake}
use Rattle.cml_value.specs.Group.{bases}
use Rattle.cml_scan.specs.World.{PlainWorld}
use Rattle.cml_scan.specs.declared.meet.Meet.TheVariants.{Single}
use Rattle.cml_book.specs.Threads.{flat_of}
use Rattle.cml_step.specs.Terms.{Program}
use Rattle.cml_schedule.specs.declared.item.Item.{Item}
use Rattle.cml_schedule.specs.declared.item.Item.TheVariants.{Meet as Commit}
use Rattle.cml_hub.specs.Runs.{Run, opening, advance}
use Rattle.cml_facts.specs.declared.ending.takers.Take.{Take}
use Rattle.cml_facts.specs.declared.ending.takers.Takers.{Takers}

-- the M-variable that a base event takes from: an mTakeEvt leaves it empty
abbrev pub emptied_by : PlainBase → Option ℕ
emptied_by (mtake m) = Some m
emptied_by b = None

-- the base event of a leaf of a thread that waits
abbrev pub leaf_waited : PlainWorld → ℕ → ℕ → Option PlainBase
leaf_waited w t n = option_and_then (λ g. slice_get (bases g) n) (option_and_then flat_of (slice_get w.threads t))

-- what the thread takes from by this base event
abbrev pub take_through : ℕ → PlainBase → Option Take
take_through t b = option_map (λ m. record { variable = m; thread = t }) (emptied_by b)

-- What an item takes from an M-variable in this world: only the commit of one leaf does.
abbrev pub take_by : PlainWorld → Item → Option Take
take_by w (Commit (Single t n)) = option_and_then (take_through t.0) (leaf_waited w t.0 n)
take_by w item = None

-- what these items take, in order, from this run on
abbrev pub takes_from : Program → Option Run → List Item → List Take
takes_from p r [] = []
takes_from p r (item ∷ items) =
    option_to_list (option_and_then (λ now. take_by now.world item) r) ++ takes_from p (option_and_then (λ now. advance p now item) r) items

-- what the items of a schedule take
abbrev pub takes_of : Program → List Item → List Take
takes_of p items = takes_from p (Some (opening p)) items

-- the thread that takes from this M-variable, if this take is from it
abbrev pub taker_if : ℕ → Take → Option ℕ
taker_if m take = if take.variable == m then Some take.thread else None

-- the thread that took from the M-variable last
abbrev pub last_taker : List Take → ℕ → Option ℕ
last_taker [] m = None
last_taker (take ∷ takes) m = option_or (last_taker takes m) (taker_if m take)

-- what is kept of an M-variable
abbrev pub taker_in : Takers → ℕ → Option ℕ
taker_in takers m = slice_index_or takers.last.items m None

-- for each M-variable it is the thread that took from it last in this schedule
abbrev pub KnowsTakers : Program → List Item → Takers → Type 0
KnowsTakers p items takers = (m : ℕ) → taker_in takers m ≡ last_taker (takes_of p items) m
