-- Why an item can't happen.
use Rattle.std.specs.Prelude.{ℕ, ◌+◌, ◌==◌, Bool, true, false, if◌then◌else◌, List, [], ◌∷◌, Option, Some, None, Result, Ok, Err, slice_get}
use Rattle.cml_value.specs.Value.{PlainBase, send, recv, swap}
use Rattle.cml_value.specs.declared.number.Tid.{Tid}
use Rattle.cml_value.specs.Group.{PlainGroup, bases}
use Rattle.cml_scan.specs.World.{PlainWorld, PlainThread}
use Rattle.cml_scan.specs.Scan.{scan, has_row}
use Rattle.cml_scan.specs.Light.{light_of}
use Rattle.cml_scan.specs.declared.meet.Meet.{Meet}
use Rattle.cml_scan.specs.declared.meet.Meet.TheVariants.{Single, Pair}
use Rattle.cml_scan.specs.declared.object.Light.TheVariants.{Joined}
use Rattle.cml_schedule.specs.declared.item.Item.{Item}
use Rattle.cml_schedule.specs.declared.item.Item.TheVariants.{Turn, Meet as Commit, Exchange, Clock}
use Rattle.cml_book.specs.Walks.{runs, is_running}
use Rattle.cml_hub.specs.Runs.{next_alarm}
use Rattle.cml_facts.specs.declared.narrative.why.ThreadState.{ThreadState}
use Rattle.cml_facts.specs.declared.narrative.why.ThreadState.TheVariants as state
use Rattle.cml_facts.specs.declared.narrative.why.Why.{Why}
use Rattle.cml_facts.specs.declared.narrative.why.Why.TheVariants as why
use Rattle.cml_facts.specs.Turns.{waits_on}
use Rattle.cml_facts.specs.Deeds.{could_count}

-- a thread that neither runs nor waits: it has ended, or is not there
abbrev pub gone_state : PlainWorld → Tid → ThreadState
gone_state w t = if light_of w (Joined t) then state.Ended else state.Missing

-- why a thread has no turn
abbrev pub turn_why : PlainWorld → Tid → Option PlainGroup → Why
turn_why w t (Some g) = why.NoTurn t state.Waits
turn_why w t None = why.NoTurn t (gone_state w t)

-- what a thread waits for at a leaf, or why it can't be taken, whatever else happens
abbrev pub event_or_why : Tid → ℕ → Option PlainBase → Result PlainBase Why
event_or_why t n (Some b) = Ok b
event_or_why t n None = Err (why.NoLeaf t n)

abbrev pub waiting_at : PlainWorld → Tid → ℕ → Option PlainGroup → Result PlainBase Why
waiting_at w t n (Some g) = event_or_why t n (slice_get (bases g) n)
waiting_at w t n None = Err (why.NoParty t (gone_state w t))

abbrev pub party_at : PlainWorld → Tid → ℕ → Result PlainBase Why
party_at w t n = if is_running w t.0 then Err (why.NoParty t state.Runs) else waiting_at w t n (waits_on w t.0)

-- a base event that takes another thread
abbrev pub takes_two : PlainBase → Bool
takes_two (send c v) = true
takes_two (recv c) = true
takes_two (swap s v) = true
takes_two b = false

-- why one leaf is not taken alone
abbrev pub single_why : PlainBase → Why
single_why b = if takes_two b then why.NotAlone b else why.NotNow b

-- why two leaves do not meet: the row has them the other way round; they are of one thread; or their events don't fit
abbrev pub pair_why : PlainWorld → Tid → ℕ → Tid → ℕ → PlainBase → PlainBase → Why
pair_why w h i o j a b =
    if has_row (scan w) (Pair o j h i) then why.ComesFirst o
    else if h.0 == o.0 then why.MeetsItself h
    else why.NoMatch a b

-- why the row of one leaf is not taken, where this is at the leaf; and why that of two is not
abbrev pub single_row_why : Result PlainBase Why → Why
single_row_why (Ok b) = single_why b
single_row_why (Err reason) = reason

abbrev pub pair_row_why : Result PlainBase Why → Result PlainBase Why → (PlainBase → PlainBase → Why) → Why
pair_row_why (Err reason) other meeting = reason
pair_row_why (Ok a) (Err reason) meeting = reason
pair_row_why (Ok a) (Ok b) meeting = meeting a b

abbrev pub row_reason : PlainWorld → Meet → Why
row_reason w (Single t n) = single_row_why (party_at w t n)
row_reason w (Pair h i o j) = pair_row_why (party_at w h i) (party_at w o j) (pair_why w h i o j)

-- why a row is not taken as an exchange
abbrev pub swap_why : PlainWorld → Meet → Why
swap_why w row = if has_row (scan w) row then why.NoSwap else row_reason w row

-- the first of these threads that runs, of which the first has this number
abbrev pub first_running : ℕ → List PlainThread → Option ℕ
first_running n [] = None
first_running n (t ∷ ts) = if runs t then Some n else first_running (n + 1) ts

-- why the time does not move: a thread runs, something else can happen, or another tick is next
abbrev pub still_why : PlainWorld → Option ℕ → Why
still_why w None = if could_count w == 0 then why.NextTick (next_alarm w) else why.Busy
still_why w (Some t) = why.Runs (record { 0 = t })

-- why an item can't happen in a world
abbrev pub item_why : PlainWorld → Item → Why
item_why w (Turn t) = turn_why w t (waits_on w t.0)
item_why w (Commit row) = row_reason w row
item_why w (Exchange row) = swap_why w row
item_why w (Clock tick) = still_why w (first_running 0 w.threads)
