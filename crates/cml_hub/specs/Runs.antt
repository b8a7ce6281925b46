-- Where a program and a schedule lead.
use Rattle.std.specs.Prelude.{ℕ, ◌+◌, ◌==◌, min, Bool, true, false, not, ◌&&◌, ◌||◌, nat_lt, nat_le, if◌then◌else◌, List}
use Rattle.std.specs.Prelude.{[], ◌∷◌, ◌++◌, map, codes, Option, Some, None, option_map, option_and_then, unwrap_or, slice_get, slice_set}
use Rattle.std.specs.List.{list_any, filter_map}
use Rattle.std.specs.Option.{option_map_or}
use Rattle.cml_text.specs.Lines.{line}
use Rattle.cml_value.specs.Value.{unit, thread, function, no_values, PlainBase, at_tick}
use Rattle.cml_scan.specs.Numbers.{spaced}
use Rattle.cml_scan.specs.World.{PlainWorld, running, pending}
use Rattle.cml_scan.specs.Scan.{scan, has_row}
use Rattle.cml_scan.specs.declared.meet.Meet.{Meet}
use Rattle.cml_check.specs.Heads.{numbered}
use Rattle.cml_step.specs.Terms.{Program, Term, call_of}
use Rattle.cml_step.specs.Slices.{PlainSlice, sliced}
use Rattle.cml_step.specs.Asks.{a_value, a_commit}
use Rattle.cml_step.specs.Answers.{after_answer}
use Rattle.cml_book.specs.declared.command.Committed.{Committed}
use Rattle.cml_book.specs.Step.{empty_world}
use Rattle.cml_book.specs.Resumes.{PlainResume}
use Rattle.cml_book.specs.Commit.{hands, after}
use Rattle.cml_book.specs.Swaps.{swaps}
use Rattle.cml_book.specs.Clock.{bases_awaited}
use Rattle.cml_book.specs.Walks.{runs, is_running}
use Rattle.cml_schedule.specs.declared.item.Item.{Item}
use Rattle.cml_schedule.specs.declared.item.Item.TheVariants.{Turn, Meet as Commit, Exchange, Clock}
use Rattle.cml_hub.specs.declared.fault.End.{End}
use Rattle.cml_hub.specs.declared.fault.End.TheVariants.{Quiet, Budget, Partial}
use Rattle.cml_hub.specs.Performed.{PlainDone, goes, gets, spawns, prints, waits, ends, fails, performed}

-- the world, the term of each thread by its number, all that was printed, and how much of the budget was used
pub record Run : Type 0 where
  pub world : PlainWorld
  pub terms : List Term
  pub output : List ℕ
  pub used : ℕ

-- the number of `main`
abbrev pub main_of : Program → ℕ
main_of p = unwrap_or (numbered (map (λ f. f.name) p) (codes "main")) 0

-- At the beginning thread 0 runs a call of `main`. There is nothing else, and the time is 0.
abbrev pub opening : Program → Run
opening p = record {
  world = record empty_world { threads = running ∷ [] };
  terms = (call_of p (function (main_of p) no_values) ∷ []) ∷ [];
  output = [];
  used = 0;
}

-- the term of a thread, once its ask was done; a thread that has ended has an empty one
abbrev pub term_after : Program → Term → PlainDone → Term
term_after p term goes = term
term_after p term (gets answer) = after_answer p answer term
term_after p term (spawns n f) = after_answer p (a_value (thread n)) term
term_after p term (prints text) = after_answer p (a_value unit) term
term_after p term waits = term
term_after p term ends = []
term_after p term (fails name) = []

-- the terms of the threads that begin by the ask
abbrev pub begun : Program → PlainDone → List Term
begun p (spawns n f) = (call_of p f ∷ []) ∷ []
begun p _ = []

-- what the ask adds to the output: what was printed, or the line of the fault
abbrev pub output_of : ℕ → PlainDone → List ℕ
output_of t (prints text) = text
output_of t (fails name) = line (codes "thread" ++ spaced t ++ codes " fault " ++ name)
output_of t _ = []

-- the run after a slice of a thread, where this is what its ask did
abbrev pub after_slice : Program → Run → ℕ → PlainSlice → PlainWorld × PlainDone → Run
after_slice p r t s done = record {
  world = done.0;
  terms = slice_set r.terms t (term_after p s.end done.1) ++ begun p done.1;
  output = r.output ++ output_of t done.1;
  used = r.used + s.steps;
}

-- A turn of a thread: a slice of it, whose ask is then done.
abbrev pub turned_by : Program → Run → ℕ → PlainSlice → Run
turned_by p r t s = after_slice p r t s (performed r.world t s.ask)

abbrev pub turned : Program → Run → ℕ → Option Run
turned p r t = option_map (λ term. turned_by p r t (sliced p t term)) (slice_get r.terms t)

-- the terms, once a party of a row goes on with what it gets
abbrev pub resumed : Program → List Term → PlainResume → List Term
resumed p terms r = slice_set terms r.thread (after_answer p (a_commit r.value r.wraps) (unwrap_or (slice_get terms r.thread) []))

abbrev pub all_resumed : Program → List Term → Committed → List Term
all_resumed p terms c = option_map_or (resumed p (resumed p terms c.head)) c.partner (resumed p terms c.head)

-- A row is taken, and its parties go on.
abbrev pub met : Program → Run → Meet → Run
met p r row = record r { world = after r.world row; terms = all_resumed p r.terms (hands r.world row); used = r.used + 1 }

-- The time moves.
abbrev pub ticked : Run → ℕ → Run
ticked r tick = record r { world = record r.world { tick = tick }; used = r.used + 1 }

-- some thread runs
abbrev pub any_runs : PlainWorld → Bool
any_runs w = list_any runs w.threads

-- nothing can be taken
abbrev pub is_empty : List Meet → Bool
is_empty [] = true
is_empty (row ∷ rows) = false

-- the tick for which the base event waits, where it has not come
abbrev pub tick_to_come : ℕ → PlainBase → Option ℕ
tick_to_come now (at_tick t) = if nat_lt now t then Some t else None
tick_to_come now _ = None

-- the least of these numbers
abbrev pub least : List ℕ → Option ℕ
least [] = None
least (n ∷ ns) = Some (option_map_or (min n) (least ns) n)

-- the next alarm: the least tick that has not come and for which a leaf of a pending thread waits
abbrev pub next_alarm : PlainWorld → Option ℕ
next_alarm w = least (filter_map (tick_to_come w.tick) (bases_awaited (pending w)))

abbrev pub has_number : Option ℕ → ℕ → Bool
has_number None n = false
has_number (Some m) n = m == n

abbrev pub is_none : Option ℕ → Bool
is_none None = true
is_none (Some n) = false

-- Whether an item is allowed now: a turn of a thread that runs; a row that can be taken; as an exchange, a row of two swaps that can be
-- taken; and, where no thread runs and no row can be taken, a move of the time to the next alarm.
abbrev pub is_allowed : PlainWorld → Item → Bool
is_allowed w (Turn t) = is_running w t.0
is_allowed w (Commit row) = has_row (scan w) row
is_allowed w (Exchange row) = swaps w row
is_allowed w (Clock tick) = has_number (next_alarm w) tick && not (any_runs w) && is_empty (scan w)

-- the run after an item
abbrev pub after_item : Program → Run → Item → Option Run
after_item p r (Turn t) = turned p r t.0
after_item p r (Commit row) = Some (met p r row)
after_item p r (Exchange row) = Some (met p r row)
after_item p r (Clock tick) = Some (ticked r tick)

-- the run after an item, where it is allowed
abbrev pub advance : Program → Run → Item → Option Run
advance p r item = if is_allowed r.world item then after_item p r item else None

-- the run after these items, where each of them is allowed where it stands
abbrev pub stands_from : Program → Option Run → List Item → Option Run
stands_from p r [] = r
stands_from p r (item ∷ items) = stands_from p (option_and_then (λ now. advance p now item) r) items

-- Where a program and a schedule lead, if they lead anywhere.
abbrev pub stands : Program → List Item → Option Run
stands p items = stands_from p (Some (opening p)) items

-- nothing is left to do: no thread runs, no row can be taken, and no alarm is to come
abbrev pub terminal : PlainWorld → Bool
terminal w = not (any_runs w) && is_empty (scan w) && is_none (next_alarm w)

-- nothing is left to do, or the budget is used
abbrev pub over : ℕ → Run → Bool
over budget r = terminal r.world || nat_le budget r.used

-- how a run ends: quiet where nothing is left to do, else by its budget where that is used, else partial
abbrev pub ending : ℕ → Run → End
ending budget r = if terminal r.world then Quiet else if nat_le budget r.used then Budget else Partial
