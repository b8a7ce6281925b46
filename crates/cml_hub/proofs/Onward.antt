-- Whether there is more to do, and what comes next.
use Rattle.std.proofs.Common.{◌≡◌, ◌≢◌, ℕ, zero, suc, Bool, true, false, not, ◌&&◌, ◌||◌, nat_eq, List, [], ◌∷◌, map, refl, ap, sym, subst, ◌∙◌, arith, Option, Some, None, Result, Ok, Err}
use Rattle.std.specs.Prelude.{is_some, IfOk, OnErr, slice_get, slice_set}
use Rattle.std.proofs.lemmas.Bool.Decides.{nat_tests}
use Rattle.std.specs.List.{list_any}
use Rattle.cml_scan.specs.World.{PlainWorld, PlainThread, running}
use Rattle.cml_book.specs.Walks.{runs}
use Rattle.cml_scan.specs.Scan.{scan, has_row}
use Rattle.cml_scan.specs.declared.meet.Meet.{Meet}
use Rattle.cml_book.specs.Swaps.{swaps}
use Rattle.cml_schedule.specs.Reports.{PlainReport}
use Rattle.cml_schedule.specs.declared.item.Item.{Item}
use Rattle.cml_schedule.specs.declared.item.Item.TheVariants.{Turn, Meet as Commit, Exchange, Clock}
use Rattle.cml_step.specs.Calls.{text_of}
use Rattle.cml_step.specs.Machines.{PlainMachine}
use Rattle.cml_check.specs.Syntax.{PlainItem}
use Rattle.cml_hub.specs.declared.ready_queue.Mark.{Mark}
use Rattle.cml_hub.specs.declared.ready_queue.Mark.TheVariants.{Ready, Out}
use Rattle.cml_value.specs.declared.number.Tid.{Tid}
use Rattle.cml_hub.specs.ReadyQueue.{is_out, left_by}
use Rattle.cml_hub.specs.Runs.{any_runs, is_empty, is_none, next_alarm, terminal, is_allowed}
use Rattle.cml_hub.specs.Dones.{GoesOn}
use Rattle.cml_hub.specs.Courses.{PlainCourse, Begins, HasMachine, TakesRow}
use Rattle.cml_hub.specs.Kept.{Kept, Stands, IsBudget, IsWatch, IsAtStart, is_out_of}
use Rattle.cml_hub.specs.Moves.{HandedOut, TakesBack}
use Rattle.cml_hub.proofs.Standing.{map_set}
use Rattle.cml_hub.proofs.Marking.{placed_kept, ready_running, out_at}
use Rattle.cml_hub.proofs.Reporting.{none_made}

pub none_is : (o : Option ℕ) (b : Bool) → is_some o ≡ not b → b ≡ is_none o
none_is None true e = refl
none_is None false e = absurd (cc)
none_is (Some n) true e = absurd (cc)
none_is (Some n) false e = refl

pub some_runs : (b a : Bool) → b ≡ not a → b ≡ false → a ≡ true
some_runs b true e f = refl
some_runs b false e f = absurd (cc)

pub none_runs : (b a : Bool) → b ≡ not a → b ≡ true → a ≡ false
none_runs b true e f = absurd (cc)
none_runs b false e f = refl

-- a row of two swaps may be taken by each item that takes it
pub swap_allowed : (w : PlainWorld) (item : Item) (row : Meet) → TakesRow item row → has_row (scan w) row ≡ true → swaps w row ≡ true → is_allowed w item ≡ true
swap_allowed w (Turn t) row takes has swap = absurd takes
swap_allowed w (Commit taken) row takes has swap = subst (λ r. has_row (scan w) r ≡ true) (sym takes) has
swap_allowed w (Exchange taken) row takes has swap = subst (λ r. swaps w r ≡ true) (sym takes) swap
swap_allowed w (Clock tick) row takes has swap = absurd takes

pub tick_allowed : (w : PlainWorld) (tick : ℕ) → scan w ≡ [] → any_runs w ≡ false → next_alarm w ≡ Some tick → is_allowed w (Clock tick) ≡ true
tick_allowed w tick still idle next = let same : nat_eq tick tick ≡ true = grind (arith, nat_tests) in rw (next, idle, still, same) refl

pub terminal_is : (w : PlainWorld) → scan w ≡ [] → any_runs w ≡ false → next_alarm w ≡ None → terminal w ≡ true
terminal_is w still idle next = rw (next, idle, still) refl

-- whether something is left to do, where no row can be taken
runs_then : (a e n : Bool) → a ≡ true → (not a && e && n) ≡ not a
runs_then true e n h = refl
runs_then false e n h = absurd (cc)

pub busy_is : (w : PlainWorld) → any_runs w ≡ true → terminal w ≡ not (any_runs w)
busy_is w h = runs_then (any_runs w) (is_empty (scan w)) (is_none (next_alarm w)) h

pub quiet_is : (w : PlainWorld) → scan w ≡ [] → any_runs w ≡ false → next_alarm w ≡ None → terminal w ≡ not (any_runs w)
quiet_is w still idle next = terminal_is w still idle next ∙ sym (ap not idle)

-- something is left to do: a thread runs, or a row can be taken, or there is an alarm
pub runs_going : (w : PlainWorld) → any_runs w ≡ true → terminal w ≡ false
runs_going w h = busy_is w h ∙ ap not h

rows_left : (rows : List Meet) (row : Meet) (a n : Bool) → has_row rows row ≡ true → (a && is_empty rows && n) ≡ false
rows_left [] row a n h = absurd (cc)
rows_left (x ∷ rows) row true n h = refl
rows_left (x ∷ rows) row false n h = refl

pub row_going : (w : PlainWorld) (row : Meet) → has_row (scan w) row ≡ true → terminal w ≡ false
row_going w row h = rows_left (scan w) row (not (any_runs w)) (is_none (next_alarm w)) h

alarm_left : (o : Option ℕ) (tick : ℕ) (a e : Bool) → o ≡ Some tick → (a && e && is_none o) ≡ false
alarm_left None tick a e h = absurd (cc)
alarm_left (Some n) tick true true h = refl
alarm_left (Some n) tick true false h = refl
alarm_left (Some n) tick false e h = refl

pub tick_going : (w : PlainWorld) (tick : ℕ) → next_alarm w ≡ Some tick → terminal w ≡ false
tick_going w tick h = alarm_left (next_alarm w) tick (not (any_runs w)) (is_empty (scan w)) h

or_true : (a b : Bool) → b ≡ true → (a || b) ≡ true
or_true true b h = refl
or_true false b h = h

any_running : (ts : List PlainThread) (t : ℕ) → slice_get ts t ≡ Some running → list_any runs ts ≡ true
any_running [] t h = cc
any_running (x ∷ ts) zero h = let e : x ≡ running = cc in rw e refl
any_running (x ∷ ts) (suc t) h = or_true (runs x) (list_any runs ts) (any_running ts t h)

pub thread_going : (w : PlainWorld) (t : ℕ) → slice_get w.threads t ≡ Some running → terminal w ≡ false
thread_going w t h = runs_going w (any_running w.threads t h)

-- no slice of another thread is out
back_at : (old new : List Bool) (t u : ℕ) (b : Bool) → TakesBack old t new → ((u : ℕ) → is_out_of old u ≡ false) → nat_eq u t ≡ b → is_out_of new u ≡ false
back_at old new t u true back none e = let same : u ≡ t = grind (arith, nat_tests) in ap (is_out_of new) same ∙ back.back
back_at old new t u false back none e = let other : u ≢ t = grind (arith, nat_tests) in back.others u other ∙ none u

pub none_back : (old new : List Bool) (t : ℕ) → TakesBack old t new → ((u : ℕ) → is_out_of old u ≡ false) → (u : ℕ) → is_out_of new u ≡ false
none_back old new t back none u = back_at old new t u (nat_eq u t) back none refl

-- what holds of what a call returns where it succeeds
pub if_ok : {A E : Type 0} {P Q : A → Type 0} (r : Result A E) → IfOk r P → ((x : A) → P x → Q x) → IfOk r Q
if_ok (Ok x) h f = f x h
if_ok (Err e) h f = h

-- what holds where a call fails
pub on_err : {A E P : Type 0} (r : Result A E) → P → OnErr r P
on_err (Ok x) p = tt
on_err (Err e) p = p

-- at the beginning
pub stands_begun : (p : List (PlainItem ℕ)) (course : PlainCourse) (budget : ℕ) (watch : Option ℕ) → Begins p course → IsBudget budget → IsWatch watch
    → Stands (record { course = course; budget = budget; watch = watch; out = false ∷ []; queue = record { 0 = 0 } ∷ []; reports = [] }) (Ready ∷ [])
stands_begun p course budget watch b within seen = record {
  placed = rw (b.threads) (refl, tt);
  budgeted = within;
  watched = seen;
  reported = rw (b.items) (none_made (text_of course.program) watch);
}

alone_in : (t : ℕ) → is_out_of (false ∷ []) t ≡ false
alone_in zero = refl
alone_in (suc t) = refl

pub begun_is : (p : List (PlainItem ℕ)) (course : PlainCourse) (budget : ℕ) (watch : Option ℕ) → Begins p course
    → IsAtStart p budget watch (record { course = course; budget = budget; watch = watch; out = false ∷ []; queue = record { 0 = 0 } ∷ []; reports = [] })
begun_is p course budget watch b = record {
  program = b.program;
  budget_is = refl;
  watch_is = refl;
  items = b.items;
  reports = refl;
  none_out = alone_in;
  queue = refl;
}

-- a slice is handed out
pub stands_handed : (h : Kept) (ms : List Mark) (t : ℕ) (q : List Tid) → Stands h ms → slice_get ms t ≡ Some Ready
    → Stands (record { course = h.course; budget = h.budget; watch = h.watch; out = map is_out (slice_set ms t Out); queue = q; reports = h.reports }) (slice_set ms t Out)
stands_handed h ms t q s ready = record {
  placed = placed_kept h.course.world.threads ms t running Out s.placed (ready_running h.course.world.threads ms t s.placed ready) refl;
  budgeted = s.budgeted;
  watched = s.watched;
  reported = s.reported;
}

handed_same : (course : PlainCourse) (budget : ℕ) (watch : Option ℕ) (reports : List PlainReport) (ms : List Mark) (queue left : List Tid) (t : ℕ) (x : PlainMachine) → slice_get ms t ≡ Some Ready
    → HasMachine course t x → GoesOn course.program x → x.thread ≡ t → left ≡ left_by t queue
    → HandedOut (record { course = course; budget = budget; watch = watch; out = map is_out ms; queue = queue; reports = reports }) (Some x)
    (record { course = course; budget = budget; watch = watch; out = map is_out (slice_set ms t Out); queue = left; reports = reports })
handed_same course budget watch reports ms queue left t x ready keeps stands n l =
    let out : map is_out (slice_set ms t Out) ≡ slice_set (map is_out ms) x.thread true = map_set is_out ms t Out ∙ ap (λ k. slice_set (map is_out ms) k true) (sym n) in
    let rest : left ≡ left_by x.thread queue = l ∙ ap (λ k. left_by k queue) (sym n) in
    let make : List Bool → List Tid → Kept = λ o q. record { course = course; budget = budget; watch = watch; out = o; queue = q; reports = reports } in (
      subst (λ k. HasMachine course k x) (sym n) keeps,
      stands,
      ap (is_out_of (map is_out ms)) n ∙ out_at ms t Ready ready,
      ap (λ o. make o left) out ∙ ap (make (slice_set (map is_out ms) x.thread true)) rest,
    )

pub handed_out : (course : PlainCourse) (budget : ℕ) (watch : Option ℕ) (reports : List PlainReport) (ms : List Mark) (queue left : List Tid) (t : ℕ) (m x : PlainMachine) → slice_get ms t ≡ Some Ready
    → HasMachine course t x → GoesOn course.program x → x.thread ≡ t → m ≡ x → left ≡ left_by t queue
    → HandedOut (record { course = course; budget = budget; watch = watch; out = map is_out ms; queue = queue; reports = reports }) (Some m)
    (record { course = course; budget = budget; watch = watch; out = map is_out (slice_set ms t Out); queue = left; reports = reports })
handed_out course budget watch reports ms queue left t m x ready keeps stands n e l =
    let old : Kept = record { course = course; budget = budget; watch = watch; out = map is_out ms; queue = queue; reports = reports } in
    let new : Kept = record { course = course; budget = budget; watch = watch; out = map is_out (slice_set ms t Out); queue = left; reports = reports } in
    subst (λ (y : PlainMachine). HandedOut old (Some y) new) (sym e) (handed_same course budget watch reports ms queue left t x ready keeps stands n l)
