-- A slice that is taken back: the report that was due, and the turn.
use Rattle.std.proofs.Common.{◌≡◌, ◌<◌, ℕ, Bool, true, false, List, [], ◌∷◌, ◌++◌, length, map, refl, sym, ap, ◌∙◌, subst, Some, None}
use Rattle.std.specs.Prelude.{Option, slice_get, if◌then◌else◌}
use Rattle.std.specs.Option.{option_map_or}
use Rattle.std.proofs.lemmas.List.{append-nil}
use Rattle.cml_value.specs.declared.number.Tid.{Tid}
use Rattle.cml_scan.specs.World.{PlainThread, running, pending_on, ended}
use Rattle.cml_book.specs.Walks.{runs, is_running}
use Rattle.cml_schedule.specs.Reports.{PlainReport}
use Rattle.cml_schedule.specs.declared.item.Item.TheVariants.{Turn}
use Rattle.cml_step.specs.Calls.{text_of}
use Rattle.cml_hub.specs.declared.done.AfterTurn.{AfterTurn}
use Rattle.cml_hub.specs.declared.ready_queue.Mark.{Mark}
use Rattle.cml_hub.specs.ReadyQueue.{is_out}
use Rattle.cml_step.specs.Terms.{Program}
use Rattle.cml_hub.specs.Runs.{Run, stands, advance, turned}
use Rattle.cml_hub.specs.Reports.{IsDueReport}
use Rattle.cml_hub.specs.Courses.{PlainCourse, run_of, Adds, Turns}
use Rattle.cml_hub.specs.Kept.{Kept, Stands, NoneDue, Given}
use Rattle.cml_hub.specs.Moves.{marks_after, with_report}
use Rattle.cml_hub.proofs.Marking.{takes_back, there_is}
use Rattle.cml_hub.proofs.Reporting.{stands_reported, reported_one}
use Rattle.cml_hub.proofs.Keeping.{stands_turned}

abbrev with_due : Kept → Option PlainReport → Kept
with_due h due = record { course = h.course; budget = h.budget; watch = h.watch; out = h.out; queue = h.queue; reports = with_report h.reports due }

abbrev IsDueOf : Kept → Option PlainReport → Type 0
IsDueOf h due = IsDueReport h.watch (length h.course.items) (length h.reports) h.course.world due

due_stands : (h : Kept) (ms : List Mark) (due : Option PlainReport) → Stands h ms → stands (text_of h.course.program) h.course.items ≡ Some (run_of h.course)
    → IsDueOf h due → Stands (with_due h due) ms
due_stands h ms None s leads d = s
due_stands h ms (Some r) s leads d = stands_reported h ms r s leads d

due_none : (h : Kept) (ms : List Mark) (due : Option PlainReport) → Stands h ms → IsDueOf h due → NoneDue (with_due h due)
due_none h ms None s d = d
due_none h ms (Some r) s d = (reported_one h r s.watched d).none_due

-- a thread that has a turn runs
taken : (b : Bool) (x : Option Run) (y : Run) → (if b then x else None) ≡ Some y → b ≡ true
taken true x y h = refl
taken false x y h = cc

runs_is : (o : Option PlainThread) → option_map_or runs o false ≡ true → o ≡ Some running
runs_is None h = cc
runs_is (Some running) h = refl
runs_is (Some (pending_on g)) h = cc
runs_is (Some ended) h = cc

turn_runs : (p : Program) (r new : Run) (t : Tid) → advance p r (Turn t) ≡ Some new → slice_get r.world.threads t.0 ≡ Some running
turn_runs p r new t h = runs_is (slice_get r.world.threads t.0) (taken (is_running r.world t.0) (turned p r t.0) new h)

-- What holds of the hub holds of it after.
pub given_stands : (h : Kept) (ms : List Mark) (due : Option PlainReport) (t : Tid) (g : AfterTurn) (new : PlainCourse) (q : List Tid) → Stands h ms
    → stands (text_of h.course.program) h.course.items ≡ Some (run_of h.course) → IsDueOf h due → Turns h.course t g new
    → Stands (record { course = new; budget = h.budget; watch = h.watch; out = map is_out (marks_after t.0 g ms); queue = q; reports = with_report h.reports due }) (marks_after t.0 g ms)
given_stands h ms due t g new q s leads d turns =
    let run = turn_runs (text_of h.course.program) (run_of h.course) (run_of new) t turns.adds.run in
    stands_turned (with_due h due) ms t g new q (due_stands h ms due s leads d) (due_none h ms due s d) run turns

-- it has a mark
pub there_given : (h : Kept) (ms : List Mark) (t : Tid) (g : AfterTurn) (new : PlainCourse) → Stands h ms → Turns h.course t g new → t.0 < length ms
there_given h ms t g new s turns = there_is h.course.world.threads ms t.0 s.placed (turn_runs (text_of h.course.program) (run_of h.course) (run_of new) t turns.adds.run)

abbrev made_by : Option PlainReport → List PlainReport
made_by None = []
made_by (Some r) = r ∷ []

made_is : (xs : List PlainReport) (due : Option PlainReport) → with_report xs due ≡ xs ++ made_by due
made_is xs None = sym (append-nil xs)
made_is xs (Some r) = refl

-- What has changed is that.
pub given_so : (course : PlainCourse) (budget : ℕ) (watch : Option ℕ) (reports : List PlainReport) (ms : List Mark)
    (due : Option PlainReport) (t u : Tid) (g : AfterTurn) (new : PlainCourse) (p q : List Tid)
    → Turns course t g new → t.0 ≡ u.0
    → Given (record { course = course; budget = budget; watch = watch; out = map is_out ms; queue = p; reports = reports }) u
    (record { course = new; budget = budget; watch = watch; out = map is_out (marks_after t.0 g ms); queue = q; reports = with_report reports due })
given_so course budget watch reports ms due t u g new p q turns same =
    let e : t ≡ u = ap (λ (n : ℕ). record { 0 = n }) same in
    let b = takes_back ms t.0 g in
    record {
      adds = subst (λ (x : Tid). Adds course (Turn x) new) e turns.adds;
      budget = refl;
      watch = refl;
      made = made_by due;
      reports = made_is reports due;
      back = rw (← same) b.back;
      others = rw (← same) b.others;
    }

-- a hub by its parts
abbrev pub kept_of : PlainCourse → ℕ → Option ℕ → List Mark → List Tid → List PlainReport → Kept
kept_of course budget watch ms queue reports = record { course = course; budget = budget; watch = watch; out = map is_out ms; queue = queue; reports = reports }

pub same_kept : (c d : PlainCourse) (budget : ℕ) (watch : Option ℕ) (ms ns : List Mark) (p q : List Tid) (rs qs : List PlainReport) → c ≡ d → ms ≡ ns → p ≡ q → rs ≡ qs
    → kept_of c budget watch ms p rs ≡ kept_of d budget watch ns q qs
same_kept c d budget watch ms ns p q rs qs e f k g =
    ap (λ x. kept_of x budget watch ms p rs) e
    ∙ (ap (λ x. kept_of d budget watch x p rs) f ∙ (ap (λ x. kept_of d budget watch ns x rs) k ∙ ap (λ x. kept_of d budget watch ns q x) g))

pub kept_stands : (course new : PlainCourse) (budget : ℕ) (watch : Option ℕ) (ms ns : List Mark) (p q : List Tid) (rs qs : List PlainReport) (due : Option PlainReport) (t : Tid) (g : AfterTurn)
    → Stands (kept_of course budget watch ms p rs) ms → stands (text_of course.program) course.items ≡ Some (run_of course)
    → IsDueReport watch (length course.items) (length rs) course.world due → Turns course t g new → ns ≡ marks_after t.0 g ms → qs ≡ with_report rs due
    → Stands (kept_of new budget watch ns q qs) ns
kept_stands course new budget watch ms ns p q rs qs due t g s leads d turns e f =
    rw (e, f) (given_stands (kept_of course budget watch ms p rs) ms due t g new q s leads d turns)

pub kept_given : (course new : PlainCourse) (budget : ℕ) (watch : Option ℕ) (ms ns : List Mark) (p q : List Tid) (rs qs : List PlainReport) (due : Option PlainReport) (t u : Tid) (g : AfterTurn)
    → Turns course t g new → t.0 ≡ u.0 → ns ≡ marks_after t.0 g ms → qs ≡ with_report rs due → Given (kept_of course budget watch ms p rs) u (kept_of new budget watch ns q qs)
kept_given course new budget watch ms ns p q rs qs due t u g turns same e f = rw (e, f) (given_so course budget watch rs ms due t u g new p q turns same)
