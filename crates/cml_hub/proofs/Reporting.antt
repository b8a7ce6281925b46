-- Reports stay, and the one that is due is made.
use Rattle.std.proofs.Common.{◌≡◌, ◌≢◌, ℕ, zero, suc, ◌+◌, ◌*◌, ◌<◌, ◌≤◌, Bool, true, false, List, [], ◌∷◌, ◌++◌, length, map, refl, arith, Some, None, sym, ap, ◌∙◌, length-append, below_more}
use Rattle.std.specs.Prelude.{slice_get, Option, option_map, IsTrue, ◌↔◌}
use Rattle.std.proofs.lemmas.List.{take-append-le, take_all}
use Rattle.std.proofs.Math.Nat.{mul-le-mul_left}
use Rattle.cml_value.specs.declared.number.Tid.{Tid}
use Rattle.cml_schedule.specs.Reports.{PlainReport}
use Rattle.cml_schedule.specs.declared.item.Item.{Item}
use Rattle.cml_step.specs.Terms.{Program}
use Rattle.cml_step.specs.Calls.{text_of}
use Rattle.cml_hub.specs.declared.ready_queue.Mark.{Mark}
use Rattle.cml_hub.specs.ReadyQueue.{is_out}
use Rattle.cml_hub.specs.Runs.{Run, stands}
use Rattle.cml_hub.specs.Courses.{PlainCourse, run_of, Adds}
use Rattle.cml_hub.specs.Reports.{report_of, report_at, AreReportsBy, AreReports, IsDue, IsDueReport}
use Rattle.cml_hub.specs.Kept.{Kept, Placed, Stands, NoneDue, IsWatch}
use Rattle.cml_hub.specs.Moves.{Reported}

get_before : {X : Type 0} (xs : List X) (x : X) (i : ℕ) → i < length xs → slice_get (xs ++ x ∷ []) i ≡ slice_get xs i
get_before [] x i h = absurd (omega arith)
get_before (y ∷ xs) x zero h = refl
get_before (y ∷ xs) x (suc i) h = get_before xs x i (omega arith)

get_last : {X : Type 0} (xs : List X) (x : X) → slice_get (xs ++ x ∷ []) (length xs) ≡ Some x
get_last [] x = refl
get_last (y ∷ xs) x = get_last xs x

earlier : (k i n m : ℕ) → i < n → k * n ≤ m → k * (i + 1) ≤ m
earlier k i n m lt h = omega (arith, mul-le-mul_left k (let le : i + 1 ≤ n = omega arith in le), h)

-- one more item, where no report is due
reports_more : (p : Program) (items : List Item) (k : ℕ) (reports : List PlainReport) (item : Item) → AreReportsBy p items k reports → length items < k * (length reports + 1)
    → AreReportsBy p (items ++ item ∷ []) k reports
reports_more p items k reports item h lt = record {
  each = λ i within. (
      let le : k * (i + 1) ≤ length items = earlier k i (length reports) (length items) within h.made in
      h.each i within ∙ ap (λ xs. option_map (λ (r : Run). report_of (k * (i + 1)) r.world) (stands p xs)) (sym (take-append-le (k * (i + 1)) items (item ∷ []) le)));
  made = omega (arith, h.made, length-append items (item ∷ []));
  few = omega (arith, lt, length-append items (item ∷ []));
}

below : (n m : ℕ) → n ≤ m → (n ≡ m → ⊥) → n < m
below n m le ne = let other : n ≢ m = ne in omega arith

pub reports_on : (p : Program) (items : List Item) (watch : Option ℕ) (reports : List PlainReport) (item : Item) → AreReports p items watch reports → (IsDue watch (length items) (length reports) → ⊥)
    → AreReports p (items ++ item ∷ []) watch reports
reports_on p items None reports item h none = h
reports_on p items (Some k) reports item h none = reports_more p items k reports item h (below (length items) (k * (length reports + 1)) h.few none)

each_at : (p : Program) (items : List Item) (k : ℕ) (reports : List PlainReport) (r : Run) (i : ℕ) → length items ≡ k * (length reports + 1) → stands p items ≡ Some r
    → i ≡ length reports → slice_get (reports ++ report_of (length items) r.world ∷ []) i ≡ report_at p items (k * (i + 1))
each_at p items k reports r i due leads is =
    rw (is, ← due, take_all (length items) items (omega arith), leads) (get_last reports (report_of (length items) r.world))

-- the report that is due
report_made : (p : Program) (items : List Item) (k : ℕ) (reports : List PlainReport) (r : Run) → AreReportsBy p items k reports → length items ≡ k * (length reports + 1) → stands p items ≡ Some r
    → AreReportsBy p items k (reports ++ report_of (length items) r.world ∷ [])
report_made p items k reports r h due leads =
    let new : List PlainReport = reports ++ report_of (length items) r.world ∷ [] in
    let longer : length new ≡ length reports + 1 = length-append reports (report_of (length items) r.world ∷ []) in
    let P : ℕ → Type 0 = λ i. slice_get new i ≡ report_at p items (k * (i + 1)) in
    let all = below_more P (length reports) (λ i lt. get_before reports (report_of (length items) r.world) i lt ∙ h.each i lt) (each_at p items k reports r (length reports) due leads refl) in
    record {
      each = λ i within. all i (omega (arith, longer));
      made = rw (longer) (omega (arith, due));
      few = rw (longer, due) (omega (arith, mul-le-mul_left k (let le : length reports + 1 ≤ length reports + 1 + 1 = omega arith in le)));
    }

reports_due : (p : Program) (items : List Item) (watch : Option ℕ) (reports : List PlainReport) (r : Run)
    → AreReports p items watch reports → IsDue watch (length items) (length reports) → stands p items ≡ Some r
    → AreReports p items watch (reports ++ report_of (length items) r.world ∷ [])
reports_due p items None reports r h due leads = absurd due
reports_due p items (Some k) reports r h due leads = report_made p items k reports r h due leads

-- at the beginning there are none
pub none_made : (p : Program) (watch : Option ℕ) → AreReports p [] watch []
none_made p None = refl
none_made p (Some k) = record { each = λ i within. absurd (omega arith); made = omega arith; few = omega arith }

not_next : (k n items : ℕ) → 1 ≤ k → items ≡ k * (n + 1) → items ≡ k * (n + 1 + 1) → ⊥
not_next k n items some now later = absurd (omega arith)

-- after the report that was due none is
none_then : (watch : Option ℕ) (items n m : ℕ) → IsWatch watch → IsDue watch items n → m ≡ n + 1 → IsDue watch items m → ⊥
none_then None items n m w due longer later = later
none_then (Some k) items n m w due longer later = not_next k n items w.0 due (rw longer at later)

-- the invariant, once an item was added where no report was due
pub stands_moved : (h : Kept) (ms new : List Mark) (item : Item) (course : PlainCourse) (q : List Tid) → Stands h ms → NoneDue h → Adds h.course item course → Placed course.world.threads new
    → Stands (record { course = course; budget = h.budget; watch = h.watch; out = map is_out new; queue = q; reports = h.reports }) new
stands_moved h ms new item course q s none adds placed = record {
  placed = placed;
  budgeted = s.budgeted;
  watched = s.watched;
  reported = rw (adds.program, adds.items) (reports_on (text_of h.course.program) h.course.items h.watch h.reports item s.reported none);
}

-- the invariant, once the report that is due was made
pub stands_reported : (h : Kept) (ms : List Mark) (r : PlainReport) → Stands h ms → stands (text_of h.course.program) h.course.items ≡ Some (run_of h.course)
    → IsDueReport h.watch (length h.course.items) (length h.reports) h.course.world (Some r)
    → Stands (record { course = h.course; budget = h.budget; watch = h.watch; out = h.out; queue = h.queue; reports = h.reports ++ r ∷ [] }) ms
stands_reported h ms r s leads due = record {
  placed = s.placed;
  budgeted = s.budgeted;
  watched = s.watched;
  reported = rw (due.1) (reports_due (text_of h.course.program) h.course.items h.watch h.reports (run_of h.course) s.reported due.0 leads);
}

-- what a made report changes
pub reported_one : (h : Kept) (r : PlainReport) → IsWatch h.watch → IsDueReport h.watch (length h.course.items) (length h.reports) h.course.world (Some r)
    → Reported h (record { course = h.course; budget = h.budget; watch = h.watch; out = h.out; queue = h.queue; reports = h.reports ++ r ∷ [] })
reported_one h r w due = record {
  course = refl;
  budget = refl;
  watch = refl;
  out = refl;
  queue = refl;
  made = r ∷ [];
  reports = refl;
  none_due = none_then h.watch (length h.course.items) (length h.reports) (length (h.reports ++ r ∷ [])) w due.0 (length-append h.reports (r ∷ []));
}

pub reported_none : (h : Kept) → NoneDue h → Reported h h
reported_none h none = record { course = refl; budget = refl; watch = refl; out = refl; queue = refl; made = []; reports = nothing h.reports; none_due = none }
  where
    nothing : (xs : List PlainReport) → xs ≡ xs ++ []
    nothing [] = refl
    nothing (x ∷ xs) = ap (λ ys. x ∷ ys) (nothing xs)

-- what a test says
pub so : {P : Type 0} (b : Bool) → (IsTrue b ↔ P) → b ≡ true → P
so true h e = h.0 refl
so false h e = absurd (cc)

pub not_so : {P : Type 0} (b : Bool) → (IsTrue b ↔ P) → b ≡ false → P → ⊥
not_so true h e p = absurd (cc)
not_so false h e p = let f : IsTrue false = h.1 p in cc
