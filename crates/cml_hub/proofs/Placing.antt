-- The threads that run, and their marks.
use Rattle.std.proofs.Common.{◌≡◌, ◌≢◌, ℕ, zero, suc, Bool, true, false, not, List, [], ◌∷◌, ◌++◌, map, refl, Some, ap, ◌∙◌}
use Rattle.std.specs.Prelude.{Option, Result, Ok, Err, OnOk, OnErr, slice_get}
use Rattle.std.specs.List.{list_any}
use Rattle.cml_scan.specs.World.{PlainThread, running, pending_on, ended}
use Rattle.cml_book.specs.Walks.{runs}
use Rattle.cml_hub.specs.declared.ready_queue.Mark.{Mark}
use Rattle.cml_hub.specs.declared.ready_queue.Mark.TheVariants.{Ready, Out, NotRunning}
use Rattle.cml_value.specs.declared.number.Tid.{Tid}
use Rattle.cml_hub.specs.ReadyQueue.{is_here, is_out, home, those_out}
use Rattle.cml_schedule.specs.Reports.{PlainReport}
use Rattle.cml_hub.specs.Courses.{PlainCourse}
use Rattle.cml_hub.specs.Kept.{Kept, Stands, Placed, is_out_of, AllOut, NoneOut}
use Rattle.cml_hub.specs.Runs.{any_runs}
use Rattle.cml_hub.specs.Moves.{MovedOn, CalledBack, GoesIfLeft}

-- who is ready runs
pub ready_runs : (ts : List PlainThread) (ms : List Mark) (t : ℕ) → Placed ts ms → slice_get ms t ≡ Some Ready → slice_get ts t ≡ Some running
ready_runs [] [] t p h = cc
ready_runs [] (m ∷ ms) t p h = absurd p
ready_runs (x ∷ ts) [] t p h = absurd p
ready_runs (running ∷ ts) (m ∷ ms) zero p h = refl
ready_runs (pending_on g ∷ ts) (m ∷ ms) zero p h = let e : m ≡ Ready = cc in let b : is_here m ≡ true = ap is_here e in let f : is_here m ≡ false = p.0 in cc
ready_runs (ended ∷ ts) (m ∷ ms) zero p h = let e : m ≡ Ready = cc in let b : is_here m ≡ true = ap is_here e in let f : is_here m ≡ false = p.0 in cc
ready_runs (x ∷ ts) (m ∷ ms) (suc t) p h = ready_runs ts ms t p.1 h

-- where none is ready, a slice of every one that runs is out
pub none_ready_all_out : (ts : List PlainThread) (ms : List Mark) → Placed ts ms → ((t : ℕ) → slice_get ms t ≢ Some Ready)
    → (t : ℕ) → slice_get ts t ≡ Some running → is_out_of (map is_out ms) t ≡ true
none_ready_all_out [] ms p n t h = cc
none_ready_all_out (x ∷ ts) [] p n t h = absurd p
none_ready_all_out (x ∷ ts) (Ready ∷ ms) p n zero h = absurd (n 0 refl)
none_ready_all_out (x ∷ ts) (Out ∷ ms) p n zero h = refl
none_ready_all_out (x ∷ ts) (NotRunning ∷ ms) p n zero h = let e : x ≡ running = cc in let b : runs x ≡ true = ap runs e in let f : false ≡ runs x = p.0 in cc
none_ready_all_out (x ∷ ts) (m ∷ ms) p n (suc t) h = none_ready_all_out ts ms p.1 (λ u. n (suc u)) t h

-- who is out runs
out_here : (m : Mark) → is_out m ≡ true → is_here m ≡ true
out_here Ready h = cc
out_here Out h = refl
out_here NotRunning h = cc

pub out_runs : (ts : List PlainThread) (ms : List Mark) → Placed ts ms → (t : ℕ) → is_out_of (map is_out ms) t ≡ true → slice_get ts t ≡ Some running
out_runs [] [] p t h = cc
out_runs [] (m ∷ ms) p t h = absurd p
out_runs (x ∷ ts) [] p t h = absurd p
out_runs (running ∷ ts) (m ∷ ms) p zero h = refl
out_runs (pending_on g ∷ ts) (m ∷ ms) p zero h = let b : is_here m ≡ true = out_here m h in let f : is_here m ≡ false = p.0 in cc
out_runs (ended ∷ ts) (m ∷ ms) p zero h = let b : is_here m ≡ true = out_here m h in let f : is_here m ≡ false = p.0 in cc
out_runs (x ∷ ts) (m ∷ ms) p (suc t) h = out_runs ts ms p.1 t h

-- who was out is ready
here_home : (m : Mark) → is_here (home m) ≡ is_here m
here_home Ready = refl
here_home Out = refl
here_home NotRunning = refl

placed_home : (ts : List PlainThread) (ms : List Mark) → Placed ts ms → Placed ts (map home ms)
placed_home [] [] p = tt
placed_home [] (m ∷ ms) p = absurd p
placed_home (x ∷ ts) [] p = absurd p
placed_home (x ∷ ts) (m ∷ ms) p = (here_home m ∙ p.0, placed_home ts ms p.1)

pub stands_home : (h : Kept) (ms : List Mark) (o : List Bool) (q : List Tid) → Stands h ms → Stands (record h { out = o; queue = q }) (map home ms)
stands_home h ms o q s = record {
  placed = placed_home h.course.world.threads ms s.placed;
  budgeted = s.budgeted;
  watched = s.watched;
  reported = s.reported;
}

pub none_out_home : (ms : List Mark) (t : ℕ) → is_out_of (map is_out (map home ms)) t ≡ false
none_out_home [] t = refl
none_out_home (Ready ∷ ms) zero = refl
none_out_home (Out ∷ ms) zero = refl
none_out_home (NotRunning ∷ ms) zero = refl
none_out_home (m ∷ ms) (suc t) = none_out_home ms t

-- what holds of the hub holds of it after, and who was out is ready, or nothing has changed
pub stands_called : {T E : Type 0} (h : Kept) (ms new : List Mark) (q : List Tid) (r : Result T E) → Stands h ms → OnOk r (new ≡ map home ms) → OnErr r (new ≡ ms)
    → Stands (record { course = h.course; budget = h.budget; watch = h.watch; out = map is_out new; queue = q; reports = h.reports }) new
stands_called h ms new q (Ok x) s o e = rw o (stands_home h ms (map is_out (map home ms)) q s)
stands_called h ms new q (Err x) s o e = rw e (record { placed = s.placed; budgeted = s.budgeted; watched = s.watched; reported = s.reported })

pub called_so : {T E : Type 0} (course : PlainCourse) (budget : ℕ) (watch : Option ℕ) (reports : List PlainReport) (ms new : List Mark) (p q : List Tid) (r : Result T E) → OnOk r (new ≡ map home ms)
    → OnOk r (q ≡ p ++ those_out 0 (map is_out ms))
    → OnOk r (CalledBack (record { course = course; budget = budget; watch = watch; out = map is_out ms; queue = p; reports = reports })
    (record { course = course; budget = budget; watch = watch; out = map is_out new; queue = q; reports = reports }))
called_so course budget watch reports ms new p q (Ok x) o e = record {
  queue = e;
  course = refl;
  budget = refl;
  watch = refl;
  reports = refl;
  none_out = λ t. rw o (none_out_home ms t);
}
called_so course budget watch reports ms new p q (Err x) o e = tt

-- some thread runs
runs_somewhere : (ts : List PlainThread) → list_any runs ts ≡ true → (t : ℕ) × (slice_get ts t ≡ Some running)
runs_somewhere [] h = cc
runs_somewhere (running ∷ ts) h = (0, refl)
runs_somewhere (pending_on g ∷ ts) h = let r = runs_somewhere ts h in (suc r.0, r.1)
runs_somewhere (ended ∷ ts) h = let r = runs_somewhere ts h in (suc r.0, r.1)

-- where no slice is out, and one of every thread that runs is, none runs
alone_idle : (a : Kept) (b : Bool) → NoneOut a → AllOut a → list_any runs a.course.world.threads ≡ b → b ≡ false
alone_idle a true n o e = let r = runs_somewhere a.course.world.threads e in let y = o r.0 r.1 in let z = n r.0 in absurd (cc)
alone_idle a false n o e = refl

pub alone_moved : (a b : Kept) (moved : Bool) → NoneOut a → AllOut a → MovedOn a moved b → GoesIfLeft a moved b
alone_moved a b true n o m = (
  m.5,
  record {
    item = m.0;
    tells = m.2;
    moves = m.3;
    none_out = λ t. rw m.4 (n t);
  },
)
alone_moved a b false n o m = (m.1 ∙ ap not (alone_idle a (any_runs a.course.world) n o refl), m.2)
