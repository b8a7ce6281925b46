-- The marks stand as the threads do, whatever changes; and whose slices are out.
use Rattle.std.proofs.Common.{◌≡◌, ◌≢◌, ℕ, zero, suc, ◌<◌, Bool, true, false, List, [], ◌∷◌, ◌++◌, length, map, refl, ap, sym, subst, ◌∙◌, arith, Some}
use Rattle.std.specs.Prelude.{slice_get, slice_set, unwrap_or}
use Rattle.std.specs.List.{list_any}
use Rattle.std.proofs.lemmas.Option.{slice_get_within}
use Rattle.cml_value.specs.Group.{PlainGroup}
use Rattle.cml_scan.specs.World.{PlainThread, running, pending_on, ended, PlainWorld}
use Rattle.cml_scan.specs.declared.meet.Meet.{Meet}
use Rattle.cml_scan.specs.declared.meet.Meet.TheVariants.{Single, Pair}
use Rattle.cml_book.specs.Walks.{runs}
use Rattle.cml_hub.specs.declared.done.AfterTurn.{AfterTurn}
use Rattle.cml_hub.specs.declared.done.AfterTurn.TheVariants as gone_of
use Rattle.cml_hub.specs.declared.ready_queue.Mark.{Mark}
use Rattle.cml_hub.specs.declared.ready_queue.Mark.TheVariants.{Ready, Out, NotRunning}
use Rattle.cml_hub.specs.ReadyQueue.{is_here, is_out}
use Rattle.cml_hub.specs.Dones.{ThreadsAfter}
use Rattle.cml_hub.specs.Courses.{PartiesWait, parties_run}
use Rattle.cml_hub.specs.Kept.{Placed, is_out_of}
use Rattle.cml_hub.specs.Moves.{IsNext, marks_after, PartiesAway, marks_met, TakesBack}
use Rattle.cml_hub.proofs.Standing.{map_set, map_append, set_same, get_other}

pub placed_length : (ts : List PlainThread) (ms : List Mark) → Placed ts ms → length ms ≡ length ts
placed_length [] [] h = refl
placed_length [] (m ∷ ms) h = absurd h
placed_length (t ∷ ts) [] h = absurd h
placed_length (t ∷ ts) (m ∷ ms) h = omega (arith, placed_length ts ms h.1)

-- the mark of a thread that is there
pub record MarkOf (t : PlainThread) (ms : List Mark) (i : ℕ) : Type 0 where
  pub mark : Mark
  pub at : slice_get ms i ≡ Some mark
  pub here : is_here mark ≡ runs t

pub mark_of : (ts : List PlainThread) (ms : List Mark) (i : ℕ) (t : PlainThread) → Placed ts ms → slice_get ts i ≡ Some t → MarkOf t ms i
mark_of [] ms i t h e = absurd (cc)
mark_of (x ∷ ts) [] i t h e = absurd h
mark_of (x ∷ ts) (m ∷ ms) zero t h e = let is : x ≡ t = cc in record { mark = m; at = refl; here = h.0 ∙ ap runs is }
mark_of (x ∷ ts) (m ∷ ms) (suc i) t h e = let r = mark_of ts ms i t h.1 e in record { mark = r.mark; at = r.at; here = r.here }

-- the thread of a mark that is there
pub record ThreadOf (m : Mark) (ts : List PlainThread) (i : ℕ) : Type 0 where
  pub thread : PlainThread
  pub at : slice_get ts i ≡ Some thread
  pub here : is_here m ≡ runs thread

pub thread_of : (ts : List PlainThread) (ms : List Mark) (i : ℕ) (m : Mark) → Placed ts ms → slice_get ms i ≡ Some m → ThreadOf m ts i
thread_of ts [] i m h e = absurd (cc)
thread_of [] (x ∷ ms) i m h e = absurd h
thread_of (t ∷ ts) (x ∷ ms) zero m h e = let is : x ≡ m = cc in record { thread = t; at = refl; here = ap is_here (sym is) ∙ h.0 }
thread_of (t ∷ ts) (x ∷ ms) (suc i) m h e = let r = thread_of ts ms i m h.1 e in record { thread = r.thread; at = r.at; here = r.here }

pub placed_set : (ts : List PlainThread) (ms : List Mark) (i : ℕ) (t : PlainThread) (m : Mark) → Placed ts ms → is_here m ≡ runs t → Placed (slice_set ts i t) (slice_set ms i m)
placed_set [] [] i t m h e = tt
placed_set [] (x ∷ ms) i t m h e = absurd h
placed_set (y ∷ ts) [] i t m h e = absurd h
placed_set (y ∷ ts) (x ∷ ms) zero t m h e = (e, h.1)
placed_set (y ∷ ts) (x ∷ ms) (suc i) t m h e = (h.0, placed_set ts ms i t m h.1 e)

pub placed_push : (ts : List PlainThread) (ms : List Mark) → Placed ts ms → Placed (ts ++ running ∷ []) (ms ++ Ready ∷ [])
placed_push [] [] h = (refl, tt)
placed_push [] (x ∷ ms) h = absurd h
placed_push (y ∷ ts) [] h = absurd h
placed_push (y ∷ ts) (x ∷ ms) h = (h.0, placed_push ts ms h.1)

-- another mark of a thread that stays as it is
pub placed_kept : (ts : List PlainThread) (ms : List Mark) (i : ℕ) (t : PlainThread) (m : Mark) → Placed ts ms → slice_get ts i ≡ Some t → is_here m ≡ runs t → Placed ts (slice_set ms i m)
placed_kept ts ms i t m h e here = subst (λ xs. Placed xs (slice_set ms i m)) (set_same ts i t e) (placed_set ts ms i t m h here)

-- some thread is here where some thread runs
pub placed_any : (ts : List PlainThread) (ms : List Mark) → Placed ts ms → list_any is_here ms ≡ list_any runs ts
placed_any [] [] h = refl
placed_any [] (m ∷ ms) h = absurd h
placed_any (t ∷ ts) [] h = absurd h
placed_any (t ∷ ts) (m ∷ ms) h = rw (h.0, placed_any ts ms h.1) refl

away_is : (m : Mark) → is_here m ≡ false → m ≡ NotRunning
away_is Ready h = cc
away_is Out h = cc
away_is NotRunning h = refl

out_is : (m : Mark) → is_here m ≡ true → m ≢ Ready → m ≡ Out
out_is Ready h other = absurd (other refl)
out_is Out h other = refl
out_is NotRunning h other = cc

running_thread : (t : PlainThread) → runs t ≡ true → t ≡ running
running_thread running h = refl
running_thread (pending_on g) h = cc
running_thread ended h = cc

-- a thread that waits is away
pub pending_away : (ts : List PlainThread) (ms : List Mark) (i : ℕ) (g : PlainGroup) → Placed ts ms → slice_get ts i ≡ Some (pending_on g) → slice_get ms i ≡ Some NotRunning
pending_away ts ms i g h e =
    let r = mark_of ts ms i (pending_on g) h e in
    r.at ∙ ap (λ m. Some m) (away_is r.mark r.here)

-- a thread that is ready runs
pub ready_running : (ts : List PlainThread) (ms : List Mark) (i : ℕ) → Placed ts ms → slice_get ms i ≡ Some Ready → slice_get ts i ≡ Some running
ready_running ts ms i h e =
    let r = thread_of ts ms i Ready h e in
    r.at ∙ ap (λ t. Some t) (running_thread r.thread (sym r.here))

-- a turn of a thread
pub placed_turn : (ts new : List PlainThread) (ms : List Mark) (t : ℕ) (g : AfterTurn) → Placed ts ms → slice_get ts t ≡ Some running → ThreadsAfter t g ts new → Placed new (marks_after t g ms)
placed_turn ts new ms t gone_of.On h run after = subst (λ xs. Placed xs (slice_set ms t Ready)) (sym after) (placed_kept ts ms t running Ready h run refl)
placed_turn ts new ms t (gone_of.With child) h run after =
    subst (λ xs. Placed xs (slice_set ms t Ready ++ Ready ∷ [])) (sym after.1) (placed_push ts (slice_set ms t Ready) (placed_kept ts ms t running Ready h run refl))
placed_turn ts new ms t gone_of.Off h run after =
    subst (λ xs. Placed xs (slice_set ms t NotRunning)) (sym after.2) (placed_set ts ms t after.0 NotRunning h (sym after.1))

pub next_is : (ts new : List PlainThread) (ms : List Mark) (t : ℕ) (g : AfterTurn) → Placed ts ms → ThreadsAfter t g ts new → IsNext g ms
next_is ts new ms t gone_of.On h after = tt
next_is ts new ms t (gone_of.With child) h after = after.0 ∙ sym (placed_length ts ms h)
next_is ts new ms t gone_of.Off h after = tt

pub there_is : (ts : List PlainThread) (ms : List Mark) (t : ℕ) → Placed ts ms → slice_get ts t ≡ Some running → t < length ms
there_is ts ms t h run = omega (arith, slice_get_within ts t running run, placed_length ts ms h)

-- a row that is taken
pub placed_met : (ts : List PlainThread) (ms : List Mark) (row : Meet) → Placed ts ms → Placed (parties_run row ts) (marks_met row ms)
placed_met ts ms (Single t n) h = placed_set ts ms t.0 running Ready h refl
placed_met ts ms (Pair a i o j) h = placed_set (slice_set ts a.0 running) (slice_set ms a.0 Ready) o.0 running Ready (placed_set ts ms a.0 running Ready h refl) refl

pub parties_away : (w : PlainWorld) (ms : List Mark) (row : Meet) → Placed w.threads ms → PartiesWait w row → PartiesAway ms row
parties_away w ms (Single t n) h p = pending_away w.threads ms t.0 p.0 h p.1
parties_away w ms (Pair a i o j) h p = (pending_away w.threads ms a.0 p.0.0 h p.0.1, pending_away w.threads ms o.0 p.1.0 h p.1.1, p.2)

-- the marks of two, one after the other
pub away_still : (ms : List Mark) (a o : ℕ) → a ≢ o → slice_get ms o ≡ Some NotRunning → slice_get (slice_set ms a Ready) o ≡ Some NotRunning
away_still ms a o ne h = get_other ms a o Ready ne ∙ h

-- whose slices are out
pub not_out : (out : List Bool) (t : ℕ) → is_out_of (slice_set out t false) t ≡ false
not_out [] t = refl
not_out (b ∷ out) zero = refl
not_out (b ∷ out) (suc t) = not_out out t

pub out_other : (out : List Bool) (t u : ℕ) (b : Bool) → u ≢ t → is_out_of (slice_set out t b) u ≡ is_out_of out u
out_other out t u b ne = ap (λ o. unwrap_or o false) (get_other out t u b (λ e. ne (sym e)))

pub out_push : (out : List Bool) (u : ℕ) → is_out_of (out ++ false ∷ []) u ≡ is_out_of out u
out_push [] zero = refl
out_push [] (suc u) = refl
out_push (b ∷ out) zero = refl
out_push (b ∷ out) (suc u) = out_push out u

pub out_at : (ms : List Mark) (t : ℕ) (m : Mark) → slice_get ms t ≡ Some m → is_out_of (map is_out ms) t ≡ is_out m
out_at [] t m h = absurd (cc)
out_at (x ∷ ms) zero m h = let is : x ≡ m = cc in ap is_out is
out_at (x ∷ ms) (suc t) m h = out_at ms t m h

set_back : (ms : List Mark) (t : ℕ) (m : Mark) → is_out m ≡ false → TakesBack (map is_out ms) t (map is_out (slice_set ms t m))
set_back ms t m e = record {
  back = rw (map_set is_out ms t m, e) (not_out (map is_out ms) t);
  others = λ u ne. rw (map_set is_out ms t m) (out_other (map is_out ms) t u (is_out m) ne);
}

back_push : (old out : List Bool) (t : ℕ) → TakesBack old t out → TakesBack old t (out ++ false ∷ [])
back_push old out t h = record {
  back = out_push out t ∙ h.back;
  others = λ u ne. out_push out u ∙ h.others u ne;
}

pub takes_back : (ms : List Mark) (t : ℕ) (g : AfterTurn) → TakesBack (map is_out ms) t (map is_out (marks_after t g ms))
takes_back ms t gone_of.On = set_back ms t Ready refl
takes_back ms t (gone_of.With child) = rw (map_append is_out (slice_set ms t Ready) (Ready ∷ [])) (back_push (map is_out ms) (map is_out (slice_set ms t Ready)) t (set_back ms t Ready refl))
takes_back ms t gone_of.Off = set_back ms t NotRunning refl

away_set : (ms : List Mark) (i : ℕ) → slice_get ms i ≡ Some NotRunning → map is_out (slice_set ms i Ready) ≡ map is_out ms
away_set [] i h = refl
away_set (m ∷ ms) zero h = let is : m ≡ NotRunning = cc in ap (λ b. b ∷ map is_out ms) (sym (ap is_out is))
away_set (m ∷ ms) (suc i) h = ap (λ bs. is_out m ∷ bs) (away_set ms i h)

-- nobody whose slice is out goes on by a row
pub out_met : (ms : List Mark) (row : Meet) → PartiesAway ms row → map is_out (marks_met row ms) ≡ map is_out ms
out_met ms (Single t n) p = away_set ms t.0 p
out_met ms (Pair a i o j) p = away_set (slice_set ms a.0 Ready) o.0 (away_still ms a.0 o.0 p.2 p.1) ∙ away_set ms a.0 p.0

-- where none is ready, a slice of each that runs is out
pub all_out : (ts : List PlainThread) (ms : List Mark) (t : ℕ) → Placed ts ms → slice_get ms t ≢ Some Ready → slice_get ts t ≡ Some running → is_out_of (map is_out ms) t ≡ true
all_out ts ms t h none run =
    let r = mark_of ts ms t running h run in
    let other : r.mark ≢ Ready = λ e. none (r.at ∙ ap (λ m. Some m) e) in
    out_at ms t r.mark r.at ∙ ap is_out (out_is r.mark r.here other)

-- a thread that was taken out of its place, and is put back
pub there_away : (ms : List Mark) (t : ℕ) → t < length ms → slice_get (slice_set ms t NotRunning) t ≡ Some NotRunning
there_away [] t h = absurd (omega arith)
there_away (m ∷ ms) zero h = refl
there_away (m ∷ ms) (suc t) h = there_away ms t (omega arith)

pub pushed_away : (ms : List Mark) (t : ℕ) → t < length ms → slice_get (slice_set ms t NotRunning ++ Ready ∷ []) t ≡ Some NotRunning
pushed_away [] t h = absurd (omega arith)
pushed_away (m ∷ ms) zero h = refl
pushed_away (m ∷ ms) (suc t) h = pushed_away ms t (omega arith)

pub set_pushed : (ms : List Mark) (t : ℕ) → t < length ms → slice_set (slice_set ms t NotRunning ++ Ready ∷ []) t Ready ≡ slice_set ms t Ready ++ Ready ∷ []
set_pushed [] t h = absurd (omega arith)
set_pushed (m ∷ ms) zero h = refl
set_pushed (m ∷ ms) (suc t) h = ap (λ xs. m ∷ xs) (set_pushed ms t (omega arith))

pub marks_length : (ms : List Mark) (t : ℕ) (m : Mark) → length (slice_set ms t m) ≡ length ms
marks_length [] t m = refl
marks_length (x ∷ ms) zero m = refl
marks_length (x ∷ ms) (suc t) m = ap suc (marks_length ms t m)
