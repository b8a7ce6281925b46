-- A turn that a trail has taken and added.
use Rattle.std.proofs.Common.{◌≡◌, ℕ, ◌+◌, ◌*◌, ◌<◌, ◌≤◌, List, length, refl, ap, subst, ◌∙◌, arith, Some, Ok, Err, length-set}
use Rattle.std.specs.Prelude.{Result, IfOk, OnErr, slice_get, slice_set}
use Rattle.std.specs.String.{string_bytes, string_len, string_capacity}
use Rattle.std.specs.declared.alloc.AllocError.{AllocError}
use Rattle.cml_value.specs.declared.number.Tid.{Tid}
use Rattle.cml_scan.specs.World.{PlainWorld, running}
use Rattle.cml_check.specs.Syntax.{PlainItem}
use Rattle.cml_schedule.specs.Laws.{IsNumber}
use Rattle.cml_step.specs.Asks.{PlainAsk}
use Rattle.cml_step.specs.Calls.{text_of}
use Rattle.cml_step.specs.Machines.{PlainMachine}
use Rattle.cml_step.specs.Rans.{PlainRan, IsSlice}
use Rattle.cml_hub.specs.declared.trail.Trail.{Trail}
use Rattle.cml_hub.specs.declared.turn.TurnMade.{TurnMade}
use Rattle.cml_hub.specs.Asking.{IsPrepared}
use Rattle.cml_hub.specs.Courses.{Leads, Turns, HasMachine}
use Rattle.cml_hub.specs.Deeds.{IsKnown}
use Rattle.cml_hub.specs.Dones.{CanSettle, gone}
use Rattle.cml_hub.specs.Trails.{course_of, KeepsTrail, HasTurnRoom, HasRoomFor, IsTurnMade, AddsTurn}
use Rattle.cml_hub.proofs.DeedLemmas.{turned_known, faults_few}
use Rattle.cml_hub.proofs.Settled.{set_there, settled_over}
use Rattle.cml_hub.proofs.Standing.{set_same}
use Rattle.cml_hub.proofs.Turning.{can_settle, TurnDone, turned_leads_at, turned_is_at, slice_here}

-- nothing was added
pub kept_course : (p : List (PlainItem ℕ)) (w : PlainWorld) (old new : Trail) → KeepsTrail old old.machines.items new → course_of p w new ≡ course_of p w old
kept_course p w old new k = rw (k.items, k.machines, k.output, k.used) refl

pub kept_known : (p : List (PlainItem ℕ)) (old new : Trail) (ms : List PlainMachine) → KeepsTrail old ms new
    → IsKnown (text_of p) old.items.items old.deeds.origins.items old.deeds.faults → IsKnown (text_of p) new.items.items new.deeds.origins.items new.deeds.faults
kept_known p old new ms k h = rw (k.items, k.origins, k.faults) h

-- so the numbers stay as small as they were
pub kept_used : (p : List (PlainItem ℕ)) (w : PlainWorld) (old new : Trail) (ms : List PlainMachine) → KeepsTrail old ms new → Leads (course_of p w old) → new.used ≤ 1000 * length new.items.items
kept_used p w old new ms k h = omega (arith, h.spent, k.used, ap length k.items)

pub kept_few : (p : List (PlainItem ℕ)) (old new : Trail) (ms : List PlainMachine) → KeepsTrail old ms new
    → IsKnown (text_of p) old.items.items old.deeds.origins.items old.deeds.faults → new.deeds.faults ≤ length new.items.items
kept_few p old new ms k h = omega (arith, faults_few (text_of p) old.items.items old.deeds.origins.items old.deeds.faults h, k.faults, ap length k.items)

-- the thread's machine is still there
pub there_still : (ms new : List PlainMachine) (t : ℕ) (end : PlainMachine) → new ≡ slice_set ms t end → t < length ms → t < length new
there_still ms new t end e lt = omega (arith, lt, ap length e, length-set ms t end)

-- what was put there is what is there
pub put_settles : (ms new : List PlainMachine) (t : ℕ) (end : PlainMachine) (P : PlainMachine → Type 0) → new ≡ slice_set ms t end → t < length ms → P end
    → (m : PlainMachine) → slice_get new t ≡ Some m → P m
put_settles ms new t end P e lt h m is =
    let at = set_there ms t end lt in
    let there = rw e at is in
    let same : end ≡ m = cc in
    subst P same h

-- a turn of the same trail with another machine of the thread, which is answered in its place
pub added_over : (old between new : Trail) (thread : Tid) (end : PlainMachine) (a : PlainAsk) (m : TurnMade)
    → KeepsTrail old (slice_set old.machines.items thread.0 end) between → AddsTurn between thread end a m new → AddsTurn old thread end a m new
added_over old between new thread end a m k h = record {
  items = rw (k.items) at h.items;
  machines = settled_over old.machines.items thread.0 end m.prepared.done new.machines.items (rw (k.machines) at h.machines);
  output = rw (k.output) at h.output;
  used = rw (k.used) at h.used;
  origins = rw (k.origins) at h.origins;
  faults = rw (k.faults) at h.faults;
}

-- a turn of the same trail
added_same : (old between new : Trail) (thread : Tid) (end : PlainMachine) (a : PlainAsk) (m : TurnMade)
    → KeepsTrail old old.machines.items between → AddsTurn between thread end a m new → AddsTurn old thread end a m new
added_same old between new thread end a m k h = record {
  items = rw (k.items) at h.items;
  machines = rw (k.machines) at h.machines;
  output = rw (k.output) at h.output;
  used = rw (k.used) at h.used;
  origins = rw (k.origins) at h.origins;
  faults = rw (k.faults) at h.faults;
}

-- a turn that was taken and added: what it came to, and what was added for it
pub record Added (p : List (PlainItem ℕ)) (w : PlainWorld) (old : Trail) (thread : Tid) (m : TurnMade) (v : PlainWorld) (new : Trail) : Type 0 where
  pub start : PlainMachine
  pub end : PlainMachine
  pub ask : PlainAsk
  pub done : TurnDone (course_of p w old) thread start end ask m.steps m.prepared.done v (string_bytes m.prepared.line) new.machines.items
  pub adds : AddsTurn old thread end ask m new

pub added_leads : (p : List (PlainItem ℕ)) (w v : PlainWorld) (old new : Trail) (thread : Tid) (m : TurnMade) → Leads (course_of p w old) → IsNumber thread.0
    → Added p w old thread m v new → Leads (course_of p v new)
added_leads p w v old new thread m h n g =
    turned_leads_at (course_of p w old) thread g.start g.end g.ask m.steps m.prepared.done v (string_bytes m.prepared.line) new.machines.items
    new.items.items (string_bytes new.output) new.used g.adds.items g.adds.output g.adds.used h n g.done

pub added_known : (p : List (PlainItem ℕ)) (w v : PlainWorld) (old new : Trail) (thread : Tid) (m : TurnMade) → Leads (course_of p w old)
    → IsKnown (text_of p) old.items.items old.deeds.origins.items old.deeds.faults → Added p w old thread m v new
    → IsKnown (text_of p) new.items.items new.deeds.origins.items new.deeds.faults
added_known p w v old new thread m h k g =
    turned_known (course_of p w old) thread g.start g.end g.ask m.steps m.prepared.done v (string_bytes m.prepared.line) new.machines.items
    new.items.items old.deeds.origins.items new.deeds.origins.items old.deeds.faults new.deeds.faults h g.done g.adds.items g.adds.origins g.adds.faults k

pub added_turns : (p : List (PlainItem ℕ)) (w v : PlainWorld) (old new : Trail) (thread : Tid) (m : TurnMade) → Leads (course_of p w old)
    → Added p w old thread m v new → Turns (course_of p w old) thread (gone m.prepared.done) (course_of p v new)
added_turns p w v old new thread m h g =
    turned_is_at (course_of p w old) thread g.start g.end g.ask m.steps m.prepared.done v (string_bytes m.prepared.line) new.machines.items
    new.items.items (string_bytes new.output) new.used g.adds.items g.adds.output g.adds.used h g.done

-- a turn of a machine where it stands
pub turn_added : (p : List (PlainItem ℕ)) (w v : PlainWorld) (old between new : Trail) (thread : Tid) (a : PlainAsk) (m : TurnMade)
    → slice_get w.threads thread.0 ≡ Some running → thread.0 < length old.machines.items → IsTurnMade p thread.0 a old w m between v
    → ((end : PlainMachine) → slice_get between.machines.items thread.0 ≡ Some end → AddsTurn between thread end a m new)
    → Added p w old thread m v new
turn_added p w v old between new thread a m run lt t adds =
    let there : slice_get between.machines.items thread.0 ≡ Some t.end = rw (t.keeps.machines) (set_there old.machines.items thread.0 t.end lt) in
    let added : AddsTurn old thread t.end a m new = added_over old between new thread t.end a m t.keeps (adds t.end there) in
    record {
      start = t.start;
      end = t.end;
      ask = a;
      done = record { runs = run; at = t.at; slice = t.slice; done = t.done.performed; fits = t.done.fits; tells = t.done.line; settled = added.machines };
      adds = added;
    }

-- a turn of a slice that was run elsewhere
pub slice_added : (p : List (PlainItem ℕ)) (w v : PlainWorld) (old between new : Trail) (thread : Tid) (ran : PlainRan) (m : TurnMade)
    → thread.0 ≡ ran.start.thread → ran.program ≡ p → HasMachine (course_of p w old) ran.start.thread ran.start → IsSlice ran → m.steps ≡ ran.steps
    → IsPrepared p ran.start.thread ran.ask ran.end w v m.prepared → KeepsTrail old old.machines.items between → AddsTurn between thread ran.end ran.ask m new
    → Added p w old thread m v new
slice_added p w v old between new thread ran m e program own slice steps done k adds =
    let added : AddsTurn old thread ran.end ran.ask m new = added_same old between new thread ran.end ran.ask m k adds in
    record {
      start = ran.start;
      end = ran.end;
      ask = ran.ask;
      done = record {
        runs = rw e own.running;
        at = rw e own.machine;
        slice = rw steps (slice_here p ran program slice);
        done = rw e done.performed;
        fits = done.fits;
        tells = rw e done.line;
        settled = added.machines;
      };
      adds = added;
    }

-- the machine of a turn that was taken can be answered
pub taken_settles : (p : List (PlainItem ℕ)) (t : ℕ) (a : PlainAsk) (old : Trail) (w : PlainWorld) (m : TurnMade) (new : Trail) (v : PlainWorld)
    → t < length old.machines.items → IsTurnMade p t a old w m new v → (end : PlainMachine) → slice_get new.machines.items t ≡ Some end → CanSettle end m.prepared.done
taken_settles p t a old w m new v lt h =
    put_settles old.machines.items new.machines.items t h.end (λ x. CanSettle x m.prepared.done) h.keeps.machines lt
    (can_settle p a h.end m.prepared.done h.slice.fits h.slice.awaits h.done.fits)

-- and so can that of a slice
pub slice_settles : (p : List (PlainItem ℕ)) (t : ℕ) (w v : PlainWorld) (ran : PlainRan) (m : TurnMade) → ran.program ≡ p → IsSlice ran
    → IsPrepared p t ran.ask ran.end w v m.prepared → CanSettle ran.end m.prepared.done
slice_settles p t w v ran m program slice done =
    let here = slice_here p ran program slice in
    can_settle p ran.ask ran.end m.prepared.done here.fits here.awaits done.fits

-- What a slice and the book came to, as one fact.
pub taken_is : (r : Result TurnMade AllocError) (p : List (PlainItem ℕ)) (t : ℕ) (a : PlainAsk) (old new : Trail) (w v : PlainWorld) (start end : PlainMachine)
    → slice_get old.machines.items t ≡ Some start → KeepsTrail old (slice_set old.machines.items t end) new
    → IfOk r (λ m. IsSlice (record { program = p; start = start; end = end; ask = a; steps = m.steps })) → IfOk r (λ m. IsPrepared p t a end w v m.prepared)
    → IfOk r (λ m. IsTurnMade p t a old w m new v)
taken_is (Ok m) p t a old new w v start end at k slice done = record { start = start; end = end; at = at; slice = slice; done = done; keeps = k }
taken_is (Err why) p t a old new w v start end at k slice done = tt

pub room_is : (r : Result TurnMade AllocError) (t : Trail) → HasTurnRoom t → IfOk r (λ m. string_len t.output + length (string_bytes m.prepared.line) ≤ string_capacity t.output)
    → IfOk r (λ m. HasRoomFor t (string_bytes m.prepared.line))
room_is (Ok m) t h fits = record { lists = h; output = fits }
room_is (Err why) t h fits = tt

-- where memory ran out, the machine is the one that was there
pub kept_still : (r : Result TurnMade AllocError) (old new : Trail) (t : ℕ) (w v : PlainWorld) (start end : PlainMachine)
    → slice_get old.machines.items t ≡ Some start → KeepsTrail old (slice_set old.machines.items t end) new → OnErr r ((end ≡ start) × (v ≡ w))
    → OnErr r (KeepsTrail old old.machines.items new × (v ≡ w))
kept_still (Ok m) old new t w v start end at k h = tt
kept_still (Err why) old new t w v start end at k h = (
  record {
    items = k.items;
    machines = k.machines ∙ (ap (λ m. slice_set old.machines.items t m) h.0 ∙ set_same old.machines.items t start at);
    output = k.output;
    used = k.used;
    origins = k.origins;
    faults = k.faults;
  },
  h.1,
)
