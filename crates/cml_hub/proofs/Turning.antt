-- A turn of a thread leads on.
use Rattle.std.proofs.Common.{◌≡◌, ℕ, ◌+◌, List, [], ◌∷◌, ◌++◌, map, refl, ap, subst, ◌∙◌, arith, Some, append-nil, length-append}
use Rattle.std.specs.Prelude.{slice_get, slice_set, option_map}
use Rattle.std.proofs.lemmas.List.Elements.{All-push}
use Rattle.std.proofs.lemmas.Option.{slice_get-map}
use Rattle.cml_value.specs.declared.number.Tid.{Tid}
use Rattle.cml_scan.specs.World.{PlainThread, running, pending_on, ended, PlainWorld}
use Rattle.cml_check.specs.Syntax.{PlainItem}
use Rattle.cml_check.specs.InOrder.{arities}
use Rattle.cml_step.specs.Answers.{top_await, await_of}
use Rattle.cml_step.specs.Asks.{PlainAsk}
use Rattle.cml_step.specs.Calls.{text_of}
use Rattle.cml_step.specs.Machines.{PlainMachine, machine_term, Fits}
use Rattle.cml_step.specs.Rans.{PlainRan, IsSlice}
use Rattle.cml_step.specs.Slices.{sliced}
use Rattle.cml_schedule.specs.declared.item.Item.{Item}
use Rattle.cml_schedule.specs.declared.item.Item.TheVariants.{Turn}
use Rattle.cml_schedule.specs.Laws.{IsNumber, IsWritable}
use Rattle.cml_hub.specs.declared.done.Done.{Done}
use Rattle.cml_hub.specs.declared.done.Done.TheVariants.{Goes, Gets, Takes, Spawns, Prints, Waits, Ends, Fails}
use Rattle.cml_hub.specs.Performed.{performed}
use Rattle.cml_hub.specs.Runs.{term_after, begun, output_of, advance}
use Rattle.cml_hub.specs.Dones.{plain_done, DoneFits, CanSettle, Settles, children, gone, ThreadsAfter, GoesOn}
use Rattle.cml_hub.specs.Settling.{AllSettled}
use Rattle.cml_hub.specs.Courses.{PlainCourse, run_of, MachineStands, MachinesStand, Leads, Turns}
use Rattle.cml_hub.proofs.Standing.{map_set, map_append, set_same, found_is, stand_set, stand_push, leads_on}
use Rattle.cml_hub.proofs.Performing.{ThreadsDone, Performs, performs}

-- the machine waits for the answer that it gets
pub can_settle : (p : List (PlainItem ℕ)) (a : PlainAsk) (end : PlainMachine) (d : Done) → Fits p end → top_await (machine_term p end) ≡ await_of a → DoneFits p a end d → CanSettle end d
can_settle p a end Goes f w h = tt
can_settle p a end (Gets v) f w h = (p, f, w ∙ h.0)
can_settle p a end (Takes room) f w h = h.1
can_settle p a end (Spawns m) f w h = (p, f, w ∙ h.0)
can_settle p a end Prints f w h = (p, f, w ∙ h)
can_settle p a end Waits f w h = tt
can_settle p a end Ends f w h = tt
can_settle p a end (Fails name) f w h = tt

-- who runs after it
pub threads_after : (t : ℕ) (a : PlainAsk) (d : Done) (old new : List PlainThread) → ThreadsDone t (plain_done a d) old new → ThreadsAfter t (gone d) old new
threads_after t a Goes old new h = h
threads_after t a (Gets v) old new h = h
threads_after t a (Takes room) old new h = h
threads_after t a (Spawns m) old new h = h
threads_after t a Prints old new h = h
threads_after t a Waits old new h = (pending_on h.0, refl, h.1)
threads_after t a Ends old new h = (ended, refl, h)
threads_after t a (Fails name) old new h = (ended, refl, h)

-- the terms of the threads that begin
children_begun : (p : List (PlainItem ℕ)) (a : PlainAsk) (end : PlainMachine) (d : Done) → DoneFits p a end d → map (machine_term p) (children d) ≡ begun (text_of p) (plain_done a d)
children_begun p a end Goes h = refl
children_begun p a end (Gets v) h = refl
children_begun p a end (Takes room) h = refl
children_begun p a end (Spawns m) h = ap (λ term. term ∷ []) h.1.term
children_begun p a end Prints h = refl
children_begun p a end Waits h = refl
children_begun p a end Ends h = refl
children_begun p a end (Fails name) h = refl

-- a thread that goes on
stays : (p : List (PlainItem ℕ)) (t : ℕ) (ts new : List PlainThread) (ms : List PlainMachine) (m : PlainMachine)
    → MachinesStand p 0 ts ms → slice_get ts t ≡ Some running → m.thread ≡ t → GoesOn p m → new ≡ ts
    → MachinesStand p 0 new (slice_set ms t m ++ [])
stays p t ts new ms m h run e s is =
    let q : MachinesStand p 0 (slice_set ts t running) (slice_set ms t m) = stand_set p 0 t ts ms running m h (omega (arith, e)) s in
    rw (is, append-nil (slice_set ms t m)) (subst (λ us. MachinesStand p 0 us (slice_set ms t m)) (set_same ts t running run) q)

-- one that does this from now on
becomes : (p : List (PlainItem ℕ)) (t : ℕ) (s : PlainThread) (ts new : List PlainThread) (ms : List PlainMachine)
    (m : PlainMachine) → MachinesStand p 0 ts ms → m.thread ≡ t → MachineStands p s m → new ≡ slice_set ts t s
    → MachinesStand p 0 new (slice_set ms t m ++ [])
becomes p t s ts new ms m h e stands is = rw (is, append-nil (slice_set ms t m)) (stand_set p 0 t ts ms s m h (omega (arith, e)) stands)

stands_after : (p : List (PlainItem ℕ)) (t : ℕ) (a : PlainAsk) (end m : PlainMachine) (d : Done)
    (ts new : List PlainThread) (ms : List PlainMachine) → MachinesStand p 0 ts ms → slice_get ts t ≡ Some running
    → m.thread ≡ t → Settles p a end d m → DoneFits p a end d → ThreadsDone t (plain_done a d) ts new → MachinesStand p 0 new (slice_set ms t m ++ children d)
stands_after p t a end m Goes ts new ms h run e s f done = stays p t ts new ms m h run e s.stands done
stands_after p t a end m (Gets v) ts new ms h run e s f done = stays p t ts new ms m h run e s.stands done
stands_after p t a end m (Takes room) ts new ms h run e s f done = stays p t ts new ms m h run e s.stands done
stands_after p t a end m (Spawns child) ts new ms h run e s f done =
    let q : MachinesStand p 0 (slice_set ts t running) (slice_set ms t m) = stand_set p 0 t ts ms running m h (omega (arith, e)) s.stands in
    let r : MachinesStand p 0 ts (slice_set ms t m) = subst (λ us. MachinesStand p 0 us (slice_set ms t m)) (set_same ts t running run) q in
    rw (done.1) (stand_push p 0 ts (slice_set ms t m) running child.value r (omega (arith, done.0)) (f.1.fits, f.1.awaits))
stands_after p t a end m Prints ts new ms h run e s f done = stays p t ts new ms m h run e s.stands done
stands_after p t a end m Waits ts new ms h run e s f done = becomes p t (pending_on done.0) ts new ms m h e s.stands done.1
stands_after p t a end m Ends ts new ms h run e s f done = becomes p t ended ts new ms m h e tt done
stands_after p t a end m (Fails name) ts new ms h run e s f done = becomes p t ended ts new ms m h e tt done

-- what a turn comes to, as the code finds it
pub record TurnDone (c : PlainCourse) (number : Tid) (start end : PlainMachine) (a : PlainAsk) (steps : ℕ) (d : Done) (w : PlainWorld) (line : List ℕ) (ms : List PlainMachine) : Type 0 where
  pub runs : slice_get c.world.threads number.0 ≡ Some running
  pub at : slice_get c.machines number.0 ≡ Some start
  pub slice : IsSlice (record { program = c.program; start = start; end = end; ask = a; steps = steps })
  pub done : performed c.world number.0 a ≡ (w, plain_done a d)
  pub fits : DoneFits c.program a end d
  pub tells : line ≡ output_of number.0 (plain_done a d)
  pub settled : AllSettled c.machines number.0 end d ms

-- the course after it
abbrev pub course_turned : PlainCourse → Tid → ℕ → PlainWorld → List ℕ → List PlainMachine → PlainCourse
course_turned c number steps w line ms = record {
  program = c.program;
  items = c.items ++ Turn number ∷ [];
  world = w;
  machines = ms;
  output = c.output ++ line;
  used = c.used + steps;
}

-- its terms
terms_settled : (p : List (PlainItem ℕ)) (t : ℕ) (a : PlainAsk) (end m : PlainMachine) (d : Done)
    (ms new : List PlainMachine) → Settles p a end d m → DoneFits p a end d → new ≡ slice_set ms t m ++ children d
    → slice_set (map (machine_term p) ms) t (term_after (text_of p) (machine_term p end) (plain_done a d)) ++ begun (text_of p) (plain_done a d) ≡ map (machine_term p) new
terms_settled p t a end m d ms new s f is =
    rw (is, map_append (machine_term p) (slice_set ms t m) (children d), map_set (machine_term p) ms t m, s.term, children_begun p a end d f) refl

turn_is : (c : PlainCourse) (number : Tid) (start end : PlainMachine) (a : PlainAsk) (steps : ℕ) (d : Done)
    (w : PlainWorld) (line : List ℕ) (ms : List PlainMachine) → Leads c
    → TurnDone c number start end a steps d w line ms
    → advance (text_of c.program) (run_of c) (Turn number) ≡ Some (run_of (course_turned c number steps w line ms))
turn_is c number start end a steps d w line ms h g =
    let p = text_of c.program in
    let f = machine_term c.program in
    let same : start.thread ≡ number.0 = (found_is c.program 0 number.0 c.world.threads c.machines running start h.machines g.runs g.at).0 ∙ omega arith in
    let slice : sliced p number.0 (f start) ≡ record { ask = a; end = f end; steps = steps } = rw same at g.slice.meant in
    let s = g.settled.settled c.program a g.slice.fits g.slice.awaits g.fits in
    let at : slice_get (map f c.machines) number.0 ≡ Some (f start) = slice_get-map f c.machines number.0 ∙ ap (option_map f) g.at in
    rw (g.runs, at, slice, g.done, g.tells, ← terms_settled c.program number.0 a end g.settled.machine d c.machines ms s g.fits g.settled.is) refl

pub turned_leads : (c : PlainCourse) (number : Tid) (start end : PlainMachine) (a : PlainAsk) (steps : ℕ) (d : Done)
    (w : PlainWorld) (line : List ℕ) (ms : List PlainMachine) → Leads c → IsNumber number.0
    → TurnDone c number start end a steps d w line ms
    → Leads (course_turned c number steps w line ms)
turned_leads c number start end a steps d w line ms h n g =
    let s = g.settled.settled c.program a g.slice.fits g.slice.awaits g.fits in
    let q : Performs (arities c.program) c.world number.0 (w, plain_done a d) = rw (g.done) at (performs (arities c.program) c.world number.0 a h.agrees g.slice.agrees) in
    let same : start.thread ≡ number.0 = (found_is c.program 0 number.0 c.world.threads c.machines running start h.machines g.runs g.at).0 ∙ omega arith in
    record {
      leads = leads_on (text_of c.program) c.items (Turn number) (run_of c) _ h.leads (turn_is c number start end a steps d w line ms h g);
      machines = rw (g.settled.is) (stands_after c.program number.0 a end g.settled.machine d c.world.threads w.threads
          c.machines h.machines g.runs (s.thread ∙ g.slice.thread ∙ same) s g.fits q.threads);
      agrees = q.agrees;
      spent = omega (arith, h.spent, g.slice.few, length-append c.items (Turn number ∷ []));
      writable = All-push IsWritable c.items (Turn number) h.writable n;
    }

pub turned_is : (c : PlainCourse) (number : Tid) (start end : PlainMachine) (a : PlainAsk) (steps : ℕ) (d : Done)
    (w : PlainWorld) (line : List ℕ) (ms : List PlainMachine) → Leads c
    → TurnDone c number start end a steps d w line ms
    → Turns c number (gone d) (course_turned c number steps w line ms)
turned_is c number start end a steps d w line ms h g =
    let q : Performs (arities c.program) c.world number.0 (w, plain_done a d) = rw (g.done) at (performs (arities c.program) c.world number.0 a h.agrees g.slice.agrees) in
    record {
      adds = record { program = refl; items = refl; run = turn_is c number start end a steps d w line ms h g };
      threads = threads_after number.0 a d c.world.threads w.threads q.threads;
      used = omega (arith, g.slice.some);
    }

-- a slice of this very program
pub slice_here : (p : List (PlainItem ℕ)) (ran : PlainRan) → ran.program ≡ p → IsSlice ran → IsSlice (record { program = p; start = ran.start; end = ran.end; ask = ran.ask; steps = ran.steps })
slice_here p ran e h = record {
  meant = rw (← e) h.meant;
  some = h.some;
  few = h.few;
  thread = h.thread;
  fits = rw (← e) h.fits;
  awaits = rw (← e) h.awaits;
  agrees = rw (← e) h.agrees;
}

-- the same of a course that is made of what the code's steps give
module _ (c : PlainCourse) (number : Tid) (start end : PlainMachine) (a : PlainAsk) (steps : ℕ) (d : Done)
    (w : PlainWorld) (line : List ℕ) (ms : List PlainMachine) (items : List Item) (output : List ℕ) (used : ℕ)
    (is_items : items ≡ c.items ++ Turn number ∷ []) (is_output : output ≡ c.output ++ line) (is_used : used ≡ c.used + steps) where
  pub turned_leads_at : Leads c → IsNumber number.0 → TurnDone c number start end a steps d w line ms
      → Leads (record { program = c.program; items = items; world = w; machines = ms; output = output; used = used })
  turned_leads_at h n g = rw (is_items, is_output, is_used) (turned_leads c number start end a steps d w line ms h n g)

  pub turned_is_at : Leads c → TurnDone c number start end a steps d w line ms
      → Turns c number (gone d) (record { program = c.program; items = items; world = w; machines = ms; output = output; used = used })
  turned_is_at h g = rw (is_items, is_output, is_used) (turned_is c number start end a steps d w line ms h g)
