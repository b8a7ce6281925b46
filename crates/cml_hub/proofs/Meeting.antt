-- A row that is taken, and a time that moves, lead on.
use Rattle.std.proofs.Common.{◌≡◌, ◌≢◌, inl, inr, ℕ, ◌+◌, ◌<◌, true, List, [], ◌∷◌, ◌++◌, map, refl, ap, sym, ◌∙◌, arith, Option, Some, None, Ok, Err, length-append}
use Rattle.std.specs.Prelude.{slice_get, slice_set, option_map}
use Rattle.std.proofs.lemmas.Bool.{and_parts, and_from}
use Rattle.std.proofs.lemmas.Option.{slice_get-map}
use Rattle.std.proofs.lemmas.List.Elements.{All-push}
use Rattle.cml_value.specs.declared.number.Tid.{Tid}
use Rattle.cml_value.specs.Value.{PlainBase}
use Rattle.cml_value.specs.Group.{PlainGroup}
use Rattle.cml_scan.specs.World.{PlainThread, running, pending_on, ended, PlainWorld}
use Rattle.cml_scan.specs.Scan.{scan, has_row}
use Rattle.cml_scan.specs.Enabled.{leaf_of, IsEnabled}
use Rattle.cml_scan.specs.declared.meet.Meet.{Meet}
use Rattle.cml_scan.specs.declared.meet.Meet.TheVariants.{Single, Pair}
use Rattle.cml_check.specs.Syntax.{PlainItem}
use Rattle.cml_check.specs.InOrder.{arities}
use Rattle.cml_step.specs.Calls.{text_of}
use Rattle.cml_step.specs.Machines.{PlainMachine, machine_term, Fits}
use Rattle.cml_step.specs.Terms.{Program}
use Rattle.cml_book.specs.Commit.{commit, hands, after, base_awaited, resume}
use Rattle.cml_objects.specs.Handed.{handed}
use Rattle.cml_book.specs.Swaps.{are_swaps}
use Rattle.cml_book.specs.Resumes.{PlainResume}
use Rattle.cml_book.specs.declared.command.Committed.{Committed}
use Rattle.cml_book.specs.declared.refusal.Refusal.{Refusal}
use Rattle.cml_book.proofs.Dimmed.{taken-threads}
use Rattle.cml_schedule.specs.declared.item.Item.{Item}
use Rattle.cml_schedule.specs.declared.item.Item.TheVariants.{Turn, Meet as Commit, Exchange, Clock}
use Rattle.cml_schedule.specs.Laws.{AreNumbers, IsPair, IsWritable}
use Rattle.cml_hub.specs.Runs.{Run, resumed, all_resumed, met, advance, after_item, is_allowed}
use Rattle.cml_hub.specs.Agreeing.{WorldAgrees, ResumeAgrees}
use Rattle.cml_hub.specs.Settling.{Resumes, Resumed, AllResumed, AllResume}
use Rattle.cml_hub.specs.Courses.{PlainCourse, run_of, MachinesStand, Leads, IsPending, PartiesWait, parties_run, TakesRow, Meets}
use Rattle.cml_hub.proofs.Agreement.{after_agrees, hands_agrees}
use Rattle.cml_hub.proofs.Ticking.{may_come}
use Rattle.cml_hub.proofs.Standing.{map_set, found, found_is, stand_set, leads_on, get_other}

waits_at : (o : Option PlainThread) (n : ℕ) (b : PlainBase) → leaf_of o n ≡ Some b → (g : PlainGroup) × (o ≡ Some (pending_on g))
waits_at None n b h = absurd (cc)
waits_at (Some running) n b h = absurd (cc)
waits_at (Some (pending_on g)) n b h = (g, refl)
waits_at (Some ended) n b h = absurd (cc)

below : (m n : ℕ) → m < n → m ≢ n
below m n less same = absurd (omega (arith, less, same))

-- the parties of a row that can be taken wait
pub parties_wait : (w : PlainWorld) (row : Meet) → IsEnabled w row → PartiesWait w row
parties_wait w (Single t n) h = waits_at (slice_get w.threads t.0) n h.0 h.1
parties_wait w (Pair a i o j) (inl h) = (waits_at (slice_get w.threads a.0) i _ h.2, waits_at (slice_get w.threads o.0) j _ h.3, h.4)
parties_wait w (Pair a i o j) (inr h) = (waits_at (slice_get w.threads a.0) i _ h.3, waits_at (slice_get w.threads o.0) j _ h.4, below a.0 o.0 h.5)

after_threads : (w : PlainWorld) (row : Meet) → (after w row).threads ≡ parties_run row w.threads
after_threads w (Single t n) = ap (λ ts. slice_set ts t.0 running) (taken-threads w (base_awaited w t.0 n))
after_threads w (Pair a i o j) = refl

-- a party goes on
pub record PartyStands (p : List (PlainItem ℕ)) (ts : List PlainThread) (ms : List PlainMachine) (r : PlainResume) : Type 0 where
  pub stands : MachinesStand p 0 ts ms
  pub waits : (g : PlainGroup) × (slice_get ts r.thread ≡ Some (pending_on g))
  pub agrees : ResumeAgrees (arities p) r

pub party_resumes : (p : List (PlainItem ℕ)) (ts : List PlainThread) (ms : List PlainMachine) (r : PlainResume) → PartyStands p ts ms r → Resumes ms r
party_resumes p ts ms r h =
    let f = found p 0 r.thread ts ms (pending_on h.waits.0) h.stands h.waits.1 in
    (f.machine, f.at, (p, f.stands.0, f.stands.1))

party_after : (p : List (PlainItem ℕ)) (ts : List PlainThread) (ms new : List PlainMachine) (r : PlainResume) → PartyStands p ts ms r → Resumed ms r new
    → MachinesStand p 0 (slice_set ts r.thread running) new × (map (machine_term p) new ≡ resumed (text_of p) (map (machine_term p) ms) r)
party_after p ts ms new r h g =
    let f = found_is p 0 r.thread ts ms (pending_on h.waits.0) g.before h.stands h.waits.1 g.was in
    let fits : Fits p g.before = f.1.0 in
    let at : slice_get (map (machine_term p) ms) r.thread ≡ Some (machine_term p g.before) = slice_get-map (machine_term p) ms r.thread ∙ ap (option_map (machine_term p)) g.was in (
      rw (g.is) (stand_set p 0 r.thread ts ms running g.after h.stands (g.answered.thread ∙ f.0) (g.answered.fits p fits (and_from _ _ h.agrees.0 h.agrees.1), g.answered.awaits p fits f.1.1)),
      rw (g.is, map_set (machine_term p) ms r.thread g.after, g.answered.meant p fits, at) refl,
    )

-- what a row hands its parties, and how these stand
head_stands : (p : List (PlainItem ℕ)) (w : PlainWorld) (ms : List PlainMachine) (row : Meet)
    → MachinesStand p 0 w.threads ms → WorldAgrees (arities p) w → PartiesWait w row
    → PartyStands p w.threads ms (hands w row).head
head_stands p w ms (Single t n) h a g = record { stands = h; waits = g; agrees = (hands_agrees (arities p) w (Single t n) a).0 }
head_stands p w ms (Pair t i o j) h a g = record { stands = h; waits = g.0; agrees = (hands_agrees (arities p) w (Pair t i o j) a).0 }

other_waits : (w : PlainWorld) (t o : ℕ) → IsPending w o → t ≢ o → (g : PlainGroup) × (slice_get (slice_set w.threads t running) o ≡ Some (pending_on g))
other_waits w t o g ne = (g.0, get_other w.threads t o running ne ∙ g.1)

partner_stands : (p : List (PlainItem ℕ)) (w : PlainWorld) (ms new : List PlainMachine) (t o : Tid) (i j : ℕ)
    → MachinesStand p 0 w.threads ms → WorldAgrees (arities p) w → PartiesWait w (Pair t i o j)
    → Resumed ms (hands w (Pair t i o j)).head new → PartyStands p (slice_set w.threads t.0 running) new (resume w o.0 j (handed (base_awaited w t.0 i)))
partner_stands p w ms new t o i j h a g r = record {
  stands = (party_after p w.threads ms new (hands w (Pair t i o j)).head (head_stands p w ms (Pair t i o j) h a g) r).0;
  waits = other_waits w t.0 o.0 g.1 g.2;
  agrees = (hands_agrees (arities p) w (Pair t i o j) a).1;
}

pub all_resume : (c : PlainCourse) (row : Meet) → Leads c → PartiesWait c.world row → AllResume c.machines (hands c.world row)
all_resume c (Single t n) h g = (party_resumes c.program c.world.threads c.machines _ (head_stands c.program c.world c.machines (Single t n) h.machines h.agrees g), tt)
all_resume c (Pair t i o j) h g = (
  party_resumes c.program c.world.threads c.machines _ (head_stands c.program c.world c.machines (Pair t i o j) h.machines h.agrees g),
  λ new r. party_resumes c.program (slice_set c.world.threads t.0 running) new _ (partner_stands c.program c.world c.machines new t o i j h.machines h.agrees g r),
)

-- the machines and terms, once all parties went on
all_after : (p : List (PlainItem ℕ)) (w : PlainWorld) (ms new : List PlainMachine) (row : Meet)
    → MachinesStand p 0 w.threads ms → WorldAgrees (arities p) w → PartiesWait w row → AllResumed ms (hands w row) new
    → MachinesStand p 0 (parties_run row w.threads) new × (map (machine_term p) new ≡ all_resumed (text_of p) (map (machine_term p) ms) (hands w row))
all_after p w ms new (Single t n) h a g r =
    let q = party_after p w.threads ms r.between (hands w (Single t n)).head (head_stands p w ms (Single t n) h a g) r.head in
    (rw (r.partner) q.0, rw (r.partner) q.1)
all_after p w ms new (Pair t i o j) h a g r =
    let q = party_after p w.threads ms r.between (hands w (Pair t i o j)).head (head_stands p w ms (Pair t i o j) h a g) r.head in
    let s = party_after p (slice_set w.threads t.0 running) r.between new (resume w o.0 j (handed (base_awaited w t.0 i))) (partner_stands p w ms r.between t o i j h a g r.head) r.partner in
    (s.0, rw (← q.1) (s.1))

-- The item that takes a row is allowed only where the row can be taken; it can be written; and it takes the row.
pub takes_there : (w : PlainWorld) (item : Item) (row : Meet) → TakesRow item row → is_allowed w item ≡ true → has_row (scan w) row ≡ true
takes_there w (Turn t) row h ok = absurd h
takes_there w (Commit taken) row h ok = rw (← h) ok
takes_there w (Exchange taken) row h ok = rw (← h) ((and_parts (has_row (scan w) taken) (are_swaps w taken) ok).0)
takes_there w (Clock tick) row h ok = absurd h

swaps_pair : (w : PlainWorld) (row : Meet) → are_swaps w row ≡ true → IsPair row
swaps_pair w (Single t n) h = absurd (cc)
swaps_pair w (Pair a i o j) h = tt

takes_writable : (w : PlainWorld) (item : Item) (row : Meet) → TakesRow item row → is_allowed w item ≡ true → AreNumbers row → IsWritable item
takes_writable w (Turn t) row h ok n = absurd h
takes_writable w (Commit taken) row h ok n = rw h n
takes_writable w (Exchange taken) row h ok n = (rw h n, swaps_pair w taken (and_parts (has_row (scan w) taken) (are_swaps w taken) ok).1)
takes_writable w (Clock tick) row h ok n = absurd h

after_takes : (p : Program) (r : Run) (item : Item) (row : Meet) → TakesRow item row → after_item p r item ≡ Some (met p r row)
after_takes p r (Turn t) row h = absurd h
after_takes p r (Commit taken) row h = rw h refl
after_takes p r (Exchange taken) row h = rw h refl
after_takes p r (Clock tick) row h = absurd h

-- the item takes the row, and is allowed; the parties of the row wait, and its numbers are in their ranges
pub record MayTake (w : PlainWorld) (item : Item) (row : Meet) : Type 0 where
  pub takes : TakesRow item row
  pub allowed : is_allowed w item ≡ true
  pub parties : PartiesWait w row
  pub numbers : AreNumbers row

-- the course after a row
abbrev pub course_met : PlainCourse → Item → Meet → List PlainMachine → PlainCourse
course_met c item row ms = record c { items = c.items ++ item ∷ []; world = after c.world row; machines = ms; used = c.used + 1 }

met_is : (c : PlainCourse) (item : Item) (row : Meet) (ms : List PlainMachine) → Leads c → MayTake c.world item row → AllResumed c.machines (hands c.world row) ms
    → advance (text_of c.program) (run_of c) item ≡ Some (run_of (course_met c item row ms))
met_is c item row ms h g r =
    let q = all_after c.program c.world c.machines ms row h.machines h.agrees g.parties r in
    rw (g.allowed, after_takes (text_of c.program) (run_of c) item row g.takes, q.1) refl

pub met_leads : (c : PlainCourse) (item : Item) (row : Meet) (ms : List PlainMachine) → Leads c
    → MayTake c.world item row → AllResumed c.machines (hands c.world row) ms → Leads (course_met c item row ms)
met_leads c item row ms h g r =
    let q = all_after c.program c.world c.machines ms row h.machines h.agrees g.parties r in
    record {
      leads = leads_on (text_of c.program) c.items item (run_of c) _ h.leads (met_is c item row ms h g r);
      machines = rw (after_threads c.world row) (q.0);
      agrees = after_agrees (arities c.program) c.world row h.agrees;
      spent = omega (arith, h.spent, length-append c.items (item ∷ []));
      writable = All-push IsWritable c.items item h.writable (takes_writable c.world item row g.takes g.allowed g.numbers);
    }

pub met_so : (c : PlainCourse) (item : Item) (row : Meet) (ms : List PlainMachine) → Leads c → MayTake c.world item row
    → AllResumed c.machines (hands c.world row) ms → Meets c item row (course_met c item row ms)
met_so c item row ms h g r = record {
  adds = record { program = refl; items = refl; run = met_is c item row ms h g r };
  parties = g.parties;
  threads = after_threads c.world row;
  used = omega arith;
}

pub committed_is : (w new : PlainWorld) (row : Meet) (c : Committed) → commit w row ≡ Ok (new, c) → has_row (scan w) row ≡ true → (new ≡ after w row) × (c ≡ hands w row)
committed_is w new row c e has =
    let f = rw has at e in
    let g : (after w row, hands w row) ≡ (new, c) = cc in
    (ap (λ (p : PlainWorld × Committed). p.0) (sym g), ap (λ (p : PlainWorld × Committed). p.1) (sym g))

pub commit_refused : (w : PlainWorld) (row : Meet) (why : Refusal) → commit w row ≡ Err why → has_row (scan w) row ≡ true → ⊥
commit_refused w row why e has = let f = rw has at e in cc

-- the time moves
abbrev pub course_ticked : PlainCourse → ℕ → PlainCourse
course_ticked c tick = record c { items = c.items ++ Clock tick ∷ []; world = record c.world { tick = tick }; used = c.used + 1 }

pub ticked_leads : (c : PlainCourse) (tick : ℕ) → Leads c → is_allowed c.world (Clock tick) ≡ true → Leads (course_ticked c tick)
ticked_leads c tick h ok = record {
  leads = leads_on (text_of c.program) c.items (Clock tick) (run_of c) _ h.leads (rw ok refl);
  machines = h.machines;
  agrees = record { threads = h.agrees.threads; soon = h.agrees.soon; ivars = h.agrees.ivars; mvars = h.agrees.mvars; mailboxes = h.agrees.mailboxes; ports = h.agrees.ports };
  spent = omega (arith, h.spent, length-append c.items (Clock tick ∷ []));
  writable = All-push IsWritable c.items (Clock tick) h.writable (let may = may_come c.world tick ok h.agrees.soon in omega (arith, may.1));
}
