-- An item that is allowed leads on: at least 1 more of the budget is used, and each thread has its term still.
use Rattle.std.proofs.Common.{◌≡◌, ℕ, zero, suc, ◌+◌, ◌<◌, ◌≤◌, Bool, true, false, not, nat_lt, nat_le, if◌then◌else◌, List, [], ◌∷◌, ◌++◌}
use Rattle.std.proofs.Common.{length, map, Option, Some, None, Ok, refl, ap, sym, ◌∙◌, arith, length-append, length-set}
use Rattle.std.specs.Prelude.{unwrap_or, slice_get, slice_set, option_map}
use Rattle.std.specs.Option.{option_map_or}
use Rattle.cml_value.specs.Value.{unit, chan, swapchan, ivar, mvar, mailbox, mchan, port}
use Rattle.cml_value.specs.Limits.{value_fits}
use Rattle.cml_scan.specs.World.{PlainThread, running, pending_on, ended, PlainWorld, fresh_of}
use Rattle.cml_scan.specs.Light.{is_full}
use Rattle.cml_scan.specs.declared.meet.Meet.{Meet}
use Rattle.cml_scan.specs.declared.meet.Meet.TheVariants.{Single, Pair}
use Rattle.cml_schedule.specs.declared.item.Item.{Item}
use Rattle.cml_schedule.specs.declared.item.Item.TheVariants.{Turn, Meet as Commit, Exchange, Clock}
use Rattle.cml_step.specs.Asks as ask
use Rattle.cml_step.specs.Asks.{PlainAsk, a_value, a_nack, a_commit}
use Rattle.cml_step.specs.Answers.{after_answer}
use Rattle.cml_step.specs.Faults.{fault_name}
use Rattle.cml_step.specs.Slices.{PlainSlice, carried, sliced_from, sliced}
use Rattle.cml_step.specs.Steps.{next}
use Rattle.cml_step.specs.Terms.{Program, Term}
use Rattle.cml_book.specs.declared.refusal.Refusal.{Refusal}
use Rattle.cml_book.specs.declared.refusal.Refusal.TheVariants as refusal
use Rattle.cml_book.specs.Commit.{hands, after, base_awaited}
use Rattle.cml_book.specs.Entering.{entered}
use Rattle.cml_book.specs.MakeObjects.{held_fits}
use Rattle.cml_book.specs.MakePort.{with_port, heard_by}
use Rattle.cml_book.specs.Outcomes.{refuse_if, refuse_by, thread_refusal, with_thread, max_threads, max_objects}
use Rattle.cml_book.specs.Resumes.{PlainResume}
use Rattle.cml_book.specs.Sync.{sync_refusal, waiting}
use Rattle.cml_book.specs.Walks.{runs}
use Rattle.cml_book.proofs.Dimmed.{taken-threads}
use Rattle.cml_hub.specs.Courses.{parties_run}
use Rattle.cml_hub.specs.Performed.{PlainDone, goes, gets, spawns, prints, waits, ends, fails, done, or_fails, performed}
use Rattle.cml_hub.specs.Runs.{Run, term_after, begun, turned_by, resumed, all_resumed, met, ticked, is_allowed, after_item, advance}
use Rattle.cml_hub.proofs.Performing.{ThreadsDone}

-- What an ask does to the threads, where it is done, and where one, two or three refusals come first.
abbrev Does : PlainWorld → ℕ → PlainWorld × PlainDone → Type 0
Does w t next = ThreadsDone t next.1 w.threads next.0.threads

module _ {R : Type 0} (w : PlainWorld) (t : ℕ) (so : R → PlainDone) (new : PlainWorld × R) (h : Does w t (new.0, so new.1)) where
  one : (a : Bool) (r : Refusal) → Does w t (or_fails w t (done so (refuse_if a r (Ok new))))
  one true r = refl
  one false r = h

  two : (a b : Bool) (r s : Refusal) → Does w t (or_fails w t (done so (refuse_if a r (refuse_if b s (Ok new)))))
  two true b r s = refl
  two false b r s = one b s

  three : (a b c : Bool) (r s u : Refusal) → Does w t (or_fails w t (done so (refuse_if a r (refuse_if b s (refuse_if c u (Ok new))))))
  three true b c r s u = refl
  three false b c r s u = two b c s u

  by_one : (o : Option Refusal) → Does w t (or_fails w t (done so (refuse_by o (Ok new))))
  by_one (Some r) = refl
  by_one None = h

  by_two : (o : Option Refusal) (a : Bool) (r : Refusal) → Does w t (or_fails w t (done so (refuse_by o (refuse_if a r (Ok new)))))
  by_two (Some s) a r = refl
  by_two None a r = one a r

threads_done : (w : PlainWorld) (t : ℕ) (a : PlainAsk) → Does w t (performed w t a)
threads_done w t ask.nothing = refl
threads_done w t ask.yield = refl
threads_done w t (ask.spawn f) =
    one w t (λ n. spawns n.0 f) (record w { threads = w.threads ++ running ∷ [] }, record { 0 = length w.threads }) (refl, refl)
    (nat_le max_threads (length w.threads)) refusal.Full
threads_done w t ask.make_chan = one w t (λ c. gets (a_value (chan c.0))) (record w { channels = w.channels + 1 }, record { 0 = w.channels }) refl (nat_le max_objects w.channels) refusal.Full
threads_done w t ask.make_swap = one w t (λ s. gets (a_value (swapchan s.0))) (record w { swaps = w.swaps + 1 }, record { 0 = w.swaps }) refl (nat_le max_objects w.swaps) refusal.Full
threads_done w t ask.make_ivar =
    one w t (λ i. gets (a_value (ivar i.0))) (record w { ivars = w.ivars ++ None ∷ [] }, record { 0 = length w.ivars }) refl (nat_le max_objects (length w.ivars)) refusal.Full
threads_done w t (ask.make_mvar v) =
    two w t (λ m. gets (a_value (mvar m.0))) (record w { mvars = w.mvars ++ v ∷ [] }, record { 0 = length w.mvars }) refl
    (not (held_fits v)) (nat_le max_objects (length w.mvars)) refusal.Deep refusal.Full
threads_done w t ask.make_mailbox =
    one w t (λ b. gets (a_value (mailbox b.0))) (record w { mailboxes = w.mailboxes ++ [] ∷ [] }, record { 0 = length w.mailboxes }) refl
    (nat_le max_objects (length w.mailboxes)) refusal.Full
threads_done w t ask.make_mchan =
    one w t (λ x. gets (a_value (mchan x.0))) (record w { mchans = w.mchans ++ [] ∷ [] }, record { 0 = length w.mchans }) refl (nat_le max_objects (length w.mchans)) refusal.Full
threads_done w t (ask.make_port x) =
    two w t (λ p. gets (a_value (port p.0))) (record w { mchans = with_port w.mchans x (length w.ports); ports = w.ports ++ [] ∷ [] }, record { 0 = length w.ports }) refl
    (not (nat_lt x (length w.mchans))) (nat_le max_objects (length w.ports)) refusal.Object refusal.Full
threads_done w t (ask.copy_port p) =
    two w t (λ q. gets (a_value (port q.0)))
    (record w { mchans = map (heard_by (length w.ports) p) w.mchans; ports = w.ports ++ unwrap_or (slice_get w.ports p) [] ∷ [] }, record { 0 = length w.ports }) refl
    (not (nat_lt p (length w.ports))) (nat_le max_objects (length w.ports)) refusal.Object refusal.Full
threads_done w t (ask.iput i v) =
    three w t (λ _. gets (a_value unit)) (record w { ivars = slice_set w.ivars i (Some v) }, tt) refl
    (not (nat_lt i (length w.ivars))) (is_full (slice_get w.ivars i)) (not (value_fits v)) refusal.Object refusal.Put refusal.Deep
threads_done w t (ask.mput m v) =
    three w t (λ _. gets (a_value unit)) (record w { mvars = slice_set w.mvars m (Some v) }, tt) refl
    (not (nat_lt m (length w.mvars))) (is_full (slice_get w.mvars m)) (not (value_fits v)) refusal.Object refusal.Put refusal.Deep
threads_done w t (ask.mail b v) =
    three w t (λ _. gets (a_value unit)) (record w { mailboxes = _ }, tt) refl (not (nat_lt b (length w.mailboxes))) (not (value_fits v)) _ refusal.Object refusal.Deep refusal.Full
threads_done w t (ask.multicast x v) =
    three w t (λ _. gets (a_value unit)) (record w { ports = _ }, tt) refl (not (nat_lt x (length w.mchans))) (not (value_fits v)) _ refusal.Object refusal.Deep refusal.Full
threads_done w t (ask.print v) = refl
threads_done w t ask.now = refl
threads_done w t ask.fresh_nack =
    by_two w t (λ k. gets (a_nack k.0)) (record w { nacks = w.nacks ++ fresh_of t ∷ [] }, record { 0 = length w.nacks }) refl
    (thread_refusal (slice_get w.threads t)) (nat_le max_objects (length w.nacks)) refusal.Full
threads_done w t (ask.sync g) = by_one w t (λ _. waits) (waiting w t (entered w.tick g), tt) (entered w.tick g, refl) (sync_refusal w t g)
threads_done w t ask.end = by_one w t (λ _. ends) (with_thread w t ended, tt) refl (thread_refusal (slice_get w.threads t))
threads_done w t (ask.fault why) = by_one w t (λ _. fails (fault_name why)) (with_thread w t ended, tt) refl (thread_refusal (slice_get w.threads t))

pub plus_none : (n : ℕ) → n ≡ n + 0
plus_none n = omega arith

-- as many threads more as begin
more_threads : (p : Program) (t : ℕ) (d : PlainDone) (old new : List PlainThread) → ThreadsDone t d old new → length new ≡ length old + length (begun p d)
more_threads p t (spawns n f) old new h = ap length h.1 ∙ length-append old (running ∷ [])
more_threads p t waits old new h = ap length h.1 ∙ (length-set old t (pending_on h.0) ∙ plus_none (length old))
more_threads p t ends old new h = ap length h ∙ (length-set old t ended ∙ plus_none (length old))
more_threads p t (fails name) old new h = ap length h ∙ (length-set old t ended ∙ plus_none (length old))
more_threads p t goes old new h = ap length h ∙ plus_none (length old)
more_threads p t (gets answer) old new h = ap length h ∙ plus_none (length old)
more_threads p t (prints text) old new h = ap length h ∙ plus_none (length old)

-- A slice takes a step at least.
le_self : (n : ℕ) → n ≤ n
le_self n = omega arith

le_less : (a b : ℕ) → a + 1 ≤ b → a ≤ b
le_less a b h = omega (arith, h)

carried_grows : (go : Term → PlainSlice) (m : ℕ) (a : PlainAsk) (v : Term) → m ≤ (go v).steps → m ≤ (carried go m a v).steps
carried_grows go m ask.nothing v h = h
carried_grows go m _ v h = le_self m

steps_grow : (p : Program) (t left steps : ℕ) (term : Term) → steps ≤ (sliced_from p t left steps term).steps
unfolding sliced_from
steps_grow p t zero steps term = le_self steps
steps_grow p t (suc left) steps term =
    le_less steps (sliced_from p t (suc left) steps term).steps
    (carried_grows (λ v. sliced_from p t left (steps + 1) v) (steps + 1) (next p t term).ask (next p t term).term (steps_grow p t left (steps + 1) (next p t term).term))

some_steps : (p : Program) (t left : ℕ) (term : Term) → 0 < left → 1 ≤ (sliced_from p t left 0 term).steps
unfolding sliced_from
some_steps p t zero term h = absurd (omega (arith, h))
some_steps p t (suc left) term h = carried_grows (λ v. sliced_from p t left 1 v) 1 (next p t term).ask (next p t term).term (steps_grow p t left 1 (next p t term).term)

-- Each thread has its term.
abbrev pub HaveTerms : Run → Type 0
HaveTerms r = length r.terms ≡ length r.world.threads

-- the threads after an item
abbrev pub ItemThreads : Item → List PlainThread → List PlainThread → Type 0
ItemThreads (Turn t) old new = (d : PlainDone) × ThreadsDone t.0 d old new
ItemThreads (Commit row) old new = new ≡ parties_run row old
ItemThreads (Exchange row) old new = new ≡ parties_run row old
ItemThreads (Clock tick) old new = new ≡ old

pub record Goes (p : Program) (r : Run) (item : Item) : Type 0 where
  pub next : Run
  pub leads : advance p r item ≡ Some next
  pub threads : ItemThreads item r.world.threads next.world.threads
  pub uses : r.used < next.used
  pub terms : HaveTerms next

also_there : {X Y : Type 0} (xs : List X) (ys : List Y) (i : ℕ) (x : X) → length ys ≡ length xs → slice_get xs i ≡ Some x → (y : Y) × (slice_get ys i ≡ Some y)
also_there [] ys i x same e = absurd (cc)
also_there (z ∷ xs) [] i x same e = absurd (omega (arith, same))
also_there (z ∷ xs) (y ∷ ys) zero x same e = (y, refl)
also_there (z ∷ xs) (y ∷ ys) (suc i) x same e = also_there xs ys i x (omega (arith, same)) e

pub runs_there : (o : Option PlainThread) → option_map_or runs o false ≡ true → o ≡ Some running
runs_there None e = cc
runs_there (Some running) e = refl
runs_there (Some (pending_on g)) e = cc
runs_there (Some ended) e = cc

uses_more : (used steps : ℕ) → 1 ≤ steps → used < used + steps
uses_more used steps h = omega (arith, h)

pub if_allowed : (p : Program) (r : Run) (item : Item) → is_allowed r.world item ≡ true → advance p r item ≡ after_item p r item
if_allowed p r item ok = ap (λ b. if b then after_item p r item else None) ok

turn_terms : (p : Program) (r : Run) (t : ℕ) (s : PlainSlice) → HaveTerms r → HaveTerms (turned_by p r t s)
turn_terms p r t s h =
    let d = performed r.world t s.ask in
    length-append (slice_set r.terms t (term_after p s.end d.1)) (begun p d.1)
    ∙ (ap (λ n. n + length (begun p d.1)) (length-set r.terms t (term_after p s.end d.1) ∙ h) ∙ sym (more_threads p t d.1 r.world.threads d.0.threads (threads_done r.world t s.ask)))

-- the threads, once the parties of a row go on
after_threads : (w : PlainWorld) (row : Meet) → (after w row).threads ≡ parties_run row w.threads
after_threads w (Single t n) = ap (λ ts. slice_set ts t.0 running) (taken-threads w (base_awaited w t.0 n))
after_threads w (Pair a i o j) = refl

parties_many : (row : Meet) (ts : List PlainThread) → length (parties_run row ts) ≡ length ts
parties_many (Single t n) ts = length-set ts t.0 running
parties_many (Pair a i o j) ts = length-set (slice_set ts a.0 running) o.0 running ∙ length-set ts a.0 running

resumed_many : (p : Program) (terms : List Term) (x : PlainResume) → length (resumed p terms x) ≡ length terms
resumed_many p terms x = length-set terms x.thread (after_answer p (a_commit x.value x.wraps) (unwrap_or (slice_get terms x.thread) []))

all_resumed_many : (p : Program) (terms : List Term) (head : PlainResume) (o : Option PlainResume) → length (all_resumed p terms (record { head = head; partner = o })) ≡ length terms
all_resumed_many p terms head None = resumed_many p terms head
all_resumed_many p terms head (Some x) = resumed_many p (resumed p terms head) x ∙ resumed_many p terms head

met_goes : (p : Program) (r : Run) (item : Item) (row : Meet) → HaveTerms r → after_item p r item ≡ Some (met p r row) → ItemThreads item r.world.threads (after r.world row).threads
    → is_allowed r.world item ≡ true → Goes p r item
met_goes p r item row h is threads ok = record {
  next = met p r row;
  leads = if_allowed p r item ok ∙ is;
  threads = threads;
  uses = uses_more r.used 1 (le_self 1);
  terms = all_resumed_many p r.terms (hands r.world row).head (hands r.world row).partner ∙ (h ∙ sym (ap length (after_threads r.world row) ∙ parties_many row r.world.threads));
}

pub item_goes : (p : Program) (r : Run) (item : Item) → HaveTerms r → is_allowed r.world item ≡ true → Goes p r item
item_goes p r (Turn t) h ok =
    let x = also_there r.world.threads r.terms t.0 running h (runs_there (slice_get r.world.threads t.0) ok) in
    let s = sliced p t.0 x.0 in
    record {
      next = turned_by p r t.0 s;
      leads = if_allowed p r (Turn t) ok ∙ ap (option_map (λ term. turned_by p r t.0 (sliced p t.0 term))) x.1;
      threads = ((performed r.world t.0 s.ask).1, threads_done r.world t.0 s.ask);
      uses = uses_more r.used s.steps (some_steps p t.0 1000 x.0 (omega arith));
      terms = turn_terms p r t.0 s h;
    }
item_goes p r (Commit row) h ok = met_goes p r (Commit row) row h refl (after_threads r.world row) ok
item_goes p r (Exchange row) h ok = met_goes p r (Exchange row) row h refl (after_threads r.world row) ok
item_goes p r (Clock tick) h ok = record { next = ticked r tick; leads = if_allowed p r (Clock tick) ok; threads = refl; uses = uses_more r.used 1 (le_self 1); terms = h }
