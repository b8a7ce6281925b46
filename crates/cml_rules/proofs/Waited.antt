-- Each thread that waits in a run waits on what an event became that it handed to sync.
use Rattle.std.proofs.Common.{◌≡◌, ◌≢◌, ◌⊎◌, inl, inr, ⊎_elim, ℕ, zero, suc, ◌+◌, ◌<◌, ◌≤◌, true, false, not}
use Rattle.std.proofs.Common.{◌&&◌, List, [], ◌∷◌, ◌++◌, Option, Some, None, refl, ap, sym, ◌∙◌, subst, arith, append_assoc, append-nil}
use Rattle.std.specs.Prelude.{unwrap_or, slice_get, slice_set}
use Rattle.std.specs.Option.{option_and_then}
use Rattle.std.proofs.lemmas.Bool.Decides.{nat_tests}
use Rattle.cml_value.specs.Value.{PlainValue, unit, thread, PlainBase, PlainFunction, function, no_values, PlainEvent}
use Rattle.cml_value.specs.Group.{PlainGroup}
use Rattle.cml_group.specs.Force.{unforced}
use Rattle.cml_scan.specs.World.{PlainThread, running, pending_on, ended, PlainWorld, pending}
use Rattle.cml_scan.specs.Scan.{scan, has_row}
use Rattle.cml_scan.specs.declared.meet.Meet.{Meet}
use Rattle.cml_schedule.specs.declared.item.Item.{Item}
use Rattle.cml_schedule.specs.declared.item.Item.TheVariants.{Turn, Meet as Commit, Exchange, Clock}
use Rattle.cml_step.specs.Asks as ask
use Rattle.cml_step.specs.Asks.{PlainAsk, a_value, a_commit}
use Rattle.cml_step.specs.Answers.{after_answer}
use Rattle.cml_step.specs.Forced.{group_of}
use Rattle.cml_step.specs.Slices.{PlainSlice, carried, sliced_from, sliced, max_steps, GoesIn}
use Rattle.cml_step.specs.Steps.{PlainStep, next}
use Rattle.cml_step.specs.Terms.{Program, call, force, wraps, Term, call_of}
use Rattle.cml_step.proofs.SliceLemmas.{goes_more}
use Rattle.cml_book.specs.Clock.{bases_awaited}
use Rattle.cml_book.specs.Commit.{hands, after}
use Rattle.cml_book.specs.Entering.{entered}
use Rattle.cml_book.specs.Outcomes.{with_thread}
use Rattle.cml_book.specs.Resumes.{PlainResume}
use Rattle.cml_book.specs.Swaps.{are_swaps}
use Rattle.cml_book.specs.Walks.{is_running}
use Rattle.cml_book.specs.declared.command.Committed.{Committed}
use Rattle.cml_book.proofs.Commits.{commit_is}
use Rattle.cml_book.proofs.NackLemmas.{get-set_same, get-set_other}
use Rattle.cml_hub.specs.Performed.{PlainDone, goes, gets, spawns, prints, waits, ends, fails, asked, performed}
use Rattle.cml_hub.specs.Runs.{Run, main_of, opening, term_after, begun, turned_by, turned, resumed, all_resumed, met}
use Rattle.cml_hub.specs.Runs.{ticked, any_runs, is_empty, next_alarm, has_number, is_allowed, advance, stands_from, stands}
use Rattle.cml_hub.proofs.Alarms.{IsLeast, least_is}
use Rattle.cml_rules.specs.Rules.{Alone, at_any_time, gets as takes_ivar, reads, takes, replaces, mailed, posted, joins, comes, fires, Waits, Synchronizes, alone, together}
use Rattle.cml_rules.specs.Acts.{ForcesTo, Enacts, goes_on as asks_nothing, yields, prints_out, tells_time, begins, exits, dies, new_chan, new_swap, new_ivar, new_mvar, new_mailbox, new_mchan}
use Rattle.cml_rules.specs.Acts.{new_port, new_copy, fills_ivar, fills_mvar, mails, multicasts, new_nack, begins_to_wait}
use Rattle.cml_rules.specs.Turns.{EndsRefused}
use Rattle.cml_rules.specs.Waiting.{ComesBy, HandsToSync, HasReturned, PendingAreForced}
use Rattle.cml_rules.proofs.Forcing.{rest_from, enters_to}
use Rattle.cml_rules.proofs.Handing.{leads_forced, leads_more, ComesFrom, IsUnder, IsFine, IsAsking, IsFineStep, next_fine, answered_fine, begun_fine}
use Rattle.cml_rules.proofs.Turning.{acted, runs_there, term_there, get_more, leaves}
use Rattle.cml_rules.proofs.Committing.{alone_threads, step_of}
use Rattle.cml_rules.proofs.Following.{stands-append, allowed, both_true, some_is}

-- With more items, what was so is so.
longer : (p : Program) (items : List Item) (item : Item) (t : ℕ) (term : Term) → ComesBy p items t term → ComesBy p (items ++ item ∷ []) t term
longer p items item t term c = record {
  before = c.before;
  after = c.after ++ item ∷ [];
  split = ap (λ l. l ++ item ∷ []) c.split ∙ append_assoc c.before (Turn (record { 0 = t }) ∷ c.after) (item ∷ []);
  now = c.now;
  stood = c.stood;
  start = c.start;
  at = c.at;
  steps = c.steps;
  few = c.few;
  goes = c.goes;
}

handed_longer : (p : Program) (items : List Item) (item : Item) (t : ℕ) (e : PlainEvent) (below : Term) → HandsToSync p items t e below → HandsToSync p (items ++ item ∷ []) t e below
handed_longer p items item t e below h = record {
  s = h.s;
  left = h.left;
  variables = h.variables;
  rest = h.rest;
  x = h.x;
  came = longer p items item t _ h.came;
  sync = h.sync;
  value = h.value;
  goes = h.goes;
}

returned_longer : (p : Program) (items : List Item) (item : Item) (t : ℕ) (f : PlainFunction) (new : PlainEvent) → HasReturned p items t f new → HasReturned p (items ++ item ∷ []) t f new
returned_longer p items item t f new h = record { top = h.top; e = h.e; below = h.below; came = longer p items item t _ h.came; waits = h.waits; goes = h.goes }

from_longer : (p : Program) (items : List Item) (item : Item) (t : ℕ) (e : PlainEvent) (below : Term) → ComesFrom p items t e below → ComesFrom p (items ++ item ∷ []) t e below
from_longer p items item t e below h = record {
  first = h.first;
  handed = handed_longer p items item t h.first below h.handed;
  leads = leads_more (HasReturned p items t) (HasReturned p (items ++ item ∷ []) t) (returned_longer p items item t) h.first e h.leads;
}

under_longer : (p : Program) (items : List Item) (item : Item) (t : ℕ) (term : Term) → IsUnder p items t term → IsUnder p (items ++ item ∷ []) t term
under_longer p items item t [] h = tt
under_longer p items item t (call left variables w ∷ below) h = under_longer p items item t below h
under_longer p items item t (wraps fs v ∷ below) h = under_longer p items item t below h
under_longer p items item t (force e true ∷ below) h = h
under_longer p items item t (force e false ∷ below) h = (from_longer p items item t e below h.0, h.1, under_longer p items item t below h.2)

fine_longer : (p : Program) (items : List Item) (item : Item) (t : ℕ) (term : Term) → IsFine p items t term → IsFine p (items ++ item ∷ []) t term
fine_longer p items item t [] h = tt
fine_longer p items item t (call left variables w ∷ below) h = under_longer p items item t below h
fine_longer p items item t (wraps fs v ∷ below) h = under_longer p items item t below h
fine_longer p items item t (force e asked ∷ below) h = (from_longer p items item t e below h.0, under_longer p items item t below h.1)

-- A slice of a turn.
carried_fine : (p : Program) (items : List Item) (t : ℕ) (go : Term → PlainSlice) (m : ℕ) (a : PlainAsk) (v : Term)
    → (a ≡ ask.nothing → IsFineStep p items t (go v).ask (go v).end) → IsFineStep p items t a v → IsFineStep p items t (carried go m a v).ask (carried go m a v).end
carried_fine p items t go m ask.nothing v f h = f refl
carried_fine p items t go m _ v f h = h

nothing_asked : (g : PlainGroup) (term : Term) → ask.nothing ≡ ask.sync g → IsAsking term g
nothing_asked g term e = cc

sliced_fine : (p : Program) (before : List Item) (t : ℕ) (now : Run) (start : Term) → stands p before ≡ Some now → slice_get now.terms t ≡ Some start
    → (left n : ℕ) (u : Term) → n + left ≡ max_steps → GoesIn p t n start u → IsFine p (before ++ Turn (record { 0 = t }) ∷ []) t u
    → IsFineStep p (before ++ Turn (record { 0 = t }) ∷ []) t (sliced_from p t left n u).ask (sliced_from p t left n u).end
unfolding sliced_from
sliced_fine p before t now start stood at zero n u sum path h = record { fine = h; syncs = λ g e. nothing_asked g u e }
sliced_fine p before t now start stood at (suc k) n u sum path h =
    let few : n < max_steps = omega arith in
    let came : ComesBy p (before ++ Turn (record { 0 = t }) ∷ []) t u =
    record { before = before; after = []; split = refl; now = now; stood = stood; start = start; at = at; steps = n; few = few; goes = path } in
    let s = next_fine p (before ++ Turn (record { 0 = t }) ∷ []) t u came h in
    let more : (n + 1) + k ≡ max_steps = omega arith in
    carried_fine p (before ++ Turn (record { 0 = t }) ∷ []) t (λ v. sliced_from p t k (n + 1) v) (n + 1) (next p t u).ask (next p t u).term
    (λ nothing. sliced_fine p before t now start stood at k (n + 1) (next p t u).term more
    (goes_more p t n start u (next p t u).term path (ap {B = PlainStep} (λ a. record { ask = a; term = (next p t u).term }) nothing)) s.fine)
    s

-- What holds of each run.
pub record WaitsFrom (r : Run) (t : ℕ) (g : PlainGroup) : Type 0 where
  pub last : PlainEvent
  pub below : Term
  pub at : slice_get r.terms t ≡ Some (force last true ∷ below)
  pub none : unforced last ≡ None
  pub since : ℕ
  pub past : since ≤ r.world.tick
  pub group : g ≡ entered since (group_of last)

pub record RunStands (p : Program) (items : List Item) (r : Run) : Type 0 where
  pub fine : (t : ℕ) (term : Term) → slice_get r.terms t ≡ Some term → IsFine p items t term
  pub waiting : (t : ℕ) (g : PlainGroup) → Waits r.world t g → WaitsFrom r t g

-- what stands at a place after one was set, or some came last
set_cases : {X : Type 0} (xs : List X) (i k : ℕ) (x y : X) → slice_get (slice_set xs i x) k ≡ Some y → ((i ≡ k) × (y ≡ x)) ⊎ ((i ≢ k) × (slice_get xs k ≡ Some y))
set_cases [] i k x y e = cc
set_cases (z ∷ xs) zero zero x y e = inl (refl, cc)
set_cases (z ∷ xs) zero (suc k) x y e = inr ((λ same. omega arith), e)
set_cases (z ∷ xs) (suc i) zero x y e = inr ((λ same. omega arith), e)
set_cases (z ∷ xs) (suc i) (suc k) x y e = ⊎_elim (λ l. inl (ap suc l.0, l.1)) (λ r. inr ((λ same. r.0 (omega arith)), r.1)) (set_cases xs i k x y e)

more_cases : {X : Type 0} (xs ys : List X) (k : ℕ) (y : X) → slice_get (xs ++ ys) k ≡ Some y → (slice_get xs k ≡ Some y) ⊎ ((j : ℕ) × (slice_get ys j ≡ Some y))
more_cases [] ys k y e = inr (k, e)
more_cases (x ∷ xs) ys zero y e = inl e
more_cases (x ∷ xs) ys (suc k) y e = more_cases xs ys k y e

-- a thread that waits after an act waited before, or it asked to
abbrev HasWaited : PlainWorld → ℕ → PlainAsk → PlainDone → ℕ → PlainGroup → Type 0
HasWaited w u a gone t g = (slice_get w.threads t ≡ Some (pending_on g)) ⊎ ((u ≡ t) × ((h : PlainGroup) × (a ≡ ask.sync h) × (g ≡ entered w.tick h) × (gone ≡ waits)))

no_running : (g : PlainGroup) (j : ℕ) → slice_get (running ∷ []) j ≡ Some (pending_on g) → ⊥
no_running g zero e = cc
no_running g (suc j) e = cc

still_waits : (ts : List PlainThread) (u : ℕ) (s : PlainThread) (t : ℕ) (g : PlainGroup) → (pending_on g ≡ s → ⊥)
    → slice_get (slice_set ts u s) t ≡ Some (pending_on g) → slice_get ts t ≡ Some (pending_on g)
still_waits ts u s t g differs e = ⊎_elim (λ l. absurd (differs l.1)) (λ r. r.1) (set_cases ts u t s (pending_on g) e)

not_ended : (g : PlainGroup) → pending_on g ≡ ended → ⊥
not_ended g e = cc

not_running : (g : PlainGroup) → pending_on g ≡ running → ⊥
not_running g e = cc

has_waited : (w : PlainWorld) (u : ℕ) (a : PlainAsk) (next : PlainWorld) (gone : PlainDone) → Enacts w u a next gone
    → (t : ℕ) (g : PlainGroup) → slice_get next.threads t ≡ Some (pending_on g) → HasWaited w u a gone t g
has_waited w u a next gone asks_nothing t g e = inl e
has_waited w u a next gone yields t g e = inl e
has_waited w u a next gone (prints_out v) t g e = inl e
has_waited w u a next gone tells_time t g e = inl e
has_waited w u a next gone (begins f) t g e = ⊎_elim (λ l. inl l) (λ r. absurd (no_running g r.0 r.1)) (more_cases w.threads (running ∷ []) t (pending_on g) e)
has_waited w u a next gone exits t g e = inl (still_waits w.threads u ended t g (not_ended g) e)
has_waited w u a next gone (dies why) t g e = inl (still_waits w.threads u ended t g (not_ended g) e)
has_waited w u a next gone new_chan t g e = inl e
has_waited w u a next gone new_swap t g e = inl e
has_waited w u a next gone new_ivar t g e = inl e
has_waited w u a next gone (new_mvar o) t g e = inl e
has_waited w u a next gone new_mailbox t g e = inl e
has_waited w u a next gone new_mchan t g e = inl e
has_waited w u a next gone (new_port x ps c) t g e = inl e
has_waited w u a next gone (new_copy p vs c) t g e = inl e
has_waited w u a next gone (fills_ivar i v c) t g e = inl e
has_waited w u a next gone (fills_mvar m v c) t g e = inl e
has_waited w u a next gone (mails b v vs c) t g e = inl e
has_waited w u a next gone (multicasts x v ps new c d) t g e = inl e
has_waited w u a next gone new_nack t g e = inl e
has_waited w u a next gone (begins_to_wait h k d there new) t g e =
    ⊎_elim (λ l. inr (l.0, (h, refl, same_group l.1 ∙ enters_to w.tick h k d, refl))) (λ r. inl r.1) (set_cases w.threads u t (pending_on k) (pending_on g) e)
  where
    same_group : pending_on g ≡ pending_on k → g ≡ k
    same_group c = cc

-- the terms of the threads that begin, and the term of the one that asked
begun_each : (p : Program) (items : List Item) (t : ℕ) (d : PlainDone) (j : ℕ) (term : Term) → slice_get (begun p d) j ≡ Some term → IsFine p items t term
begun_each p items t (spawns n f) zero term e = subst (IsFine p items t) (some_term e) (begun_fine p items t f)
  where
    some_term : Some (call_of p f ∷ []) ≡ Some term → call_of p f ∷ [] ≡ term
    some_term e = cc
begun_each p items t (spawns n f) (suc j) term e = cc
begun_each p items t goes j term e = cc
begun_each p items t (gets answer) j term e = cc
begun_each p items t (prints text) j term e = cc
begun_each p items t waits j term e = cc
begun_each p items t ends j term e = cc
begun_each p items t (fails name) j term e = cc

after_fine : (p : Program) (items : List Item) (t : ℕ) (d : PlainDone) (term : Term) → IsFine p items t term → IsFine p items t (term_after p term d)
after_fine p items t goes term h = h
after_fine p items t (gets answer) term h = answered_fine p items t answer term h
after_fine p items t (spawns n f) term h = answered_fine p items t (a_value (thread n)) term h
after_fine p items t (prints text) term h = answered_fine p items t (a_value unit) term h
after_fine p items t waits term h = h
after_fine p items t ends term h = tt
after_fine p items t (fails name) term h = tt

-- A turn.
module _ (p : Program) (items : List Item) (u : ℕ) (r : Run) (inv : RunStands p items r) (stood : stands p items ≡ Some r)
    (start : Term) (at : slice_get r.terms u ≡ Some start) (runs : slice_get r.world.threads u ≡ Some running) where
  abbrev more : List Item
  more = items ++ Turn (record { 0 = u }) ∷ []

  abbrev did : PlainWorld × PlainDone
  did = performed r.world u (sliced p u start).ask

  slice_is_fine : IsFineStep p more u (sliced p u start).ask (sliced p u start).end
  slice_is_fine = sliced_fine p items u r start stood at max_steps 0 start (omega arith) refl (fine_longer p items (Turn (record { 0 = u })) u start (inv.fine u start at))

  turn_fine : (t : ℕ) (term : Term) → slice_get (turned_by p r u (sliced p u start)).terms t ≡ Some term → IsFine p more t term
  turn_fine t term e =
      ⊎_elim
      (λ l.
      ⊎_elim
      (λ same.
      subst (λ j. IsFine p more j term) same.0
      (subst (IsFine p more u) (sym same.1) (after_fine p more u did.1 (sliced p u start).end slice_is_fine.fine)))
      (λ other. fine_longer p items (Turn (record { 0 = u })) t term (inv.fine t term other.1))
      (set_cases r.terms u t (term_after p (sliced p u start).end did.1) term l))
      (λ k. begun_each p more t did.1 k.0 term k.1)
      (more_cases (slice_set r.terms u (term_after p (sliced p u start).end did.1)) (begun p did.1) t term e)

  -- a thread that waited before
  waited_on : (v : PlainWorld) → r.world.tick ≡ v.tick → (t : ℕ) (g : PlainGroup) → slice_get r.world.threads t ≡ Some (pending_on g)
      → v ≡ did.0 → WaitsFrom (turned_by p r u (sliced p u start)) t g
  waited_on v tick t g e is =
      let w = inv.waiting t g e in
      let past = w.past in
      record {
        last = w.last;
        below = w.below;
        at =
            get_more (slice_set r.terms u (term_after p (sliced p u start).end did.1)) (begun p did.1) t (force w.last true ∷ w.below)
            (get-set_other r.terms u t (term_after p (sliced p u start).end did.1) (differ t g e) ∙ w.at);
        none = w.none;
        since = w.since;
        past = subst (λ n. w.since ≤ n) (tick ∙ ap (λ (x : PlainWorld). x.tick) is) past;
        group = w.group;
      }
    where
      differ : (t : ℕ) (g : PlainGroup) → slice_get r.world.threads t ≡ Some (pending_on g) → u ≢ t
      differ t g e same = apart (slice_get r.world.threads t) (ap (slice_get r.world.threads) (sym same) ∙ runs) e
        where
          apart : (o : Option PlainThread) → o ≡ Some running → o ≡ Some (pending_on g) → ⊥
          apart o a b = cc

  -- the thread that begins to wait
  begins_waiting : r.world.tick ≡ did.0.tick → (h g : PlainGroup) → (sliced p u start).ask ≡ ask.sync h → g ≡ entered r.world.tick h → did.1 ≡ waits
      → WaitsFrom (turned_by p r u (sliced p u start)) u g
  begins_waiting tick h g asked same gone =
      let a = slice_is_fine.syncs h asked in
      record {
        last = a.last;
        below = a.below;
        at =
            get_more (slice_set r.terms u (term_after p (sliced p u start).end did.1)) (begun p did.1) u (force a.last true ∷ a.below)
            (get-set_same r.terms u (term_after p (sliced p u start).end did.1) start at ∙ ap (λ d. Some (term_after p (sliced p u start).end d)) gone ∙ ap Some a.is);
        none = a.none;
        since = r.world.tick;
        past = subst (λ n. r.world.tick ≤ n) tick (omega arith);
        group = same ∙ ap (entered r.world.tick) a.group;
      }

  turn_waits : (t : ℕ) (g : PlainGroup) → Waits did.0 t g → WaitsFrom (turned_by p r u (sliced p u start)) t g
  turn_waits t g e = by (acted r.world u (sliced p u start).ask (asked r.world u (sliced p u start).ask) refl)
    where
      by : Enacts r.world u (sliced p u start).ask did.0 did.1 ⊎ EndsRefused r.world u (sliced p u start).ask did.0 → WaitsFrom (turned_by p r u (sliced p u start)) t g
      by (inl d) =
          let left = leaves r.world u (sliced p u start).ask runs did.0 did.1 d in
          ⊎_elim
          (λ before. waited_on did.0 left.tick t g before refl)
          (λ new. subst (λ j. WaitsFrom (turned_by p r u (sliced p u start)) j g) new.0 (begins_waiting left.tick new.1.0 g new.1.1 new.1.2 new.1.3))
          (has_waited r.world u (sliced p u start).ask did.0 did.1 d t g e)
      by (inr same) =
          waited_on (with_thread r.world u ended) refl t g
          (still_waits r.world.threads u ended t g (not_ended g) (ap (λ (x : PlainWorld). slice_get x.threads t) (sym same.2) ∙ e)) (sym same.2)

  pub turn_stands : RunStands p more (turned_by p r u (sliced p u start))
  turn_stands = record { fine = turn_fine; waiting = turn_waits }

-- A row.
resumed_fine : (p : Program) (items : List Item) (terms : List Term) (x : PlainResume) → ((t : ℕ) (term : Term) → slice_get terms t ≡ Some term → IsFine p items t term)
    → (t : ℕ) (term : Term) → slice_get (resumed p terms x) t ≡ Some term → IsFine p items t term
resumed_fine p items terms x h t term e =
    ⊎_elim
    (λ same. subst (λ j. IsFine p items j term) same.0 (subst (IsFine p items x.thread) (sym same.1) (at (slice_get terms x.thread) refl)))
    (λ other. h t term other.1)
    (set_cases terms x.thread t (after_answer p (a_commit x.value x.wraps) (unwrap_or (slice_get terms x.thread) [])) term e)
  where
    at : (o : Option Term) → slice_get terms x.thread ≡ o → IsFine p items x.thread (after_answer p (a_commit x.value x.wraps) (unwrap_or (slice_get terms x.thread) []))
    at None f = subst (λ o. IsFine p items x.thread (after_answer p (a_commit x.value x.wraps) (unwrap_or o []))) (sym f) tt
    at (Some u) f =
        subst (λ o. IsFine p items x.thread (after_answer p (a_commit x.value x.wraps) (unwrap_or o []))) (sym f) (answered_fine p items x.thread (a_commit x.value x.wraps) u (h x.thread u f))

all_resumed_fine : (p : Program) (items : List Item) (terms : List Term) (head : PlainResume) (o : Option PlainResume) → ((t : ℕ) (term : Term) → slice_get terms t ≡ Some term → IsFine p items t term)
    → (t : ℕ) (term : Term) → slice_get (all_resumed p terms (record { head = head; partner = o })) t ≡ Some term → IsFine p items t term
all_resumed_fine p items terms head None h = resumed_fine p items terms head h
all_resumed_fine p items terms head (Some x) h = resumed_fine p items (resumed p terms head) x (resumed_fine p items terms head h)

alone_tick : {w : PlainWorld} {b : PlainBase} {v : PlainValue} {w' : PlainWorld} → Alone w b v w' → w'.tick ≡ w.tick
alone_tick (at_any_time v) = refl
alone_tick (takes_ivar i v e) = refl
alone_tick (reads m v e) = refl
alone_tick (takes m v e) = refl
alone_tick (replaces m u v e) = refl
alone_tick (mailed b v vs e) = refl
alone_tick (posted q v vs e) = refl
alone_tick (joins t e) = refl
alone_tick (comes t h) = refl
alone_tick (fires k e) = refl

-- who waits after a step waited before, and its term is as it was
step_waits : {w next : PlainWorld} {c : Committed} (p : Program) (terms : List Term) (d : Synchronizes w next c) (t : ℕ) (g : PlainGroup) → Waits next t g
    → Waits w t g × (slice_get (all_resumed p terms c) t ≡ slice_get terms t) × (w.tick ≡ next.tick)
step_waits {w = w} p terms (alone u h b s v w' q d a) t g e =
    ⊎_elim
    (λ same. absurd (not_running g same.1))
    (λ other. (ap (λ ts. slice_get ts t) (sym (alone_threads a)) ∙ other.1, get-set_other terms u t _ other.0, sym (alone_tick a)))
    (set_cases w'.threads u t running (pending_on g) e)
step_waits {w = w} p terms (together u y h k a b r s x z q n d f m) t g e =
    ⊎_elim
    (λ same. absurd (not_running g same.1))
    (λ other.
    ⊎_elim
    (λ same. absurd (not_running g same.1))
    (λ also.
    (also.1, get-set_other (resumed p terms (record { thread = u; value = x; wraps = r.wraps; fired = r.fired })) y t _ other.0 ∙ get-set_other terms u t _ also.0, refl))
    (set_cases w.threads u t running (pending_on g) other.1))
    (set_cases (slice_set w.threads u running) y t running (pending_on g) e)

-- who waited, in a later world, with its term as it was
waits_later : (r next : Run) (t : ℕ) (g : PlainGroup) → slice_get next.terms t ≡ slice_get r.terms t → r.world.tick ≤ next.world.tick → WaitsFrom r t g → WaitsFrom next t g
waits_later r next t g same later w =
    let past = w.past in
    record { last = w.last; below = w.below; at = same ∙ w.at; none = w.none; since = w.since; past = omega arith; group = w.group }

met_stands : (p : Program) (items : List Item) (item : Item) (r : Run) (row : Meet) → has_row (scan r.world) row ≡ true → RunStands p items r → RunStands p (items ++ item ∷ []) (met p r row)
met_stands p items item r row has inv = record {
  fine =
      all_resumed_fine p (items ++ item ∷ []) r.terms (hands r.world row).head (hands r.world row).partner (λ t term e. fine_longer p items item t term (inv.fine t term e));
  waiting = λ t g e. kept t g (step_waits p r.terms step t g e);
}
  where
    step : Synchronizes r.world (after r.world row) (hands r.world row)
    step = (step_of r.world row (after r.world row) (hands r.world row) (commit_is r.world row has)).0

    kept : (t : ℕ) (g : PlainGroup) → Waits r.world t g × (slice_get (all_resumed p r.terms (hands r.world row)) t ≡ slice_get r.terms t) × (r.world.tick ≡ (after r.world row).tick)
        → WaitsFrom (met p r row) t g
    kept t g k = let same = k.2 in waits_later r (met p r row) t g k.1 (omega arith) (inv.waiting t g k.0)

-- The clock.
number_of_tick : (o : Option ℕ) (n : ℕ) → has_number o n ≡ true → o ≡ Some n
number_of_tick None n h = cc
number_of_tick (Some m) n h = let e : m ≡ n = grind (arith, nat_tests) in ap (λ k. Some k) e

comes_later : (w : PlainWorld) (o : Option ℕ) (t : ℕ) → IsLeast w.tick (bases_awaited (pending w)) o → o ≡ Some t → w.tick < t
comes_later w None t h e = cc
comes_later w (Some u) t h e = let same : u ≡ t = cc in omega (arith, same, h.0.0)

ticked_stands : (p : Program) (items : List Item) (item : Item) (r : Run) (tick : ℕ) → is_allowed r.world (Clock tick) ≡ true → RunStands p items r → RunStands p (items ++ item ∷ []) (ticked r tick)
ticked_stands p items item r tick ok inv =
    let b = both_true (has_number (next_alarm r.world) tick && not (any_runs r.world)) (is_empty (scan r.world)) ok in
    let c = both_true (has_number (next_alarm r.world) tick) (not (any_runs r.world)) b.0 in
    let later = comes_later r.world (next_alarm r.world) tick (least_is r.world.tick (bases_awaited (pending r.world))) (number_of_tick (next_alarm r.world) tick c.0) in
    record {
      fine = λ t term e. fine_longer p items item t term (inv.fine t term e);
      waiting = λ t g e. waits_later r (ticked r tick) t g refl (omega arith) (inv.waiting t g e);
    }

-- Item by item.
stands_again : (p : Program) (items : List Item) (r : Run) (item : Item) (next : Run) → stands p items ≡ Some r → RunStands p items r
    → advance p r item ≡ Some next → RunStands p (items ++ item ∷ []) next
stands_again p items r (Turn tid) next stood inv e =
    let a = allowed (is_running r.world tid.0) (turned p r tid.0) next e in
    let x = term_there p r tid.0 next a.1 in
    subst (RunStands p (items ++ Turn tid ∷ [])) x.2 (turn_stands p items tid.0 r inv stood x.0 x.1 (runs_there (slice_get r.world.threads tid.0) a.0))
stands_again p items r (Commit row) next stood inv e =
    let a = allowed (has_row (scan r.world) row) (Some (met p r row)) next e in
    subst (RunStands p (items ++ Commit row ∷ [])) (some_is (met p r row) next a.1) (met_stands p items (Commit row) r row a.0 inv)
stands_again p items r (Exchange row) next stood inv e =
    let a = allowed (has_row (scan r.world) row && are_swaps r.world row) (Some (met p r row)) next e in
    let two = both_true (has_row (scan r.world) row) (are_swaps r.world row) a.0 in
    subst (RunStands p (items ++ Exchange row ∷ [])) (some_is (met p r row) next a.1) (met_stands p items (Exchange row) r row two.0 inv)
stands_again p items r (Clock tick) next stood inv e =
    let a = allowed (is_allowed r.world (Clock tick)) (Some (ticked r tick)) next e in
    subst (RunStands p (items ++ Clock tick ∷ [])) (some_is (ticked r tick) next a.1) (ticked_stands p items (Clock tick) r tick a.0 inv)

opening_stands : (p : Program) → RunStands p [] (opening p)
opening_stands p = record { fine = fine; waiting = λ t g e. absurd (no_running g t e) }
  where
    first : (term : Term) → Some (call_of p (function (main_of p) no_values) ∷ []) ≡ Some term → call_of p (function (main_of p) no_values) ∷ [] ≡ term
    first term e = cc

    fine : (t : ℕ) (term : Term) → slice_get (opening p).terms t ≡ Some term → IsFine p [] t term
    fine zero term e = subst (IsFine p [] 0) (first term e) (begun_fine p [] 0 (function (main_of p) no_values))
    fine (suc t) term e = cc

no_run : (p : Program) (items : List Item) (end : Run) → stands_from p None items ≡ Some end → ⊥
no_run p [] end e = cc
no_run p (i ∷ items) end e = no_run p items end e

runs_stand : (p : Program) (done items : List Item) (r end : Run) → stands p done ≡ Some r → RunStands p done r → stands_from p (Some r) items ≡ Some end → RunStands p (done ++ items) end
runs_stand p done [] r end stood inv e = subst (λ l. RunStands p l end) (sym (append-nil done)) (subst (RunStands p done) (some_is r end e) inv)
runs_stand p done (i ∷ items) r end stood inv e = at (advance p r i) refl e (λ next stood_next again f. runs_stand p (done ++ i ∷ []) items next end stood_next again f)
  where
    at : (o : Option Run) → advance p r i ≡ o → stands_from p o items ≡ Some end
        → ((next : Run) → stands p (done ++ i ∷ []) ≡ Some next → RunStands p (done ++ i ∷ []) next → stands_from p (Some next) items ≡ Some end → RunStands p ((done ++ i ∷ []) ++ items) end)
        → RunStands p (done ++ i ∷ items) end
    at None a f ih = absurd (no_run p items end f)
    at (Some next) a f ih =
        let stood_next : stands p (done ++ i ∷ []) ≡ Some next =
        stands-append p (Some (opening p)) done (i ∷ []) ∙ ap (λ o. option_and_then (λ r. advance p r i) o) stood ∙ a in
        subst (λ l. RunStands p l end) (append_assoc done (i ∷ []) items) (ih next stood_next (stands_again p done r i next stood inv a) f)

pub pending_are_forced : PendingAreForced
pending_are_forced p items now stood t g e =
    let inv = runs_stand p [] items (opening p) now refl (opening_stands p) stood in
    let w = inv.waiting t g e in
    let fine = inv.fine t (force w.last true ∷ w.below) w.at in
    record {
      last = w.last;
      below = w.below;
      stands = w.at;
      first = fine.0.first;
      handed = fine.0.handed;
      since = w.since;
      past = w.past;
      forced =
          leads_forced (HasReturned p items t) w.since g fine.0.first w.last fine.0.leads
          (subst (ForcesTo (HasReturned p items t) w.since w.last) (sym w.group) (rest_from (HasReturned p items t) w.since w.last w.none));
    }
