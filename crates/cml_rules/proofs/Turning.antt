-- A turn does what a rule says, and takes no synchronization.
use Rattle.std.proofs.Common.{◌≡◌, ◌≢◌, ◌⊎◌, inl, inr, ℕ, zero, suc, ◌+◌, ◌≤◌, ◌==◌, nat_eq, nat_lt, Bool, true, false, List}
use Rattle.std.proofs.Common.{[], ◌∷◌, ◌++◌, length, map, filter, Option, Some, None, Ok, Err, refl, ap, sym, ◌∙◌, subst, arith}
use Rattle.std.specs.Prelude.{option_map, slice_get, slice_set}
use Rattle.std.specs.Option.{option_map_or, option_and_then}
use Rattle.std.proofs.lemmas.Bool.Decides.{nat_tests}
use Rattle.cml_value.specs.Value.{PlainValue, PlainBase}
use Rattle.cml_value.specs.Group.{PlainGroup}
use Rattle.cml_value.specs.declared.number.Tid.{Tid}
use Rattle.cml_scan.specs.World.{PlainThread, running, pending_on, ended, PlainNack, fresh_of, live, fired, PlainWorld}
use Rattle.cml_schedule.specs.declared.item.Item.{Item}
use Rattle.cml_schedule.specs.declared.item.Item.TheVariants.{Turn}
use Rattle.cml_step.specs.Asks.{PlainAsk}
use Rattle.cml_step.specs.Slices.{sliced}
use Rattle.cml_step.specs.Terms.{Program, Term}
use Rattle.cml_book.specs.Outcomes.{Outcome}
use Rattle.cml_book.specs.Sync.{times_named, with_each}
use Rattle.cml_book.specs.Walks.{runs, is_running}
use Rattle.cml_book.specs.declared.command.Committed.{Committed}
use Rattle.cml_book.proofs.NackLemmas.{get-set_same, get-set_other, with_each-other}
use Rattle.cml_hub.specs.Performed.{PlainDone, asked, or_fails, performed}
use Rattle.cml_hub.specs.Runs.{Run, turned_by, turned, advance, opening, stands}
use Rattle.cml_rules.specs.Rules.{branches, Alone, at_any_time, gets, reads, takes, replaces, mailed, posted, joins, comes, fires, Waits, went_on, Synchronizes, alone, together}
use Rattle.cml_rules.specs.Acts.{AreNew, Arrives, Enacts, goes_on, yields, prints_out, tells_time, begins, exits, dies, new_chan, new_swap, new_ivar, new_mvar, new_mailbox, new_mchan}
use Rattle.cml_rules.specs.Acts.{new_port, new_copy, fills_ivar, fills_mvar, mails, multicasts, new_nack, begins_to_wait}
use Rattle.cml_rules.specs.Turns.{EndsRefused, TurnActs, TurnsAct, StaysPossible, NoTurnSynchronizes}
use Rattle.cml_rules.proofs.Asking.{derived}
use Rattle.cml_rules.proofs.Committing.{alone_threads, meet_differ}
use Rattle.cml_rules.proofs.Following.{stands-append, followed, allowed, some_is}

-- What is asked is done as a rule says, or the thread ends.
pub acted : (w : PlainWorld) (t : ℕ) (a : PlainAsk) (o : Outcome PlainDone) → Path (Outcome PlainDone) (asked w t a) o
    → Enacts w t a (or_fails w t o).0 (or_fails w t o).1 ⊎ EndsRefused w t a (or_fails w t o).0
acted w t a (Ok next) e = inl (derived w t a next.0 next.1 e)
acted w t a (Err why) e = inr (why, e, refl)

pub runs_there : (o : Option PlainThread) → option_map_or runs o false ≡ true → o ≡ Some running
runs_there None e = cc
runs_there (Some running) e = refl
runs_there (Some (pending_on g)) e = cc
runs_there (Some ended) e = cc

-- the term of a thread that takes a turn
pub term_there : (p : Program) (r : Run) (t : ℕ) (next : Run) → turned p r t ≡ Some next → (term : Term) × (slice_get r.terms t ≡ Some term) × (turned_by p r t (sliced p t term) ≡ next)
term_there p r t next e = at (slice_get r.terms t) refl e
  where
    at : (o : Option Term) → slice_get r.terms t ≡ o → option_map (λ term. turned_by p r t (sliced p t term)) o ≡ Some next
        → (term : Term) × (slice_get r.terms t ≡ Some term) × (turned_by p r t (sliced p t term) ≡ next)
    at None f g = absurd (no g)
      where
        no : None ≡ Some next → ⊥
        no e = cc
    at (Some term) f g = (term, f, some_is (turned_by p r t (sliced p t term)) next g)

turn_acts : (p : Program) (before : List Item) (thread : Tid) (now next : Run) → stands p before ≡ Some now → advance p now (Turn thread) ≡ Some next → TurnActs p before thread
turn_acts p before thread now next stood then_ =
    let a = allowed (is_running now.world thread.0) (turned p now thread.0) next then_ in
    let x = term_there p now thread.0 next a.1 in
    let did = acted now.world thread.0 (sliced p thread.0 x.0).ask (asked now.world thread.0 (sliced p thread.0 x.0).ask) refl in
    record {
      now = now;
      next = next;
      stood = stood;
      stands_next = stands-append p (Some (opening p)) before (Turn thread ∷ []) ∙ ap (λ o. option_and_then (λ r. advance p r (Turn thread)) o) stood ∙ then_;
      runs = runs_there (slice_get now.world.threads thread.0) a.0;
      term = x.0;
      at = x.1;
      gone = (performed now.world thread.0 (sliced p thread.0 x.0).ask).1;
      acts =
          subst
          (λ (r : Run).
          Enacts now.world thread.0 (sliced p thread.0 x.0).ask r.world (performed now.world thread.0 (sliced p thread.0 x.0).ask).1
          ⊎ EndsRefused now.world thread.0 (sliced p thread.0 x.0).ask r.world) x.2 did;
    }

pub turns_act : TurnsAct
turns_act p before after thread end h = let f = followed p before after (Turn thread) end h in turn_acts p before thread f.now f.next f.stood f.then_

-- What is left as it was: threads that do not run, what variables hold, the first item of a mailbox or a port, nacks that have fired, the time.
abbrev pub StaysFull : List (Option PlainValue) → List (Option PlainValue) → Type 0
StaysFull old new = (i : ℕ) (v : PlainValue) → slice_get old i ≡ Some (Some v) → slice_get new i ≡ Some (Some v)

abbrev pub KeepsFirst : List (List PlainValue) → List (List PlainValue) → Type 0
KeepsFirst old new = (b : ℕ) (v : PlainValue) (vs : List PlainValue) → slice_get old b ≡ Some (v ∷ vs) → (more : List PlainValue) × (slice_get new b ≡ Some (v ∷ more))

abbrev pub StayStill : List PlainThread → List PlainThread → Type 0
StayStill old new = (u : ℕ) (s : PlainThread) → (s ≡ running → ⊥) → slice_get old u ≡ Some s → slice_get new u ≡ Some s

abbrev pub StayFired : List PlainNack → List PlainNack → Type 0
StayFired old new = (k : ℕ) → slice_get old k ≡ Some fired → slice_get new k ≡ Some fired

pub record LeavesBe (w v : PlainWorld) : Type 0 where
  pub threads : StayStill w.threads v.threads
  pub ivars : StaysFull w.ivars v.ivars
  pub mvars : StaysFull w.mvars v.mvars
  pub mailboxes : KeepsFirst w.mailboxes v.mailboxes
  pub ports : KeepsFirst w.ports v.ports
  pub nacks : StayFired w.nacks v.nacks
  pub tick : w.tick ≡ v.tick

still : (ts : List PlainThread) → StayStill ts ts
still ts = λ u s n e. e

full : (xs : List (Option PlainValue)) → StaysFull xs xs
full xs = λ i v e. e

first_kept : (qs : List (List PlainValue)) → KeepsFirst qs qs
first_kept qs = λ b v vs e. (vs, e)

stay_fired : (ns : List PlainNack) → StayFired ns ns
stay_fired ns = λ k e. e

-- one more at the end
pub get_more : {X : Type 0} (xs ys : List X) (k : ℕ) (x : X) → slice_get xs k ≡ Some x → slice_get (xs ++ ys) k ≡ Some x
get_more [] ys k x e = cc
get_more (z ∷ xs) ys zero x e = e
get_more (z ∷ xs) ys (suc k) x e = get_more xs ys k x e

-- one that was set, where what is asked for stands at another place
set_apart : {X : Type 0} (xs : List X) (i k : ℕ) (old new x : X) → slice_get xs i ≡ Some old → (old ≡ x → ⊥) → slice_get xs k ≡ Some x → slice_get (slice_set xs i new) k ≡ Some x
set_apart xs i k old new x e n f = get-set_other xs i k new differ ∙ f
  where
    one : slice_get xs i ≡ Some old → slice_get xs i ≡ Some x → old ≡ x
    one e f = cc

    differ : i ≢ k
    differ same = n (one e (ap (slice_get xs) same ∙ f))

pub set_still : (ts : List PlainThread) (t : ℕ) (new : PlainThread) → slice_get ts t ≡ Some running → StayStill ts (slice_set ts t new)
set_still ts t new r = λ u s n e. set_apart ts t u running new s r (λ same. n (sym same)) e

fill : (xs : List (Option PlainValue)) (i : ℕ) (new : Option PlainValue) → slice_get xs i ≡ Some None → StaysFull xs (slice_set xs i new)
fill xs i new e = λ k v f. set_apart xs i k None new (Some v) e (no v) f
  where
    no : (v : PlainValue) → None ≡ Some v → ⊥
    no v e = cc

-- a queue that was longer by an item
item_more : (qs : List (List PlainValue)) (b : ℕ) (v : PlainValue) (vs : List PlainValue) → slice_get qs b ≡ Some vs → KeepsFirst qs (slice_set qs b (vs ++ v ∷ []))
item_more qs b v vs e = λ k x xs f. at k x xs f (nat_eq b k) refl
  where
    same_items : (x : PlainValue) (xs : List PlainValue) → slice_get qs b ≡ Some (x ∷ xs) → vs ≡ x ∷ xs
    same_items x xs f = cc

    at : (k : ℕ) (x : PlainValue) (xs : List PlainValue) → slice_get qs k ≡ Some (x ∷ xs) → (c : Bool) → nat_eq b k ≡ c
        → (more : List PlainValue) × (slice_get (slice_set qs b (vs ++ v ∷ [])) k ≡ Some (x ∷ more))
    at k x xs f true c =
        let same : b ≡ k = grind (arith, nat_tests) in
        let items = same_items x xs (ap (slice_get qs) same ∙ f) in (
          xs ++ v ∷ [],
          subst (λ j. slice_get (slice_set qs b (vs ++ v ∷ [])) j ≡ Some (x ∷ (xs ++ v ∷ []))) same
              (get-set_same qs b (vs ++ v ∷ []) vs e ∙ ap (λ l. Some (l ++ v ∷ [])) items),
        )
    at k x xs f false c = let differ : b ≢ k = grind (arith, nat_tests) in (xs, get-set_other qs b k (vs ++ v ∷ []) differ ∙ f)

arrived : (ps : List ℕ) (v : PlainValue) (old new : List (List PlainValue)) → Arrives ps v old new → KeepsFirst old new
arrived ps v old new c = λ p x xs e. (
  xs ++ map (λ q. v) (filter (λ q. q == p) ps),
  c p ∙ ap (option_map (λ unread. unread ++ map (λ q. v) (filter (λ q. q == p) ps))) e,
)

queue_more : (qs : List (List PlainValue)) (new : List PlainValue) → KeepsFirst qs (qs ++ new ∷ [])
queue_more qs new = λ b v vs e. (vs, get_more qs (new ∷ []) b (v ∷ vs) e)

-- nacks that are fresh are not those that have fired
enter_fired : (w : PlainWorld) (t : ℕ) (ks : List ℕ) → AreNew w t ks → StayFired w.nacks (with_each ks live w.nacks)
enter_fired w t ks new = λ k e. at k e (nat_lt 0 (times_named k ks)) refl
  where
    no : (k : ℕ) → slice_get w.nacks k ≡ Some fired → slice_get w.nacks k ≡ Some (fresh_of t) → ⊥
    no k e f = cc

    at : (k : ℕ) → slice_get w.nacks k ≡ Some fired → (b : Bool) → nat_lt 0 (times_named k ks) ≡ b → slice_get (with_each ks live w.nacks) k ≡ Some fired
    at k e true c = let named : 1 ≤ times_named k ks = grind (arith, nat_tests) in absurd (no k e (new k named).0)
    at k e false c = let none : times_named k ks ≡ 0 = grind (arith, nat_tests) in with_each-other ks live w.nacks k none ∙ e

left : (w : PlainWorld) → LeavesBe w w
left w = record {
  threads = still w.threads;
  ivars = full w.ivars;
  mvars = full w.mvars;
  mailboxes = first_kept w.mailboxes;
  ports = first_kept w.ports;
  nacks = stay_fired w.nacks;
  tick = refl;
}

left_counts : (w : PlainWorld) (channels swaps : ℕ) → LeavesBe w (record w { channels = channels; swaps = swaps })
left_counts w channels swaps = record {
  threads = still w.threads;
  ivars = full w.ivars;
  mvars = full w.mvars;
  mailboxes = first_kept w.mailboxes;
  ports = first_kept w.ports;
  nacks = stay_fired w.nacks;
  tick = refl;
}

pub left_threads : (w : PlainWorld) (ts : List PlainThread) → StayStill w.threads ts → LeavesBe w (record w { threads = ts })
left_threads w ts s = record {
  threads = s;
  ivars = full w.ivars;
  mvars = full w.mvars;
  mailboxes = first_kept w.mailboxes;
  ports = first_kept w.ports;
  nacks = stay_fired w.nacks;
  tick = refl;
}

left_ports : (w : PlainWorld) (channels : List (List ℕ)) (qs : List (List PlainValue)) → KeepsFirst w.ports qs → LeavesBe w (record w { mchans = channels; ports = qs })
left_ports w channels qs s = record {
  threads = still w.threads;
  ivars = full w.ivars;
  mvars = full w.mvars;
  mailboxes = first_kept w.mailboxes;
  ports = s;
  nacks = stay_fired w.nacks;
  tick = refl;
}

left_objects : (w : PlainWorld) (is ms : List (Option PlainValue)) (qs : List (List PlainValue)) → StaysFull w.ivars is → StaysFull w.mvars ms → KeepsFirst w.mailboxes qs
    → LeavesBe w (record w { ivars = is; mvars = ms; mailboxes = qs })
left_objects w is ms qs i m s = record {
  threads = still w.threads;
  ivars = i;
  mvars = m;
  mailboxes = s;
  ports = first_kept w.ports;
  nacks = stay_fired w.nacks;
  tick = refl;
}

left_nacks : (w : PlainWorld) (ts : List PlainThread) (ns : List PlainNack) → StayStill w.threads ts → StayFired w.nacks ns → LeavesBe w (record w { threads = ts; nacks = ns })
left_nacks w ts ns s n = record {
  threads = s;
  ivars = full w.ivars;
  mvars = full w.mvars;
  mailboxes = first_kept w.mailboxes;
  ports = first_kept w.ports;
  nacks = n;
  tick = refl;
}

more_full : (xs : List (Option PlainValue)) (o : Option PlainValue) → StaysFull xs (xs ++ o ∷ [])
more_full xs o = λ i v e. get_more xs (o ∷ []) i (Some v) e

pub leaves : (w : PlainWorld) (t : ℕ) (a : PlainAsk) → slice_get w.threads t ≡ Some running → (next : PlainWorld) (gone : PlainDone) → Enacts w t a next gone → LeavesBe w next
leaves w t a r next gone goes_on = left w
leaves w t a r next gone yields = left w
leaves w t a r next gone (prints_out v) = left w
leaves w t a r next gone tells_time = left w
leaves w t a r next gone (begins f) = left_threads w (w.threads ++ running ∷ []) (λ u s n e. get_more w.threads (running ∷ []) u s e)
leaves w t a r next gone exits = left_threads w (slice_set w.threads t ended) (set_still w.threads t ended r)
leaves w t a r next gone (dies why) = left_threads w (slice_set w.threads t ended) (set_still w.threads t ended r)
leaves w t a r next gone new_chan = left_counts w (w.channels + 1) w.swaps
leaves w t a r next gone new_swap = left_counts w w.channels (w.swaps + 1)
leaves w t a r next gone new_ivar = left_objects w (w.ivars ++ None ∷ []) w.mvars w.mailboxes (more_full w.ivars None) (full w.mvars) (first_kept w.mailboxes)
leaves w t a r next gone (new_mvar o) = left_objects w w.ivars (w.mvars ++ o ∷ []) w.mailboxes (full w.ivars) (more_full w.mvars o) (first_kept w.mailboxes)
leaves w t a r next gone new_mailbox = left_objects w w.ivars w.mvars (w.mailboxes ++ [] ∷ []) (full w.ivars) (full w.mvars) (queue_more w.mailboxes [])
leaves w t a r next gone new_mchan = left_ports w (w.mchans ++ [] ∷ []) w.ports (first_kept w.ports)
leaves w t a r next gone (new_port x ps e) = left_ports w (slice_set w.mchans x (ps ++ length w.ports ∷ [])) (w.ports ++ [] ∷ []) (queue_more w.ports [])
leaves w t a r next gone (new_copy p vs e) = left_ports w _ (w.ports ++ vs ∷ []) (queue_more w.ports vs)
leaves w t a r next gone (fills_ivar i v e) = left_objects w (slice_set w.ivars i (Some v)) w.mvars w.mailboxes (fill w.ivars i (Some v) e) (full w.mvars) (first_kept w.mailboxes)
leaves w t a r next gone (fills_mvar m v e) = left_objects w w.ivars (slice_set w.mvars m (Some v)) w.mailboxes (full w.ivars) (fill w.mvars m (Some v) e) (first_kept w.mailboxes)
leaves w t a r next gone (mails b v vs e) = left_objects w w.ivars w.mvars (slice_set w.mailboxes b (vs ++ v ∷ [])) (full w.ivars) (full w.mvars) (item_more w.mailboxes b v vs e)
leaves w t a r next gone (multicasts x v ps new e c) = left_ports w w.mchans new (arrived ps v w.ports new c)
leaves w t a r next gone new_nack = left_nacks w w.threads (w.nacks ++ fresh_of t ∷ []) (still w.threads) (λ k e. get_more w.nacks (fresh_of t ∷ []) k fired e)
leaves w t a r next gone (begins_to_wait g h d there new) =
    left_nacks w (slice_set w.threads t (pending_on h)) (with_each (branches g) live w.nacks) (set_still w.threads t (pending_on h) r) (enter_fired w t (branches g) new)

-- What happens alone can happen still, and gives the same.
alone_still : {w v : PlainWorld} {b : PlainBase} {x : PlainValue} {w' : PlainWorld} → LeavesBe w v → Alone w b x w' → (v' : PlainWorld) × Alone v b x v'
alone_still {v = v} l (at_any_time x) = (v, at_any_time x)
alone_still {v = v} l (gets i x e) = (v, gets i x (l.ivars i x e))
alone_still {v = v} l (reads m x e) = (v, reads m x (l.mvars m x e))
alone_still {v = v} l (takes m x e) = (record v { mvars = slice_set v.mvars m None }, takes m x (l.mvars m x e))
alone_still {v = v} l (replaces m u x e) = (record v { mvars = slice_set v.mvars m (Some u) }, replaces m u x (l.mvars m x e))
alone_still {v = v} l (mailed b x xs e) = let k = l.mailboxes b x xs e in (record v { mailboxes = slice_set v.mailboxes b k.0 }, mailed b x k.0 k.1)
alone_still {v = v} l (posted p x xs e) = let k = l.ports p x xs e in (record v { ports = slice_set v.ports p k.0 }, posted p x k.0 k.1)
alone_still {v = v} l (joins t e) = (v, joins t (l.threads t ended not_running e))
  where
    not_running : ended ≡ running → ⊥
    not_running e = cc
alone_still {v = v} l (comes t h) = (v, comes t (subst (λ n. t ≤ n) l.tick h))
alone_still {v = v} l (fires k e) = (v, fires k (l.nacks k e))

waits_still : {w v : PlainWorld} → LeavesBe w v → (t : ℕ) (g : PlainGroup) → Waits w t g → Waits v t g
waits_still l t g p = l.threads t (pending_on g) not_running p
  where
    not_running : pending_on g ≡ running → ⊥
    not_running e = cc

not_both : (o : Option PlainThread) (g : PlainGroup) → o ≡ Some (pending_on g) → o ≡ Some running → ⊥
not_both o g e f = cc

stays : {w v next : PlainWorld} {c : Committed} → LeavesBe w v → (d : Synchronizes w next c) → StaysPossible (record { next = next; gives = c; derivation = d }) v
stays {w = w} {v = v} l (alone t g b s x w' p d h) =
    let k = alone_still l h in
    let q = waits_still l t g p in
    record {
      again = record { next = went_on k.0 t g s; gives = _; derivation = alone t g b s x k.0 q d k.1 };
      row = refl;
      gives = refl;
      not_taken = λ same.
          not_both (slice_get v.threads t) g q
          (ap (λ (y : PlainWorld). slice_get y.threads t) same ∙ get-set_same w'.threads t running (pending_on g) (ap (λ ts. slice_get ts t) (alone_threads h) ∙ p));
    }
stays {w = w} {v = v} l (together t u g h a b r s x y p q d e m) =
    let i = waits_still l t g p in
    let j = waits_still l u h q in
    record {
      again = record { next = went_on (went_on v t g r) u h s; gives = _; derivation = together t u g h a b r s x y i j d e m };
      row = refl;
      gives = refl;
      not_taken = λ same.
          not_both (slice_get v.threads u) h j
          (ap (λ (z : PlainWorld). slice_get z.threads u) same
          ∙ get-set_same (slice_set w.threads t running) u running (pending_on h) (get-set_other w.threads t u running (meet_differ m) ∙ q));
    }

turn_leaves : (p : Program) (before : List Item) (thread : Tid) (a : TurnActs p before thread) → LeavesBe a.now.world a.next.world
turn_leaves p before thread a = at a.acts
  where
    at : Enacts a.now.world thread.0 (sliced p thread.0 a.term).ask a.next.world a.gone ⊎ EndsRefused a.now.world thread.0 (sliced p thread.0 a.term).ask a.next.world
        → LeavesBe a.now.world a.next.world
    at (inl d) = leaves a.now.world thread.0 (sliced p thread.0 a.term).ask a.runs a.next.world a.gone d
    at (inr same) =
        subst (LeavesBe a.now.world) (sym same.2) (left_threads a.now.world (slice_set a.now.world.threads thread.0 ended) (set_still a.now.world.threads thread.0 ended a.runs))

pub no_turn_synchronizes : NoTurnSynchronizes
no_turn_synchronizes p before thread now next stood then_ s =
    let a = turns_act p before [] thread next then_ in
    let same_now : a.now ≡ now = some_is a.now now (sym a.stood ∙ stood) in
    let same_next : a.next ≡ next = some_is a.next next (sym a.stands_next ∙ then_) in
    stays (subst (λ (r : Run). LeavesBe now.world r.world) same_next (subst (λ (r : Run). LeavesBe r.world a.next.world) same_now (turn_leaves p before thread a))) s.derivation
