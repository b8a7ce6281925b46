-- What an ask does to the threads, and that the world agrees with the program still.
use Rattle.std.proofs.Common.{◌≡◌, ℕ, zero, suc, ◌+◌, Bool, true, false, not, nat_lt, nat_le, List, [], ◌∷◌, ◌++◌, length, map, refl, ◌∙◌, Option, Some, None, Ok}
use Rattle.std.specs.Prelude.{slice_get, slice_set, unwrap_or}
use Rattle.std.specs.List.{list_any}
use Rattle.cml_value.specs.Value.{PlainValue, unit, chan, swapchan, ivar, mvar, mailbox, mchan, port}
use Rattle.cml_value.specs.Group.{PlainGroup, bases, group_fits, leaf_count, scopes, nacks_of}
use Rattle.cml_value.specs.Limits.{value_fits}
use Rattle.cml_group.specs.Force.{event_of}
use Rattle.cml_group.specs.LaidOut.{max_leaves}
use Rattle.cml_scan.specs.World.{PlainThread, running, pending_on, ended, PlainWorld, fresh_of}
use Rattle.cml_scan.specs.Light.{is_full}
use Rattle.cml_scan.specs.Order.{Every}
use Rattle.cml_objects.specs.Queues.{is_full_at, added_at}
use Rattle.cml_objects.specs.Posts.{any_is_full, posted}
use Rattle.cml_step.specs.Agrees.{event_agrees, all_agree, maybe_agrees, ask_agrees}
use Rattle.cml_step.specs.Asks as ask
use Rattle.cml_step.specs.Asks.{PlainAsk, a_value, a_nack}
use Rattle.cml_step.specs.Faults.{fault_name}
use Rattle.cml_book.specs.declared.refusal.Refusal.{Refusal}
use Rattle.cml_book.specs.declared.refusal.Refusal.TheVariants as refusal
use Rattle.cml_book.specs.Refusals.{name_of}
use Rattle.cml_book.specs.Outcomes.{refuse_if, refuse_by, first_if, first_of_both, thread_refusal, with_thread, max_threads, max_objects}
use Rattle.cml_book.specs.MakeObjects.{held_fits}
use Rattle.cml_book.specs.MakePort.{ports_at, with_port, heard_by}
use Rattle.cml_book.specs.Sync.{sync_refusal, waiting, group_exists, can_enter}
use Rattle.cml_book.specs.Entering.{entered, is_far}
use Rattle.cml_hub.specs.Performed.{PlainDone, gets, spawns, waits, ends, fails, done, or_fails, performed}
use Rattle.cml_hub.specs.Agreeing.{thread_agrees, waits_soon, WorldAgrees}
use Rattle.cml_hub.proofs.Agreement.{every_set, every_append, entered_agrees, added_agrees, posted_agrees}
use Rattle.cml_hub.proofs.Soon.{entered_soon}

-- the threads, once this became of thread t
abbrev pub ThreadsDone : ℕ → PlainDone → List PlainThread → List PlainThread → Type 0
ThreadsDone t (spawns n f) old new = (n ≡ length old) × (new ≡ old ++ running ∷ [])
ThreadsDone t waits old new = (g : PlainGroup) × (new ≡ slice_set old t (pending_on g))
ThreadsDone t ends old new = new ≡ slice_set old t ended
ThreadsDone t (fails name) old new = new ≡ slice_set old t ended
ThreadsDone t _ old new = new ≡ old

pub record Performs (fs : List ℕ) (w : PlainWorld) (t : ℕ) (next : PlainWorld × PlainDone) : Type 0 where
  pub threads : ThreadsDone t next.1 w.threads next.0.threads
  pub agrees : WorldAgrees fs next.0

-- a thread that ends
ended_agrees : (fs : List ℕ) (w : PlainWorld) (t : ℕ) → WorldAgrees fs w → WorldAgrees fs (with_thread w t ended)
ended_agrees fs w t h = record {
  threads = every_set (thread_agrees fs) w.threads t ended h.threads refl;
  soon = every_set waits_soon w.threads t ended h.soon refl;
  ivars = h.ivars;
  mvars = h.mvars;
  mailboxes = h.mailboxes;
  ports = h.ports;
}

fails_so : (fs : List ℕ) (w : PlainWorld) (t : ℕ) (name : List ℕ) → WorldAgrees fs w → Performs fs w t (with_thread w t ended, fails name)
fails_so fs w t name h = record { threads = refl; agrees = ended_agrees fs w t h }

-- the same where one, two or three refusals come first
module _ {R : Type 0} (fs : List ℕ) (w : PlainWorld) (t : ℕ) (so : R → PlainDone) (new : PlainWorld × R) (h : WorldAgrees fs w) (p : Performs fs w t (new.0, so new.1)) where
  one : (a : Bool) (r : Refusal) → Performs fs w t (or_fails w t (done so (refuse_if a r (Ok new))))
  one true r = fails_so fs w t (name_of r) h
  one false r = p

  two : (a b : Bool) (r s : Refusal) → Performs fs w t (or_fails w t (done so (refuse_if a r (refuse_if b s (Ok new)))))
  two true b r s = fails_so fs w t (name_of r) h
  two false b r s = one b s

  three : (a b c : Bool) (r s u : Refusal) → Performs fs w t (or_fails w t (done so (refuse_if a r (refuse_if b s (refuse_if c u (Ok new))))))
  three true b c r s u = fails_so fs w t (name_of r) h
  three false b c r s u = two b c s u

  by_one : (o : Option Refusal) → Performs fs w t (or_fails w t (done so (refuse_by o (Ok new))))
  by_one (Some r) = fails_so fs w t (name_of r) h
  by_one None = p

  by_two : (o : Option Refusal) (a : Bool) (r : Refusal) → Performs fs w t (or_fails w t (done so (refuse_by o (refuse_if a r (Ok new)))))
  by_two (Some s) a r = fails_so fs w t (name_of s) h
  by_two None a r = one a r

unread_agree : (fs : List ℕ) (qs : List (List PlainValue)) (p : ℕ) → Every (all_agree fs) qs → all_agree fs (unwrap_or (slice_get qs p) []) ≡ true
unread_agree fs [] p h = refl
unread_agree fs (q ∷ qs) zero h = h.0
unread_agree fs (q ∷ qs) (suc p) h = unread_agree fs qs p h.1

-- where a wait is accepted, it waits for no tick above the greatest
first_none : (a b : Option Refusal) → first_of_both a b ≡ None → b ≡ None
first_none (Some r) b e = cc
first_none None b e = e

if_none : (a : Bool) (r : Refusal) (b : Option Refusal) → first_if a r b ≡ None → (a ≡ false) × (b ≡ None)
if_none true r b e = cc
if_none false r b e = (refl, e)

near_wait : (w : PlainWorld) (t : ℕ) (g : PlainGroup) → sync_refusal w t g ≡ None → list_any (is_far w.tick) (bases g) ≡ false
near_wait w t g e =
    let nack : Option Refusal = first_if (not (can_enter w t (nacks_of (scopes g)))) refusal.Nack None in
    let far : Option Refusal = first_if (list_any (is_far w.tick) (bases g)) refusal.Far nack in
    let deep : Option Refusal = first_if (not (group_fits g)) refusal.Deep far in
    let many : Option Refusal = first_if (nat_lt max_leaves (leaf_count g)) refusal.Leaves deep in
    let object : Option Refusal = first_if (not (group_exists w g)) refusal.Object many in
    let a = first_none (thread_refusal (slice_get w.threads t)) object e in
    let b = if_none (not (group_exists w g)) refusal.Object many a in
    let c = if_none (nat_lt max_leaves (leaf_count g)) refusal.Leaves deep b.1 in
    let d = if_none (not (group_fits g)) refusal.Deep far c.1 in
    (if_none (list_any (is_far w.tick) (bases g)) refusal.Far nack d.1).0

sync_at : (fs : List ℕ) (w : PlainWorld) (t : ℕ) (g : PlainGroup) (o : Option Refusal) → WorldAgrees fs w → event_agrees fs (event_of g) ≡ true → sync_refusal w t g ≡ o
    → Performs fs w t (or_fails w t (done (λ (u : Unit {0}). waits) (refuse_by o (Ok (waiting w t (entered w.tick g), tt)))))
sync_at fs w t g (Some r) h e is = fails_so fs w t (name_of r) h
sync_at fs w t g None h e is = record {
  threads = (entered w.tick g, refl);
  agrees = record {
    threads = every_set (thread_agrees fs) w.threads t (pending_on (entered w.tick g)) h.threads (entered_agrees fs w.tick g ∙ e);
    soon = every_set waits_soon w.threads t (pending_on (entered w.tick g)) h.soon (entered_soon w.tick g (near_wait w t g is));
    ivars = h.ivars;
    mvars = h.mvars;
    mailboxes = h.mailboxes;
    ports = h.ports;
  };
}

-- what is asked is done, or the thread ends
pub performs : (fs : List ℕ) (w : PlainWorld) (t : ℕ) (a : PlainAsk) → WorldAgrees fs w → ask_agrees fs a ≡ true → Performs fs w t (performed w t a)
performs fs w t ask.nothing h e = record { threads = refl; agrees = h }
performs fs w t ask.yield h e = record { threads = refl; agrees = h }
performs fs w t (ask.spawn f) h e =
    one fs w t (λ n. spawns n.0 f) (record w { threads = w.threads ++ running ∷ [] }, record { 0 = length w.threads }) h
    (record {
      threads = (refl, refl);
      agrees = record {
        threads = every_append (thread_agrees fs) w.threads (running ∷ []) h.threads (refl, tt);
        soon = every_append waits_soon w.threads (running ∷ []) h.soon (refl, tt);
        ivars = h.ivars;
        mvars = h.mvars;
        mailboxes = h.mailboxes;
        ports = h.ports;
      };
    }) (nat_le max_threads (length w.threads)) refusal.Full
performs fs w t ask.make_chan h e =
    one fs w t (λ c. gets (a_value (chan c.0))) (record w { channels = w.channels + 1 }, record { 0 = w.channels }) h
    (record { threads = refl; agrees = record { threads = h.threads; soon = h.soon; ivars = h.ivars; mvars = h.mvars; mailboxes = h.mailboxes; ports = h.ports } })
    (nat_le max_objects w.channels) refusal.Full
performs fs w t ask.make_swap h e =
    one fs w t (λ s. gets (a_value (swapchan s.0))) (record w { swaps = w.swaps + 1 }, record { 0 = w.swaps }) h
    (record { threads = refl; agrees = record { threads = h.threads; soon = h.soon; ivars = h.ivars; mvars = h.mvars; mailboxes = h.mailboxes; ports = h.ports } })
    (nat_le max_objects w.swaps) refusal.Full
performs fs w t ask.make_ivar h e =
    one fs w t (λ i. gets (a_value (ivar i.0))) (record w { ivars = w.ivars ++ None ∷ [] }, record { 0 = length w.ivars }) h
    (record {
      threads = refl;
      agrees = record {
        threads = h.threads;
        soon = h.soon;
        ivars = every_append (maybe_agrees fs) w.ivars (None ∷ []) h.ivars
            (refl, tt);
        mvars = h.mvars;
        mailboxes = h.mailboxes;
        ports = h.ports;
      };
    })
    (nat_le max_objects (length w.ivars)) refusal.Full
performs fs w t (ask.make_mvar v) h e =
    two fs w t (λ m. gets (a_value (mvar m.0))) (record w { mvars = w.mvars ++ v ∷ [] }, record { 0 = length w.mvars }) h
    (record {
      threads = refl;
      agrees = record {
        threads = h.threads;
        soon = h.soon;
        ivars = h.ivars;
        mvars = every_append (maybe_agrees fs) w.mvars (v ∷ [])
            h.mvars (e, tt);
        mailboxes = h.mailboxes;
        ports = h.ports;
      };
    })
    (not (held_fits v)) (nat_le max_objects (length w.mvars)) refusal.Deep refusal.Full
performs fs w t ask.make_mailbox h e =
    one fs w t (λ b. gets (a_value (mailbox b.0))) (record w { mailboxes = w.mailboxes ++ [] ∷ [] }, record { 0 = length w.mailboxes }) h
    (record {
      threads = refl;
      agrees = record {
        threads = h.threads;
        soon = h.soon;
        ivars = h.ivars;
        mvars = h.mvars;
        mailboxes = every_append (all_agree fs)
            w.mailboxes ([] ∷ []) h.mailboxes (refl, tt);
        ports = h.ports;
      };
    })
    (nat_le max_objects (length w.mailboxes)) refusal.Full
performs fs w t ask.make_mchan h e =
    one fs w t (λ x. gets (a_value (mchan x.0))) (record w { mchans = w.mchans ++ [] ∷ [] }, record { 0 = length w.mchans }) h
    (record { threads = refl; agrees = record { threads = h.threads; soon = h.soon; ivars = h.ivars; mvars = h.mvars; mailboxes = h.mailboxes; ports = h.ports } })
    (nat_le max_objects (length w.mchans)) refusal.Full
performs fs w t (ask.make_port x) h e =
    two fs w t (λ p. gets (a_value (port p.0))) (record w { mchans = with_port w.mchans x (length w.ports); ports = w.ports ++ [] ∷ [] }, record { 0 = length w.ports }) h
    (record {
      threads = refl;
      agrees = record {
        threads = h.threads;
        soon = h.soon;
        ivars = h.ivars;
        mvars = h.mvars;
        mailboxes = h.mailboxes;
        ports =
            every_append (all_agree fs) w.ports ([] ∷ []) h.ports (refl, tt);
      };
    })
    (not (nat_lt x (length w.mchans))) (nat_le max_objects (length w.ports)) refusal.Object refusal.Full
performs fs w t (ask.copy_port p) h e =
    two fs w t (λ q. gets (a_value (port q.0))) (
      record w {
        mchans = map (heard_by (length w.ports) p) w.mchans;
        ports =
            w.ports ++ unwrap_or (slice_get w.ports p) [] ∷ [];
      },
      record { 0 = length w.ports },
    ) h
    (record {
      threads = refl;
      agrees = record {
        threads = h.threads;
        soon = h.soon;
        ivars = h.ivars;
        mvars = h.mvars;
        mailboxes = h.mailboxes;
        ports =
            every_append (all_agree fs) w.ports (unwrap_or (slice_get w.ports p) [] ∷ []) h.ports
            (unread_agree fs w.ports p h.ports, tt);
      };
    })
    (not (nat_lt p (length w.ports))) (nat_le max_objects (length w.ports)) refusal.Object refusal.Full
performs fs w t (ask.iput i v) h e =
    three fs w t (λ _. gets (a_value unit)) (record w { ivars = slice_set w.ivars i (Some v) }, tt) h
    (record {
      threads = refl;
      agrees = record {
        threads = h.threads;
        soon = h.soon;
        ivars = every_set (maybe_agrees fs) w.ivars i (Some v) h.ivars e;
        mvars =
            h.mvars;
        mailboxes = h.mailboxes;
        ports = h.ports;
      };
    })
    (not (nat_lt i (length w.ivars))) (is_full (slice_get w.ivars i)) (not (value_fits v)) refusal.Object refusal.Put refusal.Deep
performs fs w t (ask.mput m v) h e =
    three fs w t (λ _. gets (a_value unit)) (record w { mvars = slice_set w.mvars m (Some v) }, tt) h
    (record {
      threads = refl;
      agrees = record {
        threads = h.threads;
        soon = h.soon;
        ivars = h.ivars;
        mvars = every_set (maybe_agrees fs) w.mvars m (Some v)
            h.mvars e;
        mailboxes = h.mailboxes;
        ports = h.ports;
      };
    })
    (not (nat_lt m (length w.mvars))) (is_full (slice_get w.mvars m)) (not (value_fits v)) refusal.Object refusal.Put refusal.Deep
performs fs w t (ask.mail b v) h e =
    three fs w t (λ _. gets (a_value unit)) (record w { mailboxes = added_at w.mailboxes b v }, tt) h
    (record { threads = refl; agrees = record { threads = h.threads; soon = h.soon; ivars = h.ivars; mvars = h.mvars; mailboxes = added_agrees fs w.mailboxes b v h.mailboxes e; ports = h.ports } })
    (not (nat_lt b (length w.mailboxes))) (not (value_fits v)) (is_full_at w.mailboxes b) refusal.Object refusal.Deep refusal.Full
performs fs w t (ask.multicast x v) h e =
    three fs w t (λ _. gets (a_value unit)) (record w { ports = posted v (ports_at w.mchans x) w.ports }, tt) h
    (record {
      threads = refl;
      agrees = record {
        threads = h.threads;
        soon = h.soon;
        ivars = h.ivars;
        mvars = h.mvars;
        mailboxes = h.mailboxes;
        ports =
            posted_agrees fs (ports_at w.mchans x) w.ports v h.ports e;
      };
    })
    (not (nat_lt x (length w.mchans))) (not (value_fits v)) (any_is_full (ports_at w.mchans x) w.ports) refusal.Object refusal.Deep refusal.Full
performs fs w t (ask.print v) h e = record { threads = refl; agrees = h }
performs fs w t ask.now h e = record { threads = refl; agrees = h }
performs fs w t ask.fresh_nack h e =
    by_two fs w t (λ k. gets (a_nack k.0)) (record w { nacks = w.nacks ++ fresh_of t ∷ [] }, record { 0 = length w.nacks }) h
    (record { threads = refl; agrees = record { threads = h.threads; soon = h.soon; ivars = h.ivars; mvars = h.mvars; mailboxes = h.mailboxes; ports = h.ports } })
    (thread_refusal (slice_get w.threads t)) (nat_le max_objects (length w.nacks)) refusal.Full
performs fs w t (ask.sync g) h e = sync_at fs w t g (sync_refusal w t g) h e refl
performs fs w t ask.end h e =
    by_one fs w t (λ _. ends) (with_thread w t ended, tt) h (record { threads = refl; agrees = ended_agrees fs w t h }) (thread_refusal (slice_get w.threads t))
performs fs w t (ask.fault why) h e =
    by_one fs w t (λ _. fails (fault_name why)) (with_thread w t ended, tt) h (record { threads = refl; agrees = ended_agrees fs w t h }) (thread_refusal (slice_get w.threads t))
