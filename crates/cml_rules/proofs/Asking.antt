-- What is asked is done exactly as the rules say, ask by ask.
use Rattle.std.proofs.Common.{◌≡◌, ℕ, ◌+◌, Bool, true, false, not, nat_lt, nat_le, [], ◌∷◌, ◌++◌, length, map, Option, Some, None, Ok, inl, inr, refl, ap, sym, ◌∙◌, subst}
use Rattle.std.specs.Prelude.{pos, slice_get, slice_set, unwrap_or}
use Rattle.std.specs.List.{list_any}
use Rattle.cml_text.specs.Lines.{line}
use Rattle.cml_value.specs.Limits.{value_fits}
use Rattle.cml_value.specs.Value.{unit, int, chan, swapchan, ivar, mvar, mailbox, mchan, port}
use Rattle.cml_value.specs.Group.{PlainGroup, bases, leaf_count, group_fits, scopes, nacks_of}
use Rattle.cml_value.specs.declared.number.Tid.{Tid}
use Rattle.cml_value.specs.declared.number.ChanId.{ChanId}
use Rattle.cml_value.specs.declared.number.SwapId.{SwapId}
use Rattle.cml_value.specs.declared.number.IVarId.{IVarId}
use Rattle.cml_value.specs.declared.number.MVarId.{MVarId}
use Rattle.cml_value.specs.declared.number.MboxId.{MboxId}
use Rattle.cml_value.specs.declared.number.McastId.{McastId}
use Rattle.cml_value.specs.declared.number.PortId.{PortId}
use Rattle.cml_value.specs.declared.number.NackId.{NackId}
use Rattle.cml_group.specs.LaidOut.{max_leaves}
use Rattle.cml_scan.specs.World.{running, pending_on, ended, fresh_of, live, PlainWorld}
use Rattle.cml_scan.specs.Light.{is_full}
use Rattle.cml_objects.specs.Queues.{is_full_at, added_at}
use Rattle.cml_objects.specs.Posts.{any_is_full, posted}
use Rattle.cml_step.specs.Asks as ask
use Rattle.cml_step.specs.Asks.{PlainAsk, a_value, a_nack}
use Rattle.cml_step.specs.Faults.{fault_name}
use Rattle.cml_book.specs.declared.refusal.Refusal.{Refusal}
use Rattle.cml_book.specs.declared.refusal.Refusal.TheVariants as refusal
use Rattle.cml_book.specs.Entering.{entered, is_far}
use Rattle.cml_book.specs.MakeObjects.{held_fits}
use Rattle.cml_book.specs.MakePort.{ports_at, with_port, heard_by}
use Rattle.cml_book.specs.Outcomes.{Outcome, refuse_if, refuse_by, first_if, first_of_both, thread_refusal, max_threads, max_objects}
use Rattle.cml_book.specs.Sync.{with_each, group_exists, can_enter, sync_refusal, waiting}
use Rattle.cml_book.proofs.Accepted.{accepted}
use Rattle.cml_hub.specs.Performed.{PlainDone, goes, gets, spawns, prints, waits, ends, fails, spoken, done, asked}
use Rattle.cml_rules.specs.Rules.{branches}
use Rattle.cml_rules.specs.Acts.{AreNew, Arrives, Enacts, goes_on, yields, prints_out, tells_time, begins, exits, dies, new_chan, new_swap, new_ivar, new_mvar, new_mailbox, new_mchan}
use Rattle.cml_rules.specs.Acts.{new_port, new_copy, fills_ivar, fills_mvar, mails, multicasts, new_nack, begins_to_wait}
use Rattle.cml_rules.proofs.Acting.{there, within, empty_there, by_none, by_one, by_two, by_three, by_maybe, by_maybe_one, IsDone, past_one, past_two, past_three}
use Rattle.cml_rules.proofs.Acting.{same_list, added_is, posted_comes, ports_are, branches_enter, new_from, new_to}
use Rattle.cml_rules.proofs.Forcing.{enters_from, enters_to}
use Rattle.cml_rules.proofs.Losing.{branches_are}

-- the nacks of a group that enters
nacks_enter : (now : ℕ) (g : PlainGroup) → nacks_of (scopes (entered now g)) ≡ branches g
nacks_enter now g = branches_are (entered now g) ∙ branches_enter now g

begun : (w : PlainWorld) (t : ℕ) (g : PlainGroup) → sync_refusal w t g ≡ None → Enacts w t (ask.sync g) (waiting w t (entered w.tick g)) waits
begun w t g e =
    let a = accepted w t g e in
    let new = subst (AreNew w t) (branches_are g) (new_from w t (nacks_of (scopes g)) a.enters) in
    subst (λ ks. Enacts w t (ask.sync g) (record w { threads = slice_set w.threads t (pending_on (entered w.tick g)); nacks = with_each ks live w.nacks }) waits)
    (sym (nacks_enter w.tick g))
    (begins_to_wait g (entered w.tick g) (enters_from w.tick g) a.exists new)

pub derived : (w : PlainWorld) (t : ℕ) (a : PlainAsk) (next : PlainWorld) (gone : PlainDone) → Path (Outcome PlainDone) (asked w t a) (Ok (next, gone)) → Enacts w t a next gone
derived w t ask.nothing next gone e = by_none {R = PlainDone} w t ask.nothing (λ d. d) (w, goes) next gone goes_on e
derived w t ask.yield next gone e = by_none {R = PlainDone} w t ask.yield (λ d. d) (w, gets (a_value unit)) next gone yields e
derived w t (ask.print v) next gone e = by_none {R = PlainDone} w t (ask.print v) (λ d. d) (w, prints (line (spoken v))) next gone (prints_out v) e
derived w t ask.now next gone e = by_none {R = PlainDone} w t ask.now (λ d. d) (w, gets (a_value (int (pos w.tick)))) next gone tells_time e
derived w t (ask.spawn f) next gone e =
    by_one {R = Tid} w t (ask.spawn f) (λ n. spawns n.0 f) (record w { threads = w.threads ++ running ∷ [] }, record { 0 = length w.threads }) next gone
    (nat_le max_threads (length w.threads)) refusal.Full (λ _. begins f) e
derived w t ask.end next gone e =
    by_maybe {R = Unit {0}} w t ask.end (λ _. ends) (record w { threads = slice_set w.threads t ended }, tt) next gone
    (thread_refusal (slice_get w.threads t)) (λ _. exits) e
derived w t (ask.fault why) next gone e =
    by_maybe {R = Unit {0}} w t (ask.fault why) (λ _. fails (fault_name why)) (record w { threads = slice_set w.threads t ended }, tt) next gone
    (thread_refusal (slice_get w.threads t)) (λ _. dies why) e
derived w t ask.make_chan next gone e =
    by_one {R = ChanId} w t ask.make_chan (λ c. gets (a_value (chan c.0))) (record w { channels = w.channels + 1 }, record { 0 = w.channels }) next gone
    (nat_le max_objects w.channels) refusal.Full (λ _. new_chan) e
derived w t ask.make_swap next gone e =
    by_one {R = SwapId} w t ask.make_swap (λ s. gets (a_value (swapchan s.0))) (record w { swaps = w.swaps + 1 }, record { 0 = w.swaps }) next gone
    (nat_le max_objects w.swaps) refusal.Full (λ _. new_swap) e
derived w t ask.make_ivar next gone e =
    by_one {R = IVarId} w t ask.make_ivar (λ i. gets (a_value (ivar i.0))) (record w { ivars = w.ivars ++ None ∷ [] }, record { 0 = length w.ivars }) next gone
    (nat_le max_objects (length w.ivars)) refusal.Full (λ _. new_ivar) e
derived w t (ask.make_mvar o) next gone e =
    by_two {R = MVarId} w t (ask.make_mvar o) (λ m. gets (a_value (mvar m.0))) (record w { mvars = w.mvars ++ o ∷ [] }, record { 0 = length w.mvars }) next gone
    (not (held_fits o)) (nat_le max_objects (length w.mvars)) refusal.Deep refusal.Full (λ _ _. new_mvar o) e
derived w t ask.make_mailbox next gone e =
    by_one {R = MboxId} w t ask.make_mailbox (λ b. gets (a_value (mailbox b.0))) (record w { mailboxes = w.mailboxes ++ [] ∷ [] }, record { 0 = length w.mailboxes }) next gone
    (nat_le max_objects (length w.mailboxes)) refusal.Full (λ _. new_mailbox) e
derived w t ask.make_mchan next gone e =
    by_one {R = McastId} w t ask.make_mchan (λ x. gets (a_value (mchan x.0))) (record w { mchans = w.mchans ++ [] ∷ [] }, record { 0 = length w.mchans }) next gone
    (nat_le max_objects (length w.mchans)) refusal.Full (λ _. new_mchan) e
derived w t (ask.make_port x) next gone e =
    by_two {R = PortId} w t (ask.make_port x) (λ p. gets (a_value (port p.0)))
    (record w { mchans = with_port w.mchans x (length w.ports); ports = w.ports ++ [] ∷ [] }, record { 0 = length w.ports }) next gone
    (not (nat_lt x (length w.mchans))) (nat_le max_objects (length w.ports)) refusal.Object refusal.Full
    (λ a _.
    let c = there w.mchans x a in
    subst (λ ps. Enacts w t (ask.make_port x) (record w { mchans = slice_set w.mchans x (ps ++ length w.ports ∷ []); ports = w.ports ++ [] ∷ [] }) (gets (a_value (port (length w.ports)))))
    (sym (ports_are w.mchans x c.0 c.1))
    (new_port x c.0 c.1)) e
derived w t (ask.copy_port p) next gone e =
    by_two {R = PortId} w t (ask.copy_port p) (λ q. gets (a_value (port q.0)))
    (record w { mchans = map (heard_by (length w.ports) p) w.mchans; ports = w.ports ++ unwrap_or (slice_get w.ports p) [] ∷ [] }, record { 0 = length w.ports }) next gone
    (not (nat_lt p (length w.ports))) (nat_le max_objects (length w.ports)) refusal.Object refusal.Full
    (λ a _.
    let q = there w.ports p a in
    subst (λ vs. Enacts w t (ask.copy_port p) (record w { mchans = map (heard_by (length w.ports) p) w.mchans; ports = w.ports ++ vs ∷ [] }) (gets (a_value (port (length w.ports)))))
    (ap (λ o. unwrap_or o []) (sym q.1))
    (new_copy p q.0 q.1)) e
derived w t (ask.iput i v) next gone e =
    by_three {R = Unit {0}} w t (ask.iput i v) (λ _. gets (a_value unit)) (record w { ivars = slice_set w.ivars i (Some v) }, tt) next gone
    (not (nat_lt i (length w.ivars))) (is_full (slice_get w.ivars i)) (not (value_fits v)) refusal.Object refusal.Put refusal.Deep
    (λ a b _. fills_ivar i v (empty_there w.ivars i a b)) e
derived w t (ask.mput m v) next gone e =
    by_three {R = Unit {0}} w t (ask.mput m v) (λ _. gets (a_value unit)) (record w { mvars = slice_set w.mvars m (Some v) }, tt) next gone
    (not (nat_lt m (length w.mvars))) (is_full (slice_get w.mvars m)) (not (value_fits v)) refusal.Object refusal.Put refusal.Deep
    (λ a b _. fills_mvar m v (empty_there w.mvars m a b)) e
derived w t (ask.mail b v) next gone e =
    by_three {R = Unit {0}} w t (ask.mail b v) (λ _. gets (a_value unit)) (record w { mailboxes = added_at w.mailboxes b v }, tt) next gone
    (not (nat_lt b (length w.mailboxes))) (not (value_fits v)) (is_full_at w.mailboxes b) refusal.Object refusal.Deep refusal.Full
    (λ a _ _.
    let q = there w.mailboxes b a in
    subst (λ qs. Enacts w t (ask.mail b v) (record w { mailboxes = qs }) (gets (a_value unit))) (sym (added_is w.mailboxes b v q.0 q.1)) (mails b v q.0 q.1)) e
derived w t (ask.multicast x v) next gone e =
    by_three {R = Unit {0}} w t (ask.multicast x v) (λ _. gets (a_value unit)) (record w { ports = posted v (ports_at w.mchans x) w.ports }, tt) next gone
    (not (nat_lt x (length w.mchans))) (not (value_fits v)) (any_is_full (ports_at w.mchans x) w.ports) refusal.Object refusal.Deep refusal.Full
    (λ a _ _.
    let c = there w.mchans x a in
    multicasts x v c.0 (posted v (ports_at w.mchans x) w.ports) c.1
    (subst (λ ps. Arrives ps v w.ports (posted v (ports_at w.mchans x) w.ports)) (ports_are w.mchans x c.0 c.1) (posted_comes v (ports_at w.mchans x) w.ports))) e
derived w t ask.fresh_nack next gone e =
    by_maybe_one {R = NackId} w t ask.fresh_nack (λ k. gets (a_nack k.0)) (record w { nacks = w.nacks ++ fresh_of t ∷ [] }, record { 0 = length w.nacks }) next gone
    (thread_refusal (slice_get w.threads t)) (nat_le max_objects (length w.nacks)) refusal.Full (λ _ _. new_nack) e
derived w t (ask.sync g) next gone e =
    by_maybe {R = Unit {0}} w t (ask.sync g) (λ _. waits) (waiting w t (entered w.tick g), tt) next gone (sync_refusal w t g) (begun w t g) e

-- a running thread is not refused for what it does
runs_on : (w : PlainWorld) (t : ℕ) → slice_get w.threads t ≡ Some running → thread_refusal (slice_get w.threads t) ≡ None
runs_on w t r = ap thread_refusal r

module _ {R : Type 0} (so : R → PlainDone) (x : PlainWorld × R) where
  past_none : (o : Option Refusal) → o ≡ None → IsDone (done so (refuse_by o (Ok x))) (x.0, so x.1)
  past_none None e = inl refl
  past_none (Some r) e = absurd (no e)
    where
      no : Some r ≡ None → ⊥
      no e = cc

  past_none_one : (o : Option Refusal) (a : Bool) → o ≡ None → IsDone (done so (refuse_by o (refuse_if a refusal.Full (Ok x)))) (x.0, so x.1)
  past_none_one None a e = past_one so x a refusal.Full (inr tt)
  past_none_one (Some r) a e = absurd (no e)
    where
      no : Some r ≡ None → ⊥
      no e = cc

  -- the refusals of a wait, of which only limits are left
  past_wait : (o : Option Refusal) (there many deep far new : Bool) → o ≡ None → there ≡ true → new ≡ true
      → IsDone
      (done so (refuse_by (first_of_both o (first_if (not there) refusal.Object (first_if many refusal.Leaves (first_if deep refusal.Deep
      (first_if far refusal.Far (first_if (not new) refusal.Nack None)))))) (Ok x))) (x.0, so x.1)
  past_wait o there many deep far new e f g = at o there many deep far new e f g
    where
      at : (o : Option Refusal) (there many deep far new : Bool) → o ≡ None → there ≡ true → new ≡ true
          → IsDone
          (done so (refuse_by (first_of_both o (first_if (not there) refusal.Object (first_if many refusal.Leaves (first_if deep refusal.Deep
          (first_if far refusal.Far (first_if (not new) refusal.Nack None)))))) (Ok x))) (x.0, so x.1)
      at (Some r) there many deep far new e f g = cc
      at None false many deep far new e f g = cc
      at None true true deep far new e f g = inr tt
      at None true false true far new e f g = inr tt
      at None true false false true new e f g = inr tt
      at None true false false false true e f g = inl refl
      at None true false false false false e f g = cc

pub done_so : (w : PlainWorld) (t : ℕ) (a : PlainAsk) → slice_get w.threads t ≡ Some running → (next : PlainWorld) (gone : PlainDone) → Enacts w t a next gone → IsDone (asked w t a) (next, gone)
done_so w t a r next gone goes_on = inl refl
done_so w t a r next gone yields = inl refl
done_so w t a r next gone (prints_out v) = inl refl
done_so w t a r next gone tells_time = inl refl
done_so w t a r next gone (begins f) =
    past_one {R = Tid} (λ n. spawns n.0 f) (record w { threads = w.threads ++ running ∷ [] }, record { 0 = length w.threads }) (nat_le max_threads (length w.threads)) refusal.Full (inr tt)
done_so w t a r next gone exits = past_none {R = Unit {0}} (λ _. ends) (record w { threads = slice_set w.threads t ended }, tt) (thread_refusal (slice_get w.threads t)) (runs_on w t r)
done_so w t a r next gone (dies why) =
    past_none {R = Unit {0}} (λ _. fails (fault_name why)) (record w { threads = slice_set w.threads t ended }, tt) (thread_refusal (slice_get w.threads t)) (runs_on w t r)
done_so w t a r next gone new_chan =
    past_one {R = ChanId} (λ c. gets (a_value (chan c.0))) (record w { channels = w.channels + 1 }, record { 0 = w.channels }) (nat_le max_objects w.channels) refusal.Full (inr tt)
done_so w t a r next gone new_swap =
    past_one {R = SwapId} (λ s. gets (a_value (swapchan s.0))) (record w { swaps = w.swaps + 1 }, record { 0 = w.swaps }) (nat_le max_objects w.swaps) refusal.Full (inr tt)
done_so w t a r next gone new_ivar =
    past_one {R = IVarId} (λ i. gets (a_value (ivar i.0))) (record w { ivars = w.ivars ++ None ∷ [] }, record { 0 = length w.ivars }) (nat_le max_objects (length w.ivars)) refusal.Full (inr tt)
done_so w t a r next gone (new_mvar o) =
    past_two {R = MVarId} (λ m. gets (a_value (mvar m.0))) (record w { mvars = w.mvars ++ o ∷ [] }, record { 0 = length w.mvars })
    (not (held_fits o)) (nat_le max_objects (length w.mvars)) refusal.Deep refusal.Full (inr tt) (inr tt)
done_so w t a r next gone new_mailbox =
    past_one {R = MboxId} (λ b. gets (a_value (mailbox b.0))) (record w { mailboxes = w.mailboxes ++ [] ∷ [] }, record { 0 = length w.mailboxes })
    (nat_le max_objects (length w.mailboxes)) refusal.Full (inr tt)
done_so w t a r next gone new_mchan =
    past_one {R = McastId} (λ x. gets (a_value (mchan x.0))) (record w { mchans = w.mchans ++ [] ∷ [] }, record { 0 = length w.mchans })
    (nat_le max_objects (length w.mchans)) refusal.Full (inr tt)
done_so w t a r next gone (new_port x ps e) =
    subst
    (λ l. IsDone (asked w t (ask.make_port x)) (record w { mchans = slice_set w.mchans x (l ++ length w.ports ∷ []); ports = w.ports ++ [] ∷ [] }, gets (a_value (port (length w.ports)))))
    (ports_are w.mchans x ps e)
    (past_two {R = PortId} (λ p. gets (a_value (port p.0))) (record w { mchans = with_port w.mchans x (length w.ports); ports = w.ports ++ [] ∷ [] }, record { 0 = length w.ports })
    (not (nat_lt x (length w.mchans))) (nat_le max_objects (length w.ports)) refusal.Object refusal.Full (inl (within w.mchans x ps e)) (inr tt))
done_so w t a r next gone (new_copy p vs e) =
    subst
    (λ l. IsDone (asked w t (ask.copy_port p)) (record w { mchans = map (heard_by (length w.ports) p) w.mchans; ports = w.ports ++ l ∷ [] }, gets (a_value (port (length w.ports)))))
    (ap (λ o. unwrap_or o []) e)
    (past_two {R = PortId} (λ q. gets (a_value (port q.0)))
    (record w { mchans = map (heard_by (length w.ports) p) w.mchans; ports = w.ports ++ unwrap_or (slice_get w.ports p) [] ∷ [] }, record { 0 = length w.ports })
    (not (nat_lt p (length w.ports))) (nat_le max_objects (length w.ports)) refusal.Object refusal.Full (inl (within w.ports p vs e)) (inr tt))
done_so w t a r next gone (fills_ivar i v e) =
    past_three {R = Unit {0}} (λ _. gets (a_value unit)) (record w { ivars = slice_set w.ivars i (Some v) }, tt)
    (not (nat_lt i (length w.ivars))) (is_full (slice_get w.ivars i)) (not (value_fits v)) refusal.Object refusal.Put refusal.Deep
    (inl (within w.ivars i None e)) (inl (ap is_full e)) (inr tt)
done_so w t a r next gone (fills_mvar m v e) =
    past_three {R = Unit {0}} (λ _. gets (a_value unit)) (record w { mvars = slice_set w.mvars m (Some v) }, tt)
    (not (nat_lt m (length w.mvars))) (is_full (slice_get w.mvars m)) (not (value_fits v)) refusal.Object refusal.Put refusal.Deep
    (inl (within w.mvars m None e)) (inl (ap is_full e)) (inr tt)
done_so w t a r next gone (mails b v vs e) =
    subst (λ qs. IsDone (asked w t (ask.mail b v)) (record w { mailboxes = qs }, gets (a_value unit))) (added_is w.mailboxes b v vs e)
    (past_three {R = Unit {0}} (λ _. gets (a_value unit)) (record w { mailboxes = added_at w.mailboxes b v }, tt)
    (not (nat_lt b (length w.mailboxes))) (not (value_fits v)) (is_full_at w.mailboxes b) refusal.Object refusal.Deep refusal.Full
    (inl (within w.mailboxes b vs e)) (inr tt) (inr tt))
done_so w t a r next gone (multicasts x v ps new e c) =
    subst (λ qs. IsDone (asked w t (ask.multicast x v)) (record w { ports = qs }, gets (a_value unit)))
    (ap (λ l. posted v l w.ports) (ports_are w.mchans x ps e) ∙ same_list (posted v ps w.ports) new (λ p. posted_comes v ps w.ports p ∙ sym (c p)))
    (past_three {R = Unit {0}} (λ _. gets (a_value unit)) (record w { ports = posted v (ports_at w.mchans x) w.ports }, tt)
    (not (nat_lt x (length w.mchans))) (not (value_fits v)) (any_is_full (ports_at w.mchans x) w.ports) refusal.Object refusal.Deep refusal.Full
    (inl (within w.mchans x ps e)) (inr tt) (inr tt))
done_so w t a r next gone new_nack =
    past_none_one {R = NackId} (λ k. gets (a_nack k.0)) (record w { nacks = w.nacks ++ fresh_of t ∷ [] }, record { 0 = length w.nacks })
    (thread_refusal (slice_get w.threads t)) (nat_le max_objects (length w.nacks)) (runs_on w t r)
done_so w t a r next gone (begins_to_wait g h d there new) =
    subst (λ ks. IsDone (asked w t (ask.sync g)) (record w { threads = slice_set w.threads t (pending_on h); nacks = with_each ks live w.nacks }, waits)) (nacks_enter w.tick g)
    (subst (λ k. IsDone (asked w t (ask.sync g)) (record w { threads = slice_set w.threads t (pending_on k); nacks = with_each (nacks_of (scopes (entered w.tick g))) live w.nacks }, waits))
    (sym (enters_to w.tick g h d))
    (past_wait {R = Unit {0}} (λ _. waits) (waiting w t (entered w.tick g), tt)
    (thread_refusal (slice_get w.threads t)) (group_exists w g) (nat_lt max_leaves (leaf_count g)) (not (group_fits g)) (list_any (is_far w.tick) (bases g))
    (can_enter w t (nacks_of (scopes g)))
    (runs_on w t r) there (new_to w t (nacks_of (scopes g)) (subst (AreNew w t) (sym (branches_are g)) new))))
