-- What raises Put is what is refused for it.
use Rattle.std.proofs.Common.{◌≡◌, ℕ, Bool, true, false, not, nat_lt, nat_le, List, length, Option, Some, None, Ok, Err, refl, ap, sym, ◌∙◌}
use Rattle.std.specs.Prelude.{slice_get}
use Rattle.std.specs.List.{list_any}
use Rattle.cml_value.specs.Limits.{value_fits}
use Rattle.cml_value.specs.Value.{PlainValue}
use Rattle.cml_value.specs.Group.{bases, leaf_count, group_fits, scopes, nacks_of}
use Rattle.cml_group.specs.LaidOut.{max_leaves}
use Rattle.cml_scan.specs.World.{PlainThread, running, pending_on, ended, PlainWorld}
use Rattle.cml_scan.specs.Light.{is_full}
use Rattle.cml_objects.specs.Queues.{is_full_at}
use Rattle.cml_objects.specs.Posts.{any_is_full}
use Rattle.cml_step.specs.Asks as ask
use Rattle.cml_step.specs.Asks.{PlainAsk}
use Rattle.cml_book.specs.declared.refusal.Refusal.{Refusal}
use Rattle.cml_book.specs.declared.refusal.Refusal.TheVariants as refusal
use Rattle.cml_book.specs.Entering.{is_far}
use Rattle.cml_book.specs.MakeObjects.{held_fits}
use Rattle.cml_book.specs.MakePort.{ports_at}
use Rattle.cml_book.specs.Outcomes.{Outcome, refuse_if, refuse_by, first_if, first_of_both, thread_refusal, max_threads, max_objects}
use Rattle.cml_book.specs.Sync.{group_exists, can_enter, sync_refusal}
use Rattle.cml_hub.specs.Performed.{PlainDone, done, asked}
use Rattle.cml_rules.specs.Acts.{RaisesPut, ivar_is_full, mvar_is_full}
use Rattle.cml_rules.proofs.Acting.{there, within}

-- what is refused for Put
abbrev IsPutRefused : Outcome PlainDone → Type 0
IsPutRefused outcome = Path (Outcome PlainDone) outcome (Err refusal.Put)

put_is : {R : Type 0} (so : R → PlainDone) (x : PlainWorld × R) (a b c : Bool) → a ≡ false → b ≡ true
    → IsPutRefused (done so (refuse_if a refusal.Object (refuse_if b refusal.Put (refuse_if c refusal.Deep (Ok x)))))
put_is so x false true c e f = refl
put_is so x false false c e f = cc
put_is so x true b c e f = cc

pub raised : (w : PlainWorld) (t : ℕ) (a : PlainAsk) → RaisesPut w a → Path (Outcome PlainDone) (asked w t a) (Err refusal.Put)
raised w t a (ivar_is_full i u v e) = put_is _ _ _ _ _ (within w.ivars i (Some u) e) (ap is_full e)
raised w t a (mvar_is_full m u v e) = put_is _ _ _ _ _ (within w.mvars m (Some u) e) (ap is_full e)

-- nothing else is refused for it
module _ {R : Type 0} (so : R → PlainDone) (x : PlainWorld × R) where
  accepted_so : IsPutRefused (Ok (x.0, so x.1)) → ⊥
  accepted_so e = cc

  never_for : (r : Refusal) → (Path Refusal r refusal.Put → ⊥) → IsPutRefused (Err r) → ⊥
  never_for r n e = n (same e)
    where
      same : IsPutRefused (Err r) → Path Refusal r refusal.Put
      same e = cc

  never_one : (a : Bool) (r : Refusal) → (Path Refusal r refusal.Put → ⊥) → IsPutRefused (done so (refuse_if a r (Ok x))) → ⊥
  never_one true r n e = never_for r n e
  never_one false r n e = accepted_so e

  never_two : (a b : Bool) (r s : Refusal) → (Path Refusal r refusal.Put → ⊥) → (Path Refusal s refusal.Put → ⊥) → IsPutRefused (done so (refuse_if a r (refuse_if b s (Ok x)))) → ⊥
  never_two true b r s n m e = never_for r n e
  never_two false b r s n m e = never_one b s m e

  never_three : (a b c : Bool) (r s u : Refusal) → (Path Refusal r refusal.Put → ⊥) → (Path Refusal s refusal.Put → ⊥) → (Path Refusal u refusal.Put → ⊥)
      → IsPutRefused (done so (refuse_if a r (refuse_if b s (refuse_if c u (Ok x))))) → ⊥
  never_three true b c r s u n m l e = never_for r n e
  never_three false b c r s u n m l e = never_two b c s u m l e

  -- the second of three refusals
  second_of : (a b c : Bool) → IsPutRefused (done so (refuse_if a refusal.Object (refuse_if b refusal.Put (refuse_if c refusal.Deep (Ok x))))) → (a ≡ false) × (b ≡ true)
  second_of true b c e = absurd (never_for refusal.Object no_object e)
    where
      no_object : Path Refusal refusal.Object refusal.Put → ⊥
      no_object e = cc
  second_of false true c e = (refl, refl)
  second_of false false c e = absurd (never_one c refusal.Deep no_deep e)
    where
      no_deep : Path Refusal refusal.Deep refusal.Put → ⊥
      no_deep e = cc

  never_maybe : (o : Option Refusal) → (o ≡ Some refusal.Put → ⊥) → IsPutRefused (done so (refuse_by o (Ok x))) → ⊥
  never_maybe None n e = accepted_so e
  never_maybe (Some r) n e = never_for r (λ p. n (ap Some p)) e

  never_maybe_one : (o : Option Refusal) (a : Bool) → (o ≡ Some refusal.Put → ⊥) → IsPutRefused (done so (refuse_by o (refuse_if a refusal.Full (Ok x)))) → ⊥
  never_maybe_one None a n e = never_one a refusal.Full no_full e
    where
      no_full : Path Refusal refusal.Full refusal.Put → ⊥
      no_full e = cc
  never_maybe_one (Some r) a n e = never_for r (λ p. n (ap Some p)) e

no_object : Path Refusal refusal.Object refusal.Put → ⊥
no_object e = cc

no_deep : Path Refusal refusal.Deep refusal.Put → ⊥
no_deep e = cc

no_full : Path Refusal refusal.Full refusal.Put → ⊥
no_full e = cc

no_thread : (o : Option PlainThread) → thread_refusal o ≡ Some refusal.Put → ⊥
no_thread None e = cc
no_thread (Some running) e = cc
no_thread (Some (pending_on g)) e = cc
no_thread (Some ended) e = cc

no_wait : (o : Option Refusal) (object many deep far old : Bool) → (o ≡ Some refusal.Put → ⊥)
    → first_of_both o (first_if object refusal.Object (first_if many refusal.Leaves (first_if deep refusal.Deep (first_if far refusal.Far (first_if old refusal.Nack None))))) ≡ Some refusal.Put → ⊥
no_wait (Some r) object many deep far old n e = n e
no_wait None true many deep far old n e = cc
no_wait None false true deep far old n e = cc
no_wait None false false true far old n e = cc
no_wait None false false false true old n e = cc
no_wait None false false false false true n e = cc
no_wait None false false false false false n e = cc

full_there : (xs : List (Option PlainValue)) (i : ℕ) → not (nat_lt i (length xs)) ≡ false → is_full (slice_get xs i) ≡ true → (u : PlainValue) × (slice_get xs i ≡ Some (Some u))
full_there xs i h e = let x = there xs i h in at x.0 x.1 (ap is_full (sym x.1) ∙ e)
  where
    at : (o : Option PlainValue) → slice_get xs i ≡ Some o → is_full (Some o) ≡ true → (u : PlainValue) × (slice_get xs i ≡ Some (Some u))
    at None f g = cc
    at (Some v) f g = (v, f)

plain : (x : PlainWorld × PlainDone) → IsPutRefused (Ok x) → ⊥
plain x e = cc

pub only_raised : (w : PlainWorld) (t : ℕ) (a : PlainAsk) → Path (Outcome PlainDone) (asked w t a) (Err refusal.Put) → RaisesPut w a
only_raised w t ask.nothing e = absurd (plain _ e)
only_raised w t ask.yield e = absurd (plain _ e)
only_raised w t (ask.print v) e = absurd (plain _ e)
only_raised w t ask.now e = absurd (plain _ e)
only_raised w t (ask.spawn f) e = absurd (never_one _ _ (nat_le max_threads (length w.threads)) refusal.Full no_full e)
only_raised w t ask.end e = absurd (never_maybe _ _ (thread_refusal (slice_get w.threads t)) (no_thread (slice_get w.threads t)) e)
only_raised w t (ask.fault why) e = absurd (never_maybe _ _ (thread_refusal (slice_get w.threads t)) (no_thread (slice_get w.threads t)) e)
only_raised w t ask.make_chan e = absurd (never_one _ _ (nat_le max_objects w.channels) refusal.Full no_full e)
only_raised w t ask.make_swap e = absurd (never_one _ _ (nat_le max_objects w.swaps) refusal.Full no_full e)
only_raised w t ask.make_ivar e = absurd (never_one _ _ (nat_le max_objects (length w.ivars)) refusal.Full no_full e)
only_raised w t (ask.make_mvar o) e = absurd (never_two _ _ (not (held_fits o)) (nat_le max_objects (length w.mvars)) refusal.Deep refusal.Full no_deep no_full e)
only_raised w t ask.make_mailbox e = absurd (never_one _ _ (nat_le max_objects (length w.mailboxes)) refusal.Full no_full e)
only_raised w t ask.make_mchan e = absurd (never_one _ _ (nat_le max_objects (length w.mchans)) refusal.Full no_full e)
only_raised w t (ask.make_port x) e = absurd (never_two _ _ (not (nat_lt x (length w.mchans))) (nat_le max_objects (length w.ports)) refusal.Object refusal.Full no_object no_full e)
only_raised w t (ask.copy_port p) e = absurd (never_two _ _ (not (nat_lt p (length w.ports))) (nat_le max_objects (length w.ports)) refusal.Object refusal.Full no_object no_full e)
only_raised w t (ask.iput i v) e =
    let b = second_of _ _ (not (nat_lt i (length w.ivars))) (is_full (slice_get w.ivars i)) (not (value_fits v)) e in
    let u = full_there w.ivars i b.0 b.1 in
    ivar_is_full i u.0 v u.1
only_raised w t (ask.mput m v) e =
    let b = second_of _ _ (not (nat_lt m (length w.mvars))) (is_full (slice_get w.mvars m)) (not (value_fits v)) e in
    let u = full_there w.mvars m b.0 b.1 in
    mvar_is_full m u.0 v u.1
only_raised w t (ask.mail b v) e =
    absurd (never_three _ _ (not (nat_lt b (length w.mailboxes))) (not (value_fits v)) (is_full_at w.mailboxes b) refusal.Object refusal.Deep refusal.Full no_object no_deep no_full e)
only_raised w t (ask.multicast x v) e =
    absurd
    (never_three _ _ (not (nat_lt x (length w.mchans))) (not (value_fits v)) (any_is_full (ports_at w.mchans x) w.ports) refusal.Object refusal.Deep refusal.Full no_object no_deep no_full e)
only_raised w t ask.fresh_nack e = absurd (never_maybe_one _ _ (thread_refusal (slice_get w.threads t)) (nat_le max_objects (length w.nacks)) (no_thread (slice_get w.threads t)) e)
only_raised w t (ask.sync g) e =
    absurd
    (never_maybe _ _ (sync_refusal w t g)
    (no_wait (thread_refusal (slice_get w.threads t)) (not (group_exists w g)) (nat_lt max_leaves (leaf_count g)) (not (group_fits g)) (list_any (is_far w.tick) (bases g))
    (not (can_enter w t (nacks_of (scopes g)))) (no_thread (slice_get w.threads t))) e)
