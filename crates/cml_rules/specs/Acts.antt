-- Concurrent ML's rules for what a thread does by itself, one step each, as rules of inference by cases, after Reppy, Concurrent Programming in
-- ML (1999): what an event becomes when a wait on it begins, and what it is to spawn, to end, to make an object, to fill one, and to begin to
-- wait. None of these takes what another thread offers: threads that wait go on by the rules of `Rules`, and by no other.
use Rattle.std.specs.Prelude.{ℕ, ◌≡◌, ◌+◌, ◌≤◌, ◌==◌, pos, List, [], ◌∷◌, ◌++◌, length, map, filter, Option, Some, None, option_map, true, if◌then◌else◌, slice_get, slice_set}
use Rattle.cml_text.specs.Lines.{line}
use Rattle.cml_value.specs.Value.{PlainValue, unit, int, chan, swapchan, ivar, mvar, mailbox, mchan, port, PlainFunction, PlainBase, at_tick, after_ticks}
use Rattle.cml_value.specs.Value.{PlainEvent, never, leaf, choose, wrap, guard, with_nack, scope, PlainEvents, no_events, events_and}
use Rattle.cml_value.specs.Group as group
use Rattle.cml_value.specs.Group.{PlainGroup, PlainGroups, no_groups, groups_and}
use Rattle.cml_group.specs.Force.{given_nack, event_of}
use Rattle.cml_scan.specs.World.{running, pending_on, ended, fresh_of, live, PlainWorld}
use Rattle.cml_step.specs.Asks as ask
use Rattle.cml_step.specs.Asks.{PlainAsk, a_value, a_nack}
use Rattle.cml_step.specs.Faults.{fault_name}
use Rattle.cml_step.specs.declared.fault.Fault.{Fault}
use Rattle.cml_book.specs.MakePort.{has_port}
use Rattle.cml_book.specs.Sync.{with_each, group_exists, times_named}
use Rattle.cml_hub.specs.Performed.{PlainDone, goes, gets, spawns, prints, waits, ends, fails, spoken}
use Rattle.cml_rules.specs.Rules.{branches}

-- a time-out becomes the time that it means, counted_from from now (timeOutEvt); any other base event is as it was
abbrev pub counted_from : ℕ → PlainBase → PlainBase
counted_from now (after_ticks d) = at_tick (now + d)
counted_from now b = b

mutual
  -- The event becomes this group where a wait on it begins now, if calls of these functions returned these events (chapters 3 and 4, appendix A).
  -- Which function is called first is left open.
  pub data ForcesTo (Returned : PlainFunction → PlainEvent → Type 0) (now : ℕ) : PlainEvent → PlainGroup → Type 0 where
    -- never is never still, and a base event stands for itself
    nothing : ForcesTo Returned now never group.never
    base : (b : PlainBase) → ForcesTo Returned now (leaf b) (group.leaf (counted_from now b))
    -- choose, wrap: so the events in them; the function of a wrap is called later, with the result
    choice : (es : PlainEvents) (gs : PlainGroups) → AllForceTo Returned now es gs → ForcesTo Returned now (choose es) (group.choose gs)
    under_wrap : (e : PlainEvent) (f : PlainFunction) (g : PlainGroup) → ForcesTo Returned now e g → ForcesTo Returned now (wrap e f) (group.wrap g f)
    -- guard: what the event becomes that its function returned
    guarded : (f : PlainFunction) (e : PlainEvent) (g : PlainGroup) → Returned f e → ForcesTo Returned now e g → ForcesTo Returned now (guard f) g
    -- withNack: the same of its function, called with the event of a nack; this is the branch of that nack
    nacked : (k : ℕ) (f : PlainFunction) (e : PlainEvent) (g : PlainGroup)
        → Returned (given_nack k f) e → ForcesTo Returned now e g → ForcesTo Returned now (with_nack f) (group.scope k g)
    -- a withNack whose nack is made already: the event in the branch of this nack
    in_branch : (k : ℕ) (e : PlainEvent) (g : PlainGroup) → ForcesTo Returned now e g → ForcesTo Returned now (scope k e) (group.scope k g)

  -- each of these events becomes the group at its place
  pub data AllForceTo (Returned : PlainFunction → PlainEvent → Type 0) (now : ℕ) : PlainEvents → PlainGroups → Type 0 where
    none_left : AllForceTo Returned now no_events no_groups
    one_more : (e : PlainEvent) (es : PlainEvents) (g : PlainGroup) (gs : PlainGroups)
        → ForcesTo Returned now e g → AllForceTo Returned now es gs → AllForceTo Returned now (events_and e es) (groups_and g gs)

-- no function is called
abbrev pub NoCall : PlainFunction → PlainEvent → Type 0
NoCall f e = ⊥

-- each of these nacks is a fresh one of the thread, and is named once
abbrev pub AreNew : PlainWorld → ℕ → List ℕ → Type 0
AreNew w t ks = (k : ℕ) → 1 ≤ times_named k ks → (slice_get w.nacks k ≡ Some (fresh_of t)) × (times_named k ks ≡ 1)

-- the message comes to these ports: each has it after what is unread there, once for each time that it is named
abbrev pub Arrives : List ℕ → PlainValue → List (List PlainValue) → List (List PlainValue) → Type 0
Arrives ps v old new = (p : ℕ) → slice_get new p ≡ option_map (λ unread. unread ++ map (λ q. v) (filter (λ q. q == p) ps)) (slice_get old p)

-- the ports of a channel, once this copy of port p hears what p hears
abbrev pub with_copy : ℕ → ℕ → List ℕ → List ℕ
with_copy p copy ps = if has_port ps p then ps ++ copy ∷ [] else ps

-- A running thread does what it asks; this is the world after it, and this becomes of the thread (chapters 3 and 4, appendix A).
pub data Enacts (w : PlainWorld) (t : ℕ) : PlainAsk → PlainWorld → PlainDone → Type 0 where
  -- it asks nothing; yield, print, the time: the world is as it was
  goes_on : Enacts w t ask.nothing w goes
  yields : Enacts w t ask.yield w (gets (a_value unit))
  prints_out : (v : PlainValue) → Enacts w t (ask.print v) w (prints (line (spoken v)))
  tells_time : Enacts w t ask.now w (gets (a_value (int (pos w.tick))))
  -- spawn: a new thread runs, with a call of the function, and the one that asked gets its number
  begins : (f : PlainFunction) → Enacts w t (ask.spawn f) (record w { threads = w.threads ++ running ∷ [] }) (spawns (length w.threads) f)
  -- exit, or the end of its function; an exception that nobody handles
  exits : Enacts w t ask.end (record w { threads = slice_set w.threads t ended }) ends
  dies : (why : Fault) → Enacts w t (ask.fault why) (record w { threads = slice_set w.threads t ended }) (fails (fault_name why))
  -- channel, iVar, mVar and mVarInit, mailbox, mChannel: a new one, whose number is next; so a swap channel, which is this project's own
  new_chan : Enacts w t ask.make_chan (record w { channels = w.channels + 1 }) (gets (a_value (chan w.channels)))
  new_swap : Enacts w t ask.make_swap (record w { swaps = w.swaps + 1 }) (gets (a_value (swapchan w.swaps)))
  new_ivar : Enacts w t ask.make_ivar (record w { ivars = w.ivars ++ None ∷ [] }) (gets (a_value (ivar (length w.ivars))))
  new_mvar : (o : Option PlainValue) → Enacts w t (ask.make_mvar o) (record w { mvars = w.mvars ++ o ∷ [] }) (gets (a_value (mvar (length w.mvars))))
  new_mailbox : Enacts w t ask.make_mailbox (record w { mailboxes = w.mailboxes ++ [] ∷ [] }) (gets (a_value (mailbox (length w.mailboxes))))
  new_mchan : Enacts w t ask.make_mchan (record w { mchans = w.mchans ++ [] ∷ [] }) (gets (a_value (mchan (length w.mchans))))
  -- port: a new one of the channel, with nothing unread; copy: one of the same channel, with the same unread
  new_port : (x : ℕ) (ps : List ℕ) → slice_get w.mchans x ≡ Some ps
      → Enacts w t (ask.make_port x) (record w { mchans = slice_set w.mchans x (ps ++ length w.ports ∷ []); ports = w.ports ++ [] ∷ [] }) (gets (a_value (port (length w.ports))))
  new_copy : (p : ℕ) (vs : List PlainValue) → slice_get w.ports p ≡ Some vs
      → Enacts w t (ask.copy_port p) (record w { mchans = map (with_copy p (length w.ports)) w.mchans; ports = w.ports ++ vs ∷ [] }) (gets (a_value (port (length w.ports))))
  -- iPut, mPut: the empty variable is full
  fills_ivar : (i : ℕ) (v : PlainValue) → slice_get w.ivars i ≡ Some None
      → Enacts w t (ask.iput i v) (record w { ivars = slice_set w.ivars i (Some v) }) (gets (a_value unit))
  fills_mvar : (m : ℕ) (v : PlainValue) → slice_get w.mvars m ≡ Some None
      → Enacts w t (ask.mput m v) (record w { mvars = slice_set w.mvars m (Some v) }) (gets (a_value unit))
  -- send to a mailbox: the value is behind the others; multicast: the message comes to all ports of the channel. Neither waits.
  mails : (b : ℕ) (v : PlainValue) (vs : List PlainValue) → slice_get w.mailboxes b ≡ Some vs
      → Enacts w t (ask.mail b v) (record w { mailboxes = slice_set w.mailboxes b (vs ++ v ∷ []) }) (gets (a_value unit))
  multicasts : (x : ℕ) (v : PlainValue) (ps : List ℕ) (new : List (List PlainValue)) → slice_get w.mchans x ≡ Some ps → Arrives ps v w.ports new
      → Enacts w t (ask.multicast x v) (record w { ports = new }) (gets (a_value unit))
  -- withNack: a new nack, which is fresh and the thread's
  new_nack : Enacts w t ask.fresh_nack (record w { nacks = w.nacks ++ fresh_of t ∷ [] }) (gets (a_nack (length w.nacks)))
  -- sync: the thread waits on what the event becomes now; the nacks of its branches are live
  begins_to_wait : (g h : PlainGroup) → ForcesTo NoCall w.tick (event_of g) h → group_exists w g ≡ true → AreNew w t (branches g)
      → Enacts w t (ask.sync g) (record w { threads = slice_set w.threads t (pending_on h); nacks = with_each (branches g) live w.nacks }) waits

-- iPut and mPut of a variable that is full raise Put (chapter 4)
pub data RaisesPut (w : PlainWorld) : PlainAsk → Type 0 where
  ivar_is_full : (i : ℕ) (u v : PlainValue) → slice_get w.ivars i ≡ Some (Some u) → RaisesPut w (ask.iput i v)
  mvar_is_full : (m : ℕ) (u v : PlainValue) → slice_get w.mvars m ≡ Some (Some u) → RaisesPut w (ask.mput m v)
