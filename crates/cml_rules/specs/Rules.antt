-- Concurrent ML's rules for one synchronization, as rules of inference by cases on events, after Reppy, Concurrent Programming in ML (1999):
-- what a group offers, when base events happen, and what one step of the world is. A group is an event in which each guard and each withNack
-- has been replaced by the event that its function returned. What the function of a withNack returned is the branch of its nack. A nack that has
-- fired can be taken from then on; one that is held can never fire.
use Rattle.std.specs.Prelude.{ℕ, ◌≡◌, ◌≢◌, ◌<◌, ◌≤◌, List, [], ◌∷◌, ◌++◌, Some, None, slice_get, slice_set}
use Rattle.cml_value.specs.Value.{PlainValue, unit, PlainFunction, PlainBase, always, send, recv, swap, iget, mtake, mget, mswap, mail_recv, port_recv, join, at_tick, nack}
use Rattle.cml_value.specs.Group.{PlainGroup, leaf, choose, wrap, scope, PlainGroups, no_groups, groups_and}
use Rattle.cml_scan.specs.World.{running, pending_on, ended, fired, held, PlainWorld}
use Rattle.cml_book.specs.Sync.{with_each}
use Rattle.cml_book.specs.Resumes.{PlainResume}
use Rattle.cml_book.specs.declared.command.Committed.{Committed}

-- what follows for a thread that synchronizes: the functions that its result goes through, innermost first, and the nacks that fire
pub record Sequel : Type 0 where
  pub wraps : List PlainFunction
  pub fired : List ℕ

abbrev mutual
  -- the nacks of all branches in a group, an outer one before those in it
  pub branches : PlainGroup → List ℕ
  branches (scope k g) = k ∷ branches g
  branches (wrap g f) = branches g
  branches (choose gs) = branches_of_all gs
  branches _ = []

  pub branches_of_all : PlainGroups → List ℕ
  branches_of_all no_groups = []
  branches_of_all (groups_and g gs) = branches g ++ branches_of_all gs

mutual
  -- The group can synchronize by this base event, and this follows (chapter 3). There is no rule for never: it offers nothing.
  pub data Offers : PlainGroup → PlainBase → Sequel → Type 0 where
    -- sync: a thread that waits on a base event waits for just that; nothing is done with its result, and no nack fires
    itself : (b : PlainBase) → Offers (leaf b) b (record { wraps = []; fired = [] })
    -- wrap: the function is applied to what the event gives, after the functions that are wrapped round parts of the event
    wrapped : (g : PlainGroup) (f : PlainFunction) (b : PlainBase) (s : Sequel) → Offers g b s → Offers (wrap g f) b (record s { wraps = s.wraps ++ f ∷ [] })
    -- withNack: where an event in its branch is chosen, the nack of the branch does not fire
    branched : (k : ℕ) (g : PlainGroup) (b : PlainBase) (s : Sequel) → Offers g b s → Offers (scope k g) b s
    -- choose: one of the events is chosen
    chosen : (gs : PlainGroups) (b : PlainBase) (s : Sequel) → OffersOne gs b s → Offers (choose gs) b s

  -- choose and withNack: one of these groups is chosen, and the nack of each branch in each of the others fires
  pub data OffersOne : PlainGroups → PlainBase → Sequel → Type 0 where
    first : (g : PlainGroup) (gs : PlainGroups) (b : PlainBase) (s : Sequel) → Offers g b s → OffersOne (groups_and g gs) b (record s { fired = s.fired ++ branches_of_all gs })
    other : (g : PlainGroup) (gs : PlainGroups) (b : PlainBase) (s : Sequel) → OffersOne gs b s → OffersOne (groups_and g gs) b (record s { fired = branches g ++ s.fired })

-- Two threads communicate by these base events, and this is what each is given: by a send and a receive on one channel the receiver gets the
-- value and the sender unit, and no thread communicates with itself (chapter 3); by two swaps on one swap channel, which are this project's
-- own, each gets the value of the other, and the lower thread is named first.
pub data Communicate (t u : ℕ) : PlainBase → PlainBase → PlainValue → PlainValue → Type 0 where
  sends : (c : ℕ) (v : PlainValue) → t ≢ u → Communicate t u (send c v) (recv c) unit v
  swaps : (s : ℕ) (x y : PlainValue) → t < u → Communicate t u (swap s x) (swap s y) y x

-- The base event happens by itself and gives this value, and this is the world after it (chapters 3 and 4, appendix A): an alwaysEvt at any time; an iGet
-- and an mGet where the variable is full, and the value stays; an mTake, which empties it; an mSwap, which leaves its own value there; a
-- receive from a mailbox or a port, which takes the first item; a join once the thread has ended; a time once it has come; a nack once it has
-- fired. There is no rule for `after_ticks`: when a wait begins, each becomes the `at_tick` that it means.
pub data Alone (w : PlainWorld) : PlainBase → PlainValue → PlainWorld → Type 0 where
  at_any_time : (v : PlainValue) → Alone w (always v) v w
  gets : (i : ℕ) (v : PlainValue) → slice_get w.ivars i ≡ Some (Some v) → Alone w (iget i) v w
  reads : (m : ℕ) (v : PlainValue) → slice_get w.mvars m ≡ Some (Some v) → Alone w (mget m) v w
  takes : (m : ℕ) (v : PlainValue) → slice_get w.mvars m ≡ Some (Some v) → Alone w (mtake m) v (record w { mvars = slice_set w.mvars m None })
  replaces : (m : ℕ) (u v : PlainValue) → slice_get w.mvars m ≡ Some (Some v) → Alone w (mswap m u) v (record w { mvars = slice_set w.mvars m (Some u) })
  mailed : (b : ℕ) (v : PlainValue) (vs : List PlainValue) → slice_get w.mailboxes b ≡ Some (v ∷ vs) → Alone w (mail_recv b) v (record w { mailboxes = slice_set w.mailboxes b vs })
  posted : (p : ℕ) (v : PlainValue) (vs : List PlainValue) → slice_get w.ports p ≡ Some (v ∷ vs) → Alone w (port_recv p) v (record w { ports = slice_set w.ports p vs })
  joins : (t : ℕ) → slice_get w.threads t ≡ Some ended → Alone w (join t) unit w
  comes : (t : ℕ) → t ≤ w.tick → Alone w (at_tick t) unit w
  fires : (k : ℕ) → slice_get w.nacks k ≡ Some fired → Alone w (nack k) unit w

-- the thread waits on this group
abbrev pub Waits : PlainWorld → ℕ → PlainGroup → Type 0
Waits w t g = slice_get w.threads t ≡ Some (pending_on g)

-- A thread goes on: it runs. Of the nacks of the branches in its group, those that the sequel names have fired; the others are held: they can
-- never fire.
abbrev pub went_on : PlainWorld → ℕ → PlainGroup → Sequel → PlainWorld
went_on w t g s = record w { threads = slice_set w.threads t running; nacks = with_each s.fired fired (with_each (branches g) held w.nacks) }

-- what a thread that goes on is given, and what it then does
abbrev pub given_to : ℕ → PlainValue → Sequel → PlainResume
given_to t v s = record { thread = t; value = v; wraps = s.wraps; fired = s.fired }

-- One synchronization of a world: one waiting thread, or two that communicate, go on by what their groups offer; nothing else changes.
pub data Synchronizes (w : PlainWorld) : PlainWorld → Committed → Type 0 where
  alone : (t : ℕ) (g : PlainGroup) (b : PlainBase) (s : Sequel) (v : PlainValue) (w' : PlainWorld)
      → Waits w t g → Offers g b s → Alone w b v w'
      → Synchronizes w (went_on w' t g s) (record { head = given_to t v s; partner = None })
  together : (t u : ℕ) (g h : PlainGroup) (a b : PlainBase) (r s : Sequel) (x y : PlainValue)
      → Waits w t g → Waits w u h → Offers g a r → Offers h b s → Communicate t u a b x y
      → Synchronizes w (went_on (went_on w t g r) u h s) (record { head = given_to t x r; partner = Some (given_to u y s) })
