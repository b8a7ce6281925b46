-- The world: what every thread does, and what every object holds. Threads and objects are numbered from 0, each kind by itself,
-- and stand in lists by their number.
use Rattle.std.specs.Prelude.{ℕ, ◌+◌, List, [], ◌∷◌, Option}
use Rattle.cml_value.specs.Value.{PlainValue}
use Rattle.cml_value.specs.Group.{PlainGroup}
pub use Rattle.cml_value.specs.Nack.{PlainNack, fresh_of, live, fired, held}

-- A thread runs, or it waits on a forced event, or it has ended. No afterEvt stands in a forced event: when the wait began, each became an
-- atTimeEvt.
pub data PlainThread : Type 0 where
  running : PlainThread
  pending_on : PlainGroup → PlainThread
  ended : PlainThread

pub record PlainWorld : Type 0 where
  pub threads : List PlainThread
  -- how many channels there are; a channel holds nothing
  pub channels : ℕ
  -- how many swap channels there are; one holds nothing
  pub swaps : ℕ
  -- a variable's value, if it is full
  pub ivars : List (Option PlainValue)
  pub mvars : List (Option PlainValue)
  -- the items of a mailbox, the first to be taken first
  pub mailboxes : List (List PlainValue)
  -- the numbers of a multicast channel's ports
  pub mchans : List (List ℕ)
  -- the unread messages of a port, the first to be taken first
  pub ports : List (List PlainValue)
  pub nacks : List PlainNack
  -- the time now
  pub tick : ℕ

-- a pending thread, and the group that it waits on
pub record PlainEntry : Type 0 where
  pub thread : ℕ
  pub group : PlainGroup

-- the pending ones of these threads, of which the first has this number
abbrev pub pending_from : ℕ → List PlainThread → List PlainEntry
pending_from n [] = []
pending_from n (pending_on g ∷ ts) = record { thread = n; group = g } ∷ pending_from (n + 1) ts
pending_from n (t ∷ ts) = pending_from (n + 1) ts

-- the pending threads of the world, ascending
abbrev pub pending : PlainWorld → List PlainEntry
pending w = pending_from 0 w.threads
