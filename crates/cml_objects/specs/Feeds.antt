-- What becomes of a feed: the state after it, or why it is refused.
use Rattle.std.specs.Prelude.{◌≡◌, Result, Ok, Err}
use Rattle.cml_objects.specs.declared.source.FeedFault.{FeedFault}
use Rattle.cml_objects.specs.declared.source.FeedFault.TheVariants.{Put, Full, Spent, Memory}

-- a variable is full already (Reppy's exception Put); a queue holds as many items as it may; what happens once has happened,
-- or can't happen yet
pub data PlainRefusal : Type 0 where
  put : PlainRefusal
  full : PlainRefusal
  spent : PlainRefusal

-- nothing is refused
abbrev pub IsAccepted : {S : Type 0} → Result S PlainRefusal → Type 0
IsAccepted (Ok s) = Unit {0}
IsAccepted (Err why) = ⊥

-- The call does what `outcome` says of this feed, from the state `old` to the state `new`. A refused feed comes back, and nothing
-- changes. Memory runs out only where the feed would be accepted.
abbrev pub Feeds : {S F : Type 0} → Result (Unit {0}) (FeedFault F) → Result S PlainRefusal → F → S → S → Type 0
Feeds (Ok done) outcome feed old new = outcome ≡ Ok new
Feeds (Err (Put back)) outcome feed old new = (outcome ≡ Err put) × (new ≡ old) × (back ≡ feed)
Feeds (Err (Full back)) outcome feed old new = (outcome ≡ Err full) × (new ≡ old) × (back ≡ feed)
Feeds (Err (Spent back)) outcome feed old new = (outcome ≡ Err spent) × (new ≡ old) × (back ≡ feed)
Feeds (Err (Memory back)) outcome feed old new = IsAccepted outcome × (new ≡ old) × (back ≡ feed)

-- whatever the result is, it is not that memory ran out
abbrev pub WantsNoMemory : {F : Type 0} → Result (Unit {0}) (FeedFault F) → Type 0
WantsNoMemory (Err (Memory back)) = ⊥
WantsNoMemory _ = Unit {0}
