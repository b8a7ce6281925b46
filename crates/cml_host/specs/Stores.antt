-- Stores: what is known of what lies in them.
use Rattle.std.specs.Prelude.{◌≡◌, ◌≢◌, ℕ, ◌+◌, ◌≤◌, List, Option, Some, None, length, take}
use Rattle.cml_host.specs.declared.reason.Reason.{Reason}
use Rattle.cml_host.specs.declared.store.StoreFault.{StoreFault}
use Rattle.cml_host.specs.declared.store.StoreFault.TheVariants.{Refused, Memory}

-- What is known of what lies under a name: it is unknown; nothing lies there; or these bytes do.
pub data Content : Type 0 where
  unknown : Content
  nothing : Content
  bytes : List ℕ → Content

-- what is known of the bytes that a reader has
abbrev pub content_of : Option (List ℕ) → Content
content_of (Some all) = bytes all
content_of None = unknown

-- A call may hand these bytes over for what lies there: the first bytes of it, at most one more than the limit. Where nothing lies there,
-- no call hands bytes over. Where it is unknown what does, they may be any bytes, at most one more than the limit.
abbrev pub IsLoaded : Content → ℕ → List ℕ → Type 0
IsLoaded unknown limit found = length found ≤ limit + 1
IsLoaded nothing limit found = ⊥
IsLoaded (bytes all) limit found = found ≡ take (limit + 1) all

-- It may be refused: where nothing lies there, or where it is unknown what does.
abbrev pub MayBeRefused : Content → Type 0
MayBeRefused (bytes all) = ⊥
MayBeRefused _ = Unit {0}

-- the fault is a refusal, and not that memory ran out
abbrev pub IsRefusal : StoreFault → Type 0
IsRefusal (Refused why) = Unit {0}
IsRefusal Memory = ⊥

-- the reason of a refusal, where that is known
abbrev pub reason_in : StoreFault → Option Reason
reason_in (Refused why) = why
reason_in Memory = None

-- a fault that may come where this lies
abbrev pub MayFail : Content → StoreFault → Type 0
MayFail content (Refused why) = MayBeRefused content
MayFail content Memory = Unit {0}

-- it was this, and is now these bytes, where it was known
abbrev pub IsReplacedBy : Content → Content → List ℕ → Type 0
IsReplacedBy unknown new all = Unit {0}
IsReplacedBy _ new all = new ≡ bytes all

-- what lies under each name, before and after
pub record Shelf : Type 0 where
  pub before : List ℕ → Content
  pub after : List ℕ → Content

-- nothing was saved: under each name the same is known to lie as before; where that is unknown, this says nothing of it
abbrev pub IsUnchanged : (List ℕ → Content) → (List ℕ → Content) → Type 0
IsUnchanged old new = (name : List ℕ) → new name ≡ old name

-- under this name these bytes were saved, and nothing under another one
pub record IsSaved (old new : List ℕ → Content) (name all : List ℕ) : Type 0 where
  pub saved : IsReplacedBy (old name) (new name) all
  pub others : (other : List ℕ) → other ≢ name → new other ≡ old other
