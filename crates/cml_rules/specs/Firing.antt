-- What the laws say of the parties of a step, of choices and of nacks.
use Rattle.std.specs.Prelude.{◌≡◌, ◌≢◌, ◌⊎◌, ◌↔◌, ℕ, ◌+◌, List, [], ◌∷◌, ◌++◌, Any, Some, slice_get}
use Rattle.std.specs.List.{All, flat_map}
use Rattle.cml_value.specs.Value.{PlainBase}
use Rattle.cml_value.specs.Group.{PlainGroup, PlainGroups}
use Rattle.cml_scan.specs.World.{live, fired, held, PlainWorld}
use Rattle.cml_book.specs.declared.command.Committed.{Committed}
use Rattle.cml_book.specs.Sync.{times_named}
use Rattle.cml_book.specs.Resumes.{PlainResume}
use Rattle.cml_rules.specs.Rules.{Sequel, branches, Offers, itself, wrapped, branched, chosen, OffersOne, first, other, Waits, Synchronizes, alone, together}
use Rattle.cml_rules.specs.Laws.{Derivation, Step}

-- The two parties of a step are two threads, so the offers of one thread's group never meet each other.
abbrev pub AreTwoThreads : PlainWorld → Type 0
AreTwoThreads w = (s : Step w) (partner : PlainResume) → s.gives.partner ≡ Some partner → s.gives.head.thread ≢ partner.thread

-- One member of a choice is taken, as it is offered without the choice; and the nacks of all branches in all other members fire.
pub record TakesOne (members : List PlainGroup) (b : PlainBase) (s : Sequel) : Type 0 where
  pub before : List PlainGroup
  pub member : PlainGroup
  pub behind : List PlainGroup
  pub sequel : Sequel
  pub split : members ≡ before ++ member ∷ behind
  pub offered : Offers member b sequel
  pub wraps : s.wraps ≡ sequel.wraps
  pub fired : s.fired ≡ flat_map branches before ++ (sequel.fired ++ flat_map branches behind)

abbrev mutual
  -- the nacks of the branches in which a derivation lies
  pub around : {g : PlainGroup} {b : PlainBase} {s : Sequel} → Offers g b s → List ℕ
  around (itself b) = []
  around (wrapped g f b s d) = around d
  around (branched k g b s d) = k ∷ around d
  around (chosen gs b s d) = around_one d

  pub around_one : {gs : PlainGroups} {b : PlainBase} {s : Sequel} → OffersOne gs b s → List ℕ
  around_one (first g gs b s d) = around d
  around_one (other g gs b s d) = around_one d

-- The nack of each branch of a group fires, unless the derivation lies in the branch: each is named as often by the two as by the branches.
abbrev pub FiresOutside : PlainGroup → Type 0
FiresOutside g = (o : Derivation g) (k : ℕ) → times_named k o.sequel.fired + times_named k (around o.derivation) ≡ times_named k (branches g)

-- a thread that goes on, its group, and what of it is taken
pub record Party : Type 0 where
  pub thread : ℕ
  pub group : PlainGroup
  pub offer : Derivation group

-- those who go on in a step
abbrev pub those_in : {w next : PlainWorld} {gives : Committed} → Synchronizes w next gives → List Party
those_in (alone t g b s v w' p d h) = record { thread = t; group = g; offer = record { base = b; sequel = s; derivation = d } } ∷ []
those_in (together t u g h a b r s x y p q d e m) =
    record { thread = t; group = g; offer = record { base = a; sequel = r; derivation = d } }
    ∷ record { thread = u; group = h; offer = record { base = b; sequel = s; derivation = e } }
    ∷ []

-- A nack that was live fires by this party, once: the party waited on its group, and what is taken of it lies in no branch of this nack.
pub record FiresBy (w : PlainWorld) (k : ℕ) (p : Party) : Type 0 where
  pub waited : Waits w p.thread p.group
  pub was_live : slice_get w.nacks k ≡ Some live
  pub once : times_named k p.offer.sequel.fired ≡ 1
  pub outside : times_named k (around p.offer.derivation) ≡ 0

-- A nack that was live is held by this party: the party waited on its group, and what is taken of it lies in the one branch of this nack.
pub record HeldBy (w : PlainWorld) (k : ℕ) (p : Party) : Type 0 where
  pub waited : Waits w p.thread p.group
  pub was_live : slice_get w.nacks k ≡ Some live
  pub never : times_named k p.offer.sequel.fired ≡ 0
  pub within : times_named k (around p.offer.derivation) ≡ 1

-- After a step a nack has fired exactly where it had fired before, or fires by a party of the step; and it is held exactly where it was held
-- before, or is held by a party. So each nack of a party's branches that was live is one of the two from then on, and all others are as they were.
pub record NacksSettle (w : PlainWorld) (s : Step w) : Type 0 where
  pub fires : (k : ℕ) → (slice_get s.next.nacks k ≡ Some fired) ↔ ((slice_get w.nacks k ≡ Some fired) ⊎ Any (FiresBy w k) (those_in s.derivation))
  pub holds : (k : ℕ) → (slice_get s.next.nacks k ≡ Some held) ↔ ((slice_get w.nacks k ≡ Some held) ⊎ Any (HeldBy w k) (those_in s.derivation))
  pub others : (k : ℕ) → All (λ p. times_named k (branches p.group) ≡ 0) (those_in s.derivation) → slice_get s.next.nacks k ≡ slice_get w.nacks k
