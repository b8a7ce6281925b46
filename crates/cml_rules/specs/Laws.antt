-- What the laws say: offers are leaves, and synchronizations are rows and commits.
use Rattle.std.specs.Prelude.{◌≡◌, ℕ, ◌<◌, Contains, Some, Ok, slice_get}
use Rattle.cml_value.specs.Value.{PlainBase}
use Rattle.cml_value.specs.Group.{PlainGroup, leaves, leaf_count, lost}
use Rattle.cml_scan.specs.World.{PlainWorld}
use Rattle.cml_scan.specs.Scan.{scan}
use Rattle.cml_scan.specs.declared.meet.Meet.{Meet}
use Rattle.cml_book.specs.declared.command.Committed.{Committed}
use Rattle.cml_book.specs.Outcomes.{Outcome}
use Rattle.cml_book.specs.Commit.{commit}
use Rattle.cml_rules.specs.Rules.{Sequel, Offers, Synchronizes}
use Rattle.cml_rules.specs.Places.{ends_at, row_of}

-- a derivation that a group offers something
pub record Derivation (g : PlainGroup) : Type 0 where
  pub base : PlainBase
  pub sequel : Sequel
  pub derivation : Offers g base sequel

-- The derivations of a group are its leaves. Each ends at a leaf with its base event and the functions of its sequel, and where that leaf is
-- chosen just the nacks of its sequel fire; each leaf has one; and no two have one leaf.
pub record OffersAreLeaves (g : PlainGroup) : Type 0 where
  pub leaf : (o : Derivation g) → slice_get (leaves g) (ends_at o.derivation) ≡ Some (record { base = o.base; wraps = o.sequel.wraps })
  pub fired : (o : Derivation g) → lost g (ends_at o.derivation) ≡ o.sequel.fired
  pub each : (n : ℕ) → n < leaf_count g → (o : Derivation g) × (ends_at o.derivation ≡ n)
  pub once : (o p : Derivation g) → ends_at o.derivation ≡ ends_at p.derivation → o ≡ p

-- a derivation that the world can make a step
pub record Step (w : PlainWorld) : Type 0 where
  pub next : PlainWorld
  pub gives : Committed
  pub derivation : Synchronizes w next gives

-- The derivations of a world's steps are the rows of the scan: each is of a row, each row has one, and no two are of one row.
pub record StepsAreRows (w : PlainWorld) : Type 0 where
  pub row : (s : Step w) → Contains (scan w) (row_of s.derivation)
  pub each : (row : Meet) → Contains (scan w) row → (s : Step w) × (row_of s.derivation ≡ row)
  pub once : (r s : Step w) → row_of r.derivation ≡ row_of s.derivation → r ≡ s

-- The steps of a world are its accepted commits: the commit of a step's row leaves the world after the step and hands over what the step gives;
-- and where a commit is accepted, the rules derive a step of its row, to the world that it leaves and with what it hands over.
pub record StepsAreCommits (w : PlainWorld) : Type 0 where
  pub taken : (s : Step w) → Path (Outcome Committed) (commit w (row_of s.derivation)) (Ok (s.next, s.gives))
  pub derived : (row : Meet) (next : PlainWorld) (gives : Committed) → Path (Outcome Committed) (commit w row) (Ok (next, gives)) → (d : Synchronizes w next gives) × (row_of d ≡ row)
