-- At which leaf of its group a derivation ends, and the row that names it.
use Rattle.std.specs.Prelude.{ℕ, ◌+◌}
use Rattle.cml_value.specs.Value.{PlainBase}
use Rattle.cml_value.specs.Group.{PlainGroup, PlainGroups, leaf_count}
use Rattle.cml_scan.specs.World.{PlainWorld}
use Rattle.cml_scan.specs.declared.meet.Meet.{Meet}
use Rattle.cml_scan.specs.declared.meet.Meet.TheVariants.{Single, Pair}
use Rattle.cml_book.specs.declared.command.Committed.{Committed}
use Rattle.cml_rules.specs.Rules.{Sequel, Offers, itself, wrapped, branched, chosen, OffersOne, first, other, Synchronizes, alone, together}

abbrev mutual
  -- the number of the leaf, counted from the left and from 0
  pub ends_at : {g : PlainGroup} {b : PlainBase} {s : Sequel} → Offers g b s → ℕ
  ends_at (itself b) = 0
  ends_at (wrapped g f b s d) = ends_at d
  ends_at (branched k g b s d) = ends_at d
  ends_at (chosen gs b s d) = ends_at_one d

  pub ends_at_one : {gs : PlainGroups} {b : PlainBase} {s : Sequel} → OffersOne gs b s → ℕ
  ends_at_one (first g gs b s d) = ends_at d
  ends_at_one (other g gs b s d) = leaf_count g + ends_at_one d

-- the row that names the threads of a synchronization, each with the leaf at which its derivation ends
abbrev pub row_of : {w w' : PlainWorld} {c : Committed} → Synchronizes w w' c → Meet
row_of (alone t g b s v w' p d h) = Single (record { 0 = t }) (ends_at d)
row_of (together t u g h a b r s x y p q d e m) = Pair (record { 0 = t }) (ends_at d) (record { 0 = u }) (ends_at e)
