-- What a commit does.
use Rattle.std.specs.Prelude.{◌≡◌, ℕ, List, Option, Some, None, option_map}
use Rattle.cml_value.specs.declared.number.Tid.{Tid}
use Rattle.cml_value.specs.Value.{PlainValue, PlainFunction, PlainBase, unit, join}
use Rattle.cml_value.specs.Group.{lost}
use Rattle.cml_scan.specs.World.{PlainWorld}
use Rattle.cml_scan.specs.declared.meet.Meet.{Meet}
use Rattle.cml_scan.specs.declared.meet.Meet.TheVariants.{Single, Pair}
use Rattle.cml_group.specs.Leaves.{pick}
use Rattle.cml_book.specs.Commit.{group_awaited, given}
use Rattle.cml_facts.specs.declared.ending.awaited.Named.{Named}
use Rattle.cml_facts.specs.Waits.{who_is}
use Rattle.cml_facts.specs.declared.narrative.deed.Deed.{Deed}
use Rattle.cml_facts.specs.declared.narrative.deed.Deed.TheVariants as deed
use Rattle.cml_facts.specs.declared.narrative.deed.Party.{Party}
use Rattle.cml_facts.specs.declared.narrative.deed.Took.{Took}
use Rattle.cml_facts.specs.declared.narrative.deed.Met.{Met}
use Rattle.cml_facts.specs.NarrativeViews.{PlainTaken, plain_taken}

-- what a thread that waits takes at a leaf of its group, if that is there
abbrev pub taken_at : PlainWorld → ℕ → ℕ → Option PlainTaken
taken_at w t n = option_map (λ l. record { base = l.base; fired = lost (group_awaited w t) n }) (pick (group_awaited w t) n)

-- what a base event gave that was taken alone
abbrev pub value_taken : PlainWorld → Option PlainTaken → PlainValue
value_taken w None = unit
value_taken w (Some x) = given w x.base

-- the thread whose end this base event waits for
abbrev pub joined_by : PlainBase → Option Tid
joined_by (join t) = Some (record { 0 = t })
joined_by b = None

abbrev pub joined_named : List PlainFunction → Option Tid → Option Named
joined_named began None = None
joined_named began (Some t) = Some (who_is began t.0)

abbrev pub joined_in : List PlainFunction → Option PlainTaken → Option Named
joined_in began None = None
joined_in began (Some x) = joined_named began (joined_by x.base)

-- a thread, and what it takes at this leaf
pub record TakesPart (began : List PlainFunction) (w : PlainWorld) (t n : ℕ) (x : Party) : Type 0 where
  pub thread : x.thread ≡ who_is began t
  pub takes : option_map plain_taken x.chosen ≡ taken_at w t n

-- a thread takes what is at this leaf alone: it is given a value, or told of the end of another thread
pub record IsTook (began : List PlainFunction) (w : PlainWorld) (t n : ℕ) (x : Took) : Type 0 where
  pub taker : TakesPart began w t n x.taker
  pub value : x.value ≡ value_taken w (taken_at w t n)
  pub joined : x.joined ≡ joined_in began (taken_at w t n)

-- two threads meet at these leaves
pub record IsMet (began : List PlainFunction) (w : PlainWorld) (h i o j : ℕ) (x : Met) : Type 0 where
  pub head : TakesPart began w h i x.head
  pub other : TakesPart began w o j x.other

-- what the commit of a row does in a world
abbrev pub IsRowDeed : List PlainFunction → PlainWorld → Meet → Deed → Type 0
IsRowDeed began w (Single t n) (deed.Took x) = IsTook began w t.0 n x
IsRowDeed began w (Pair h i o j) (deed.Met x) = IsMet began w h.0 i o.0 j x
IsRowDeed began w row d = ⊥
