-- Ends of a program: where schedules lead, in classes of those that ended alike, and what is told of them.
use Rattle.std.specs.Prelude.{◌≡◌, ℕ, suc, Bool, true, List, [], ◌∷◌, map, length}
use Rattle.std.specs.declared.cmp.Ordering.{Ordering}
use Rattle.std.specs.Ordering.{bool_cmp, nat_cmp, ordering_then}
use Rattle.std.specs.List.Sorted.{IsPermutation, IsSorted}
use Rattle.cml_check.specs.Syntax.{PlainItem}
use Rattle.cml_hub.specs.Kept.{Kept}
use Rattle.cml_phrase.specs.declared.place.Place.{Place}
use Rattle.cml_schedule.specs.declared.item.Item.{Item}
use Rattle.cml_explore.specs.declared.ends.EndTold.{EndTold}
use Rattle.cml_explore.specs.declared.ends.EndsTold.{EndsTold}
use Rattle.cml_judge.specs.declared.judged.Wanted.{Wanted}
use Rattle.cml_explore.specs.Classes.{PlainClass}
use Rattle.cml_explore.specs.Explored.{PlainExplored, gathered}
use Rattle.cml_explore.specs.Finishes.{PlainEnded, IsEndOf, fate_of, is_good}
use Rattle.cml_explore.specs.Told.{IsRunTold}

-- the hub has gone through this schedule of the program
pub record HasGoneThrough (p : List (PlainItem ℕ)) (schedule : List Item) (h : Kept) : Type 0 where
  pub program : h.course.program ≡ p
  pub items_are : h.course.items ≡ schedule

-- the run of the program by this schedule ended so, where nothing is wanted of it
abbrev pub EndsSoAfter : List (PlainItem ℕ) → List ℕ → List Item → PlainEnded → Type 0
EndsSoAfter p servers schedule e =
    (h : Kept) × (wanted : Wanted) × (wanted.properties.now ≡ []) × HasGoneThrough p schedule h × IsEndOf servers wanted h e

-- the runs by these schedules ended so, in turn
abbrev pub EachEndsAfter : List (PlainItem ℕ) → List ℕ → List (List Item) → List PlainEnded → Type 0
EachEndsAfter p servers [] [] = Unit {0}
EachEndsAfter p servers (schedule ∷ schedules) (e ∷ es) = EndsSoAfter p servers schedule e × EachEndsAfter p servers schedules es
EachEndsAfter p servers _ _ = ⊥

-- These are the runs by these schedules, in classes of those that ended alike; the number of a schedule stands for the seed of its run.
pub record IsGathered (p : List (PlainItem ℕ)) (servers : List ℕ) (schedules : List (List Item)) (made : PlainExplored) : Type 0 where
  pub ends : List PlainEnded
  pub each : EachEndsAfter p servers schedules ends
  pub gathered_so : made ≡ gathered 0 ends

-- What is told of the run by this schedule: whether it ended well, how many items it has, and the threads that are left.
pub record IsEndTold (places : List (List Place)) (p : List (PlainItem ℕ)) (servers : List ℕ) (schedule : List Item) (told : EndTold) : Type 0 where
  pub hub : Kept
  pub by : HasGoneThrough p schedule hub
  pub well_is : told.well ≡ is_good (fate_of servers hub true)
  pub items_are : told.items ≡ length schedule
  pub run_is : IsRunTold places hub told.run

-- what is told of each of these classes: the run by its shortest schedule
abbrev pub AreEachTold : List (List Place) → List (PlainItem ℕ) → List ℕ → List PlainClass → List EndTold → Type 0
AreEachTold places p servers [] [] = Unit {0}
AreEachTold places p servers (c ∷ cs) (t ∷ ts) = IsEndTold places p servers c.summary.shortest t × AreEachTold places p servers cs ts
AreEachTold places p servers _ _ = ⊥

-- by what the order of two classes is settled: whether it is a good one, how many items its schedule has, and its number
abbrev pub EndRank : Type 0
EndRank = Bool × ℕ × ℕ

-- those of these classes, of which the first has this number
abbrev pub end_ranks_from : ℕ → List EndTold → List EndRank
end_ranks_from k [] = []
end_ranks_from k (t ∷ ts) = (t.well, t.items, k) ∷ end_ranks_from (suc k) ts

-- a bad one comes first; of two that are both bad or both good, the one with fewer items; and then the one with the lesser number
abbrev pub by_badness : EndRank → EndRank → Ordering
by_badness x y = ordering_then (ordering_then (bool_cmp x.0 y.0) (nat_cmp x.1 y.1)) (nat_cmp x.2 y.2)

-- the ranks of the classes, in order
abbrev pub AreEndRanks : List EndTold → List EndRank → Type 0
AreEndRanks told ranks = IsPermutation (end_ranks_from 0 told) ranks × IsSorted by_badness ranks

-- these are the numbers of the classes, in order
abbrev pub AreInOrder : List EndTold → List ℕ → Type 0
AreInOrder told numbers = (ranks : List EndRank) × AreEndRanks told ranks × (numbers ≡ map (λ rank. rank.2) ranks)

-- What is told of the ends: of each class, and in which order.
pub record AreEndsTold (places : List (List Place)) (p : List (PlainItem ℕ)) (servers : List ℕ) (classes : List PlainClass) (told : EndsTold) : Type 0 where
  pub each : AreEachTold places p servers classes told.classes.items
  pub ranked : AreInOrder told.classes.items told.order.items
