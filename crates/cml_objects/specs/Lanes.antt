-- The offers that wait on one side, by thread and leaf.
use Rattle.std.specs.Prelude.{ℕ, ◌==◌, Bool, not, nat_lt, nat_le, List, ◌++◌, map, filter}
use Rattle.cml_value.specs.declared.number.Tid.{Tid}
use Rattle.cml_scan.specs.declared.meet.Place.{Place}
use Rattle.cml_objects.specs.declared.lane.PartnerThreads.{PartnerThreads}
use Rattle.cml_objects.specs.declared.lane.PartnerThreads.TheVariants as of
use Rattle.cml_objects.specs.declared.lane.Bound.{Bound}
use Rattle.cml_objects.specs.declared.lane.Bound.TheVariants.{Below, UpTo}

-- a lane: the offers, in order, and how many more can come without taking memory
pub record PlainLane : Type 0 where
  pub places : List Place
  pub room : ℕ

-- the offer is this thread's
abbrev pub is_own : Tid → Place → Bool
is_own tid q = tid.0 == q.tid.0

-- the offer is another thread's
abbrev pub is_others : Tid → Place → Bool
is_others tid q = not (is_own tid q)

-- the offers of the other threads, in order
abbrev pub others : Tid → List Place → List Place
others tid ps = filter (is_others tid) ps

-- the offer is another thread's, or that of a thread above this one
abbrev pub is_of : PartnerThreads → Place → Bool
is_of (of.Others tid) q = is_others tid q
is_of (of.Above tid) q = nat_lt tid.0 q.tid.0

-- the offers of these, in order
abbrev pub those : PartnerThreads → List Place → List Place
those partner_threads ps = filter (is_of partner_threads) ps

-- a run: the offers of these leaves of one thread, which stand side by side
abbrev pub run : Tid → List ℕ → List Place
run tid leaves = map (λ leaf. record { tid = tid; leaf = leaf }) leaves

-- the offers with those of one more thread: after those of the threads below it, and before those of the threads above it
abbrev pub with_run : Tid → List ℕ → List Place → List Place
with_run tid leaves ps = filter (λ q. nat_lt q.tid.0 tid.0) ps ++ (run tid leaves ++ filter (λ q. nat_lt tid.0 q.tid.0) ps)

-- the offer stands below where a search in a lane ends
abbrev pub under : Bound → Place → Bool
under (Below tid) q = nat_lt q.tid.0 tid.0
under (UpTo tid) q = nat_le q.tid.0 tid.0
