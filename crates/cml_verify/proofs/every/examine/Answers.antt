use Rattle.std.proofs.Common.{length, map, subst, arith}
use Rattle.std.specs.List.{All}
use Rattle.std.specs.Prelude.{IsTrue}
use Rattle.cml_step.specs.Calls.{text_of}
use Rattle.cml_verify.specs.{Cores.{program_system}, Kept.{PlainKept, core_kept}, Ends.{AreSchedulesTo}, Placed.{AreThreadsIn}}
use Rattle.cml_verify.proofs.Verdicts.{each_ends, every_end, stops_late, ends_within}
use Rattle.cml_verify.proofs.States.{are_counted, lead_apart}
use Rattle.cml_verify.proofs.Unending.{are_places, unending_is}
use Rattle.cml_verify.proofs.every.examine.Goals as goal

pub schedules_to-requires-clause-search : goal.schedules_to-requires-clause-search
schedules_to-requires-clause-search c = rw c.in_ok-found.ensures.any at c.in_ok-found.ensures.search

pub schedules_to-requires-clause-within : goal.schedules_to-requires-clause-within
schedules_to-requires-clause-within c = rw (c.as_slice-told.ensures.value, ← c.kept-kept.ensures.kept) c.in_ok-places.ensures.within

pub reach_of-reach-requires-clause-search : goal.reach_of-reach-requires-clause-search
reach_of-reach-requires-clause-search c = rw c.in_ok-found.ensures.any at c.in_ok-found.ensures.search

pub returns-clause-verdict : goal.returns-clause-verdict
returns-clause-verdict c =
    let p = c.args.program.now in
    let o = c.args.with_output in
    let keys = c.in_ok-found.found.kept.keys in
    let places = c.in_ok-places.places.items in
    let told = map (λ schedule. schedule.items) c.in_ok-ends.ends.items in
    let most = c.reach_of-reach.result in
    let lead : AreSchedulesTo (program_system (text_of p) o) (map (core_kept p) keys) places (length places) told =
    rw (c.in_ok-again.ensures, c.as_slice-told.ensures.value) at c.in_ok-ends.ensures in
    let all = rw c.in_ok-again.ensures at c.reach_of-reach.ensures.all in
    record {
      each = each_ends p o keys places told lead (rw c.kept-kept.ensures.kept at c.in_ok-places.ensures.each);
      all = every_end p o keys places told lead most all (rw c.kept-kept.ensures.kept at c.in_ok-places.ensures.all);
      stopped =
          stops_late most c.args.bound c.count_of-states.result (length keys) c.in_ok-found.found.whole c.reach_of-reach.ensures.stopped c.in_ok-found.ensures.full c.in_ok-found.ensures.over
          c.count_of-states.ensures;
      finished =
          ends_within most c.args.bound c.count_of-states.result (length keys) c.in_ok-found.found.whole c.reach_of-reach.ensures.whole c.in_ok-found.ensures.bounded c.count_of-states.ensures;
      counted =
          are_counted p o keys most all c.kept-kept.ensures.once
          (subst (All (λ (one : PlainKept). AreThreadsIn p one.machines)) c.kept-kept.ensures.kept (c.all_placed.ensures (grind arith)))
          (rw c.in_ok-again.ensures at c.reach_of-reach.ensures.led) c.count_of-states.result c.count_of-states.ensures told
          (lead_apart p o keys places told lead (rw c.kept-kept.ensures.kept at c.in_ok-places.ensures.within) c.in_ok-places.ensures.apart);
    }

pub all_faults-requires-clause-search : goal.all_faults-requires-clause-search
all_faults-requires-clause-search c = rw c.in_ok-found.ensures.any at c.in_ok-found.ensures.search

pub all_faults-requires-clause-edges : goal.all_faults-requires-clause-edges
all_faults-requires-clause-edges c = rw c.in_ok-found.ensures.any at c.in_ok-found.ensures.edges

pub unending_of-requires-clause-search : goal.unending_of-requires-clause-search
unending_of-requires-clause-search c = rw c.in_ok-found.ensures.any at c.in_ok-found.ensures.search

pub unending_of-requires-clause-edges : goal.unending_of-requires-clause-edges
unending_of-requires-clause-edges c = rw c.in_ok-found.ensures.any at c.in_ok-found.ensures.edges

pub unending_of-requires-clause-within : goal.unending_of-requires-clause-within
unending_of-requires-clause-within c = rw (c.as_slice-told.ensures.value, ← c.kept-kept.ensures.kept) c.in_ok-places.ensures.within

pub unending_of-requires-clause-are : goal.unending_of-requires-clause-are
unending_of-requires-clause-are c =
    rw (c.in_ok-again.ensures, c.as_slice-told.ensures.value) (are_places c.args.program.now c.args.with_output c.in_ok-found.found.kept.keys c.in_ok-places.places.items
    (rw c.kept-kept.ensures.kept at c.in_ok-places.ensures.each) (rw c.kept-kept.ensures.kept at c.in_ok-places.ensures.all))

pub returns-clause-faults : goal.returns-clause-faults
returns-clause-faults c = (rw c.in_ok-again.ensures at c.in_ok-faults.ensures) c.reach_of-reach.result (rw c.in_ok-again.ensures at c.reach_of-reach.ensures.followed)

pub returns-clause-unending : goal.returns-clause-unending
returns-clause-unending c =
    unending_is (λ schedule. schedule.items) (text_of c.args.program.now) (IsTrue c.in_ok-found.found.whole) c.reach_of-reach.result c.in_ok-unending.unending
    (rw c.in_ok-again.ensures at c.in_ok-unending.ensures.some) c.reach_of-reach.ensures.whole (rw c.in_ok-again.ensures at c.in_ok-unending.ensures.none)
