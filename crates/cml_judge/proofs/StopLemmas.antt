-- Where a run is stopped.
use Rattle.std.proofs.Common.{◌≡◌, ◌⊎◌, ℕ, zero, suc, ◌+◌, ◌<◌, ◌≤◌, Bool, true, false, ◌||◌}
use Rattle.std.proofs.Common.{List, ◌∷◌, ◌++◌, length, drop, take, get_or, Option, Some, None, refl, sym, ap, ◌∙◌, subst, arith, inl, inr, below_more}
use Rattle.std.specs.Prelude.{◌↔◌, nat_lt, min, IsTrue, IsSomeAnd, Result, Ok, Err, IfOk}
use Rattle.std.proofs.lemmas.Bool.{cases_lt, lt-ltb, le-ltb, ltb-true, both_ways, or_right}
use Rattle.std.proofs.lemmas.List.{at_drop_more, drop_all, take_all}
use Rattle.cml_text.specs.Laws.{SpellsOneAtMost}
use Rattle.cml_text.specs.Lines.{lines}
use Rattle.cml_schedule.specs.declared.item.Item.{Item}
use Rattle.cml_step.specs.Calls.{text_of}
use Rattle.cml_step.specs.Terms.{Program}
use Rattle.cml_hub.specs.Courses.{run_of}
use Rattle.cml_hub.specs.Deeds.{fault_count}
use Rattle.cml_hub.specs.Kept.{Kept}
use Rattle.cml_hub.specs.Runs.{Run, stands}
use Rattle.cml_facts.specs.Again.{RunsAgain}
use Rattle.cml_properties.specs.Judged.{AreJudged}
use Rattle.cml_properties.specs.declared.breach.Run.{Run as Printed}
use Rattle.cml_properties.specs.declared.property.Finish.TheVariants.{GoesOn}
use Rattle.cml_properties.specs.declared.property.Property.{Property}
use Rattle.cml_judge.specs.Stops.{BreaksOne, StopsAfter, earlier, earliest, is_place_within, TellsBreaks, has_come, HasComeBehind, ComesFirstBehind, ComesAfter}
use Rattle.cml_judge.proofs.GrowLemmas.{begins_so, prints_whole_lines}
use Rattle.cml_judge.proofs.PastLemmas.{StartsSo, GoesOnBehind, tells_begin}

-- ---- the first line of several

earlier_none : (a : Option ℕ) → a ≡ earlier a None
earlier_none None = refl
earlier_none (Some a) = refl

earlier_of_three : (a b c : Option ℕ) → earlier (earlier a b) c ≡ earlier a (earlier b c)
earlier_of_three None b c = refl
earlier_of_three (Some a) None c = refl
earlier_of_three (Some a) (Some b) None = refl
earlier_of_three (Some a) (Some b) (Some c) = let same : min (min a b) c ≡ min a (min b c) = omega arith in ap Some same

pub earlier_more : (ls : List (Option ℕ)) (i : ℕ) (d first next whole : Option ℕ) → i < length ls → next ≡ earlier first (get_or ls i d) →
    earlier first (earliest (drop i ls)) ≡ whole → earlier next (earliest (drop (i + 1) ls)) ≡ whole
earlier_more ls i d first next whole within is so_far =
    let rest = earliest (drop (i + 1) ls) in
    ap (λ a. earlier a rest) is
    ∙ (earlier_of_three first (get_or ls i d) rest ∙ (ap (λ b. earlier first b) (sym (at_drop_more earliest ls i d within)) ∙ so_far))

pub earlier_all : (ls : List (Option ℕ)) (i : ℕ) (first whole : Option ℕ) → length ls ≤ i → earlier first (earliest (drop i ls)) ≡ whole → first ≡ whole
earlier_all ls i first whole past so_far = earlier_none first ∙ (ap (λ xs. earlier first (earliest xs)) (sym (drop_all i ls past)) ∙ so_far)

-- ---- whether what was printed breaks one of the properties

pub tells_breaks : SpellsOneAtMost → (properties : List Property) (h : Kept) (text : List ℕ) (run : Printed) (judged : List (Option ℕ)) (at : Option ℕ) →
    stands (text_of h.course.program) h.course.items ≡ Some (run_of h.course) → text ≡ h.course.output → run.output.now ≡ text → run.finish ≡ GoesOn →
    AreJudged (lines text) run properties judged → StartsSo text (earliest judged) at → TellsBreaks properties (text_of h.course.program) h.course.items at
tells_breaks once properties h text run judged at leads same output going so starts = λ k r so_far.
    let p = text_of h.course.program in
    let grows = begins_so p h.course.items k r (run_of h.course) leads so_far in
    let behind : GoesOnBehind text r.output run = record {
      more = grows.more;
      split = same ∙ grows.grown;
      whole = prints_whole_lines p (take k h.course.items) r so_far;
      output = output;
      going = going;
    } in
    tells_begin once text r.output run behind properties judged at so starts

-- ---- the first item behind which it is so

come_so : (at : Option ℕ) (p : Program) (items : List Item) (r : Run) → stands p items ≡ Some r → HasComeBehind at p items → has_come at p items r ≡ true
come_so at p items r leads come = subst (λ (o : Option Run). IsSomeAnd o (λ now. IsTrue (has_come at p items now))) leads come

has_come_so : (at : Option ℕ) (p : Program) (items : List Item) (r : Run) → stands p items ≡ Some r → has_come at p items r ≡ true → HasComeBehind at p items
has_come_so at p items r leads come = subst (λ (o : Option Run). IsSomeAnd o (λ now. IsTrue (has_come at p items now))) (sym leads) come

within_none : (at : Option ℕ) → (is_place_within at 0 || false) ≡ false
within_none None = refl
within_none (Some a) = ap (λ b. b || false) (le-ltb a 0 (omega arith))

pub none_come : (at : Option ℕ) (p : Program) (items : List Item) (k : ℕ) → k < 0 + 1 → HasComeBehind at p (take k items) → ⊥
none_come at p items zero h come = let so : (is_place_within at 0 || false) ≡ true = come in both_ways (is_place_within at 0 || false) (within_none at) so
none_come at p items (suc k) h come = absurd (omega arith)

-- the second hub has come as far as the items of the first
pub come_again : (first second : Kept) (at : Option ℕ) (n : ℕ) (come : Bool) → RunsAgain first second n →
    come ≡ has_come at (text_of second.course.program) second.course.items (run_of second.course) →
    come ≡ has_come at (text_of first.course.program) (take n first.course.items) (run_of second.course)
come_again first second at n come gone is =
    is ∙ (ap (λ q. has_come at (text_of q) second.course.items (run_of second.course)) gone.program
    ∙ ap (λ xs. has_come at (text_of first.course.program) xs (run_of second.course)) gone.items)

pub none_come_more : (at : Option ℕ) (p : Program) (items : List Item) (i : ℕ) (r : Run) (come : Bool) → stands p (take (i + 1) items) ≡ Some r →
    come ≡ has_come at p (take (i + 1) items) r → come ≡ false → ((k : ℕ) → k < i + 1 → HasComeBehind at p (take k items) → ⊥) →
    (k : ℕ) → k < i + 1 + 1 → HasComeBehind at p (take k items) → ⊥
none_come_more at p items i r come leads is not_yet none =
    below_more (λ k. HasComeBehind at p (take k items) → ⊥) (i + 1) none
    (λ here. both_ways (has_come at p (take (i + 1) items) r) (sym is ∙ not_yet) (come_so at p (take (i + 1) items) r leads here))

pub come_behind : (at : Option ℕ) (p : Program) (items : List Item) (i : ℕ) (r : Run) (come : Bool) → i < length items → stands p (take (i + 1) items) ≡ Some r →
    come ≡ has_come at p (take (i + 1) items) r → come ≡ true → ((k : ℕ) → k < i + 1 → HasComeBehind at p (take k items) → ⊥) → ComesFirstBehind at p items (i + 1)
come_behind at p items i r come within leads is now none = record {
  within = omega arith;
  come = has_come_so at p (take (i + 1) items) r leads (sym is ∙ now);
  first = none;
}

pub none_come_at_all : (at : Option ℕ) (p : Program) (items all : List Item) (i : ℕ) → items ≡ all → length items ≤ i →
    ((k : ℕ) → k < i + 1 → HasComeBehind at p (take k all) → ⊥) → (k : ℕ) → HasComeBehind at p (take k all) → ⊥
none_come_at_all at p items all i same past none k come =
    let few : length all ≤ i = subst (λ (xs : List Item). length xs ≤ i) same past in
    elim (cases_lt k (i + 1)) [
      | inl lt ↦ none k lt come
      | inr le ↦ none i (omega arith) (subst (λ (xs : List Item). HasComeBehind at p xs) (take_all k all (omega arith) ∙ sym (take_all i all few)) come)
    ]

-- ---- there it is broken, and nowhere before

or_either : (a b : Bool) → (a || b) ≡ true → (a ≡ true) ⊎ (b ≡ true)
or_either true b e = inl refl
or_either false b e = inr e

come_if : (properties : List Property) (p : Program) (items : List Item) (at : Option ℕ) (k : ℕ) (o : Option Run) → o ≡ stands p (take k items) → TellsBreaks properties p items at →
    IsSomeAnd o (λ r. BreaksOne properties r.output ⊎ (0 < fault_count p (take k items))) → IsSomeAnd o (λ r. IsTrue (has_come at p (take k items) r))
come_if properties p items at k None is tells broken = absurd broken
come_if properties p items at k (Some r) is tells (inl breaks) = ap (λ t. t || nat_lt 0 (fault_count p (take k items))) ((tells k r (sym is)).0 breaks)
come_if properties p items at k (Some r) is tells (inr faults) =
    or_right (is_place_within at (length r.output)) (nat_lt 0 (fault_count p (take k items))) (lt-ltb 0 (fault_count p (take k items)) faults)

broken_if : (properties : List Property) (p : Program) (items : List Item) (at : Option ℕ) (k : ℕ) (o : Option Run) → o ≡ stands p (take k items) → TellsBreaks properties p items at →
    IsSomeAnd o (λ r. IsTrue (has_come at p (take k items) r)) → IsSomeAnd o (λ r. BreaksOne properties r.output ⊎ (0 < fault_count p (take k items)))
broken_if properties p items at k None is tells come = absurd come
broken_if properties p items at k (Some r) is tells come =
    elim (or_either (is_place_within at (length r.output)) (nat_lt 0 (fault_count p (take k items))) come) [
      | inl past ↦ inl ((tells k r (sym is)).1 past)
      | inr faults ↦ inr (ltb-true 0 (fault_count p (take k items)) faults)
    ]

pub stops_so : {E : Type 0} (r : Result (Option ℕ) E) (properties : List Property) (p : Program) (items : List Item) (at : Option ℕ) → TellsBreaks properties p items at →
    IfOk r (ComesAfter at p items) → IfOk r (StopsAfter properties p items)
stops_so (Ok (Some n)) properties p items at tells comes = record {
  within = comes.within;
  broken = broken_if properties p items at n (stands p (take n items)) refl tells comes.come;
  first = λ k lt broken. comes.first k lt (come_if properties p items at k (stands p (take k items)) refl tells broken);
}
stops_so (Ok None) properties p items at tells none = λ k broken. none k (come_if properties p items at k (stands p (take k items)) refl tells broken)
stops_so (Err e) properties p items at tells comes = tt
