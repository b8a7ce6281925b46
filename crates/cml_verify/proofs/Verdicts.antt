-- From what is kept to the ends that are told.
use Rattle.std.proofs.Common.{◌≡◌, ℕ, zero, suc, ◌+◌, ◌<◌, ◌≤◌, Bool, true, false, List, [], ◌∷◌, ◌++◌, length, map, Option, None, Some, slice_get, Contains, ◌⊎◌, inl, inr}
use Rattle.std.proofs.Common.{refl, ap, sym, subst, ◌∙◌, arith, true≢false, length-append}
use Rattle.std.specs.Prelude.{option_map, IfSome, IfNone, IsTrue}
use Rattle.std.specs.List.{All}
use Rattle.std.proofs.lemmas.List.Elements.{All-nil, All-cons}
use Rattle.std.proofs.lemmas.Option.{slice_get-map, slice_get_within, get_or_from_slice_get, same_Some}
use Rattle.cml_check.specs.Syntax.{PlainItem}
use Rattle.cml_schedule.specs.declared.item.Item.{Item}
use Rattle.cml_step.specs.Calls.{text_of}
use Rattle.cml_hub.specs.Runs.{stands, terminal}
use Rattle.cml_verify.specs.Systems.{System, run}
use Rattle.cml_verify.specs.Searches.{IsSought, AreFewest}
use Rattle.cml_verify.specs.Places.{there, place_in, either_way, get_push_cases}
use Rattle.cml_verify.specs.Cores.{Core, past, core_of, program_system}
use Rattle.cml_verify.specs.Ends.{IsEndAt, EachEndIsAmong, AreSchedulesTo}
use Rattle.cml_verify.specs.Kept.{PlainKept, core_kept}
use Rattle.cml_verify.specs.Verdicts.{RunEnd, EndsIn, HasEnd, IsWithin, EveryEndIsTold}
use Rattle.cml_verify.proofs.Viewed.{runs_core, run_behind}

pub all_from : {X : Type 0} (P : X → Type 0) (xs : List X) → ((i : ℕ) (x : X) → slice_get xs i ≡ Some x → P x) → All P xs
all_from P [] h = All-nil P
all_from P (x ∷ xs) h = All-cons P x xs (h 0 x refl) (all_from P xs (λ i y e. h (suc i) y e))

-- a search stops only at the first state beyond its bound
pub stops_late : (most : Option ℕ) (bound states n : ℕ) (whole : Bool) → IfSome most (λ m. whole ≡ false) → (whole ≡ false → bound < n) → n ≤ bound + 1 → states ≡ n
    → IfSome most (λ m. states ≡ bound + 1)
stops_late None bound states n whole h full over e = tt
stops_late (Some m) bound states n whole h full over e = omega (arith, full h, over, e)

-- and a search that did not stop has found no such state
pub ends_within : (most : Option ℕ) (bound states n : ℕ) (whole : Bool) → IfNone most (IsTrue whole) → (IsTrue whole → n ≤ bound) → states ≡ n → IfNone most (states ≤ bound)
ends_within None bound states n whole h bounded e = omega (arith, bounded h, e)
ends_within (Some m) bound states n whole h bounded e = tt

-- no schedule yet
pub told_none : (y : System Core Item) (states : List Core) (places : List ℕ) (schedules : List (List Item)) → schedules ≡ [] → AreSchedulesTo y states places 0 schedules
told_none y states places schedules e = subst (AreSchedulesTo y states places 0) (sym e) (record { count = refl; each = λ i one h. absurd (nothing i one h) })
  where
    nothing : (i : ℕ) (one : List Item) → slice_get [] i ≡ Some one → ⊥
    nothing i one h = omega (arith, slice_get_within [] i one h)

-- one schedule more
pub told_more : (y : System Core Item) (states : List Core) (places : List ℕ) (n k : ℕ) (schedules after : List (List Item)) (schedule : List Item)
    → AreSchedulesTo y states places n schedules → after ≡ schedules ++ schedule ∷ [] → slice_get places n ≡ Some k
    → run y y.start schedule ≡ slice_get states k → AreFewest y false states k schedule → AreSchedulesTo y states places (n + 1) after
told_more y states places n k schedules after schedule t e at leads fewest = subst (AreSchedulesTo y states places (n + 1)) (sym e) here
  where
    by : (i : ℕ) (one : List Item) → (slice_get schedules i ≡ Some one) ⊎ ((i ≡ length schedules) × (schedule ≡ one))
        → (m : ℕ) × (slice_get places i ≡ Some m) × (run y y.start one ≡ slice_get states m) × AreFewest y false states m one
    by i one (inl h) = t.each i one h
    by i one (inr h) =
        let is : i ≡ n = h.0 ∙ t.count in
        let Told : List Item → Type 0 = λ s. (run y y.start s ≡ slice_get states k) × AreFewest y false states k s in
        let both = subst Told h.1 (leads, fewest) in
        (k, ap (slice_get places) is ∙ at, both.0, both.1)

    here : AreSchedulesTo y states places (n + 1) (schedules ++ schedule ∷ [])
    here = record {
      count = omega (arith, length-append schedules (schedule ∷ []), t.count);
      each = λ i one h. by i one (get_push_cases schedules schedule i one h);
    }

module _ (p : List (PlainItem ℕ)) (with_output : Bool) (keys : List PlainKept) where
  abbrev states : List Core
  states = map (core_kept p) keys

  abbrev y : System Core Item
  y = program_system (text_of p) with_output

  -- what is kept of a state at a place
  pub kept_behind : (k : ℕ) (c : Core) → slice_get states k ≡ Some c → (a : PlainKept) × (slice_get keys k ≡ Some a) × (core_kept p a ≡ c)
  kept_behind k c h = by (slice_get keys k) refl (sym (slice_get-map (core_kept p) keys k) ∙ h)
    where
      by : (o : Option PlainKept) → slice_get keys k ≡ o → option_map (core_kept p) o ≡ Some c → (a : PlainKept) × (slice_get keys k ≡ Some a) × (core_kept p a ≡ c)
      by None e f = absurd (cc)
      by (Some a) e f = (a, e, same_Some (core_kept p a) c f)

  -- the end at a core
  abbrev ending_of : Core → RunEnd
  ending_of c = record { world = c.world; terms = c.terms; began = c.past.began; faults = c.past.faults; printed = c.printed }

  -- a schedule that leads to a core at which nothing is left to do
  ends_at : (schedule : List Item) (c : Core) → run y y.start schedule ≡ Some c → terminal c.world ≡ true → EndsIn (text_of p) with_output schedule (ending_of c)
  ends_at schedule c leads stop =
      let b = run_behind with_output (past (text_of p) schedule) (stands (text_of p) schedule) c (sym (runs_core (text_of p) with_output schedule) ∙ leads) in
      record {
        run = b.0;
        leads = b.1;
        world = ap (λ (x : Core). x.world) b.2;
        terms = ap (λ (x : Core). x.terms) b.2;
        began = ap (λ (x : Core). x.past.began) b.2;
        faults = ap (λ (x : Core). x.past.faults) b.2;
        printed = ap (λ (x : Core). x.printed) b.2;
        over = stop;
      }

  -- a schedule that ends leads to a core
  pub record Seeks (others : List Item) (e : RunEnd) : Type 0 where
    pub core : Core
    pub is : IsSought y false others core
    pub end : ending_of core ≡ e

  seeks : (others : List Item) (e : RunEnd) → EndsIn (text_of p) with_output others e → Seeks others e
  seeks others e h = record {
    core = core_of with_output (past (text_of p) others) h.run;
    is = (runs_core (text_of p) with_output others ∙ ap (option_map (core_of with_output (past (text_of p) others))) h.leads, λ f. absurd (true≢false (sym f)));
    end = rw (h.world, h.terms, h.began, h.faults, h.printed) refl;
  }

  module _ (places : List ℕ) (told : List (List Item)) (t : AreSchedulesTo y states places (length places) told) where
    -- a schedule that was told leads to an end
    pub each_ends : All (IsEndAt keys) places → All (HasEnd (text_of p) with_output) told
    each_ends all = all_from (HasEnd (text_of p) with_output) told (λ i schedule h. by i schedule (t.each i schedule h))
      where
        end_at : (i k : ℕ) → slice_get places i ≡ Some k → IsEndAt keys k
        end_at i k h = subst (IsEndAt keys) (get_or_from_slice_get places i k k h) (all i k (slice_get_within places i k h))

        by : (i : ℕ) (schedule : List Item) → ((k : ℕ) × (slice_get places i ≡ Some k) × (run y y.start schedule ≡ slice_get states k) × AreFewest y false states k schedule)
            → HasEnd (text_of p) with_output schedule
        by i schedule s =
            let a = end_at i s.0 s.1 in
            let here : slice_get states s.0 ≡ Some (core_kept p a.one) = slice_get-map (core_kept p) keys s.0 ∙ ap (option_map (core_kept p)) a.at in
            (ending_of (core_kept p a.one), ends_at schedule (core_kept p a.one) (s.2 ∙ here) a.over)

    -- what was told of a place
    pub record IsToldAt (k : ℕ) : Type 0 where
      pub one : List Item
      pub has : Contains told one
      pub leads : run y y.start one ≡ slice_get states k
      pub fewest : AreFewest y false states k one

    told_at : (k : ℕ) → Contains places k → IsToldAt k
    told_at k c =
        let one = there told c.0 (omega (arith, t.count, c.1)) in
        let s = t.each c.0 one.0 one.1 in
        let same : s.0 ≡ k = same_Some s.0 k (sym s.1 ∙ place_in places k c) in
        subst IsToldAt same (record { one = one.0; has = (c.0, slice_get_within told c.0 one.0 one.1, get_or_from_slice_get told c.0 one.0 one.0 one.1); leads = s.2; fewest = s.3 })

    -- one that ends at this core, and has no more items than the schedule
    abbrev Shorter : List Item → Core → Type 0
    Shorter schedule c = (one : List Item) × Contains told one × EndsIn (text_of p) with_output one (ending_of c) × (length one ≤ length schedule)

    module _ (among : EachEndIsAmong keys places (length keys)) (schedule : List Item) (c : Core) (sought : IsSought y false schedule c) (over : terminal c.world ≡ true) where
      is_told : (k : ℕ) → slice_get states k ≡ Some c → IsToldAt k
      is_told k at =
          let d = kept_behind k c at in
          let stop : terminal d.0.world ≡ true = ap (λ (x : Core). terminal x.world) d.2 ∙ over in
          told_at k (among k (slice_get_within keys k d.0 d.1) (record { one = d.0; at = d.1; over = stop }))

      from_told : (k : ℕ) → slice_get states k ≡ Some c → ((j : ℕ) → j < k → slice_get states j ≡ Some c → Shorter schedule c) → IsToldAt k → Shorter schedule c
      from_told k at before s = elim (either_way (length s.one) (length schedule)) [
        | inl few ↦ (s.one, s.has, ends_at s.one c (s.leads ∙ at) over, few)
        | inr less ↦ let b = s.fewest schedule c sought less in before b.0 b.1 b.2
      ]

      -- Told is a schedule to the first place at which this core stands; it has no more items.
      first_place : (n k : ℕ) → k < n → slice_get states k ≡ Some c → Shorter schedule c
      first_place zero k lt at = absurd (omega arith)
      first_place (suc n) k lt at = from_told k at (λ j less there_. first_place n j (omega (arith, less, lt)) there_) (is_told k at)

    pub every_end : (most : Option ℕ) → ((items : List Item) (c : Core) → IsWithin most items → IsSought y false items c → Contains states c)
        → EachEndIsAmong keys places (length keys) → EveryEndIsTold (text_of p) with_output most told
    every_end most all among schedule e within h =
        let q = seeks schedule e h in
        let c = all schedule q.core within q.is in
        let stop : terminal q.core.world ≡ true = ap (λ (x : RunEnd). terminal x.world) q.end ∙ h.over in
        subst (λ (x : RunEnd). (one : List Item) × Contains told one × EndsIn (text_of p) with_output one x × (length one ≤ length schedule)) q.end
        (first_place among schedule q.core q.is stop (suc c.0) c.0 (omega arith) (place_in states q.core c))
