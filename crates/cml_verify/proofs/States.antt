-- From what is kept to the states that are counted.
use Rattle.std.proofs.Common.{◌≡◌, ℕ, zero, suc, ◌+◌, ◌<◌, true, false, Bool, List, [], ◌∷◌, length, map, Option, None, Some, slice_get, Contains, refl, ap, sym, subst, ◌∙◌, true≢false}
use Rattle.std.specs.Prelude.{option_map}
use Rattle.std.specs.List.{All, AllByRecursion, IsDistinct}
use Rattle.std.proofs.lemmas.List.{length-map}
use Rattle.std.proofs.lemmas.Option.{slice_get-map, slice_get_within, get_or_from_slice_get, same_Some}
use Rattle.cml_check.specs.Syntax.{PlainItem}
use Rattle.cml_schedule.specs.declared.item.Item.{Item}
use Rattle.cml_step.specs.Calls.{text_of}
use Rattle.cml_hub.specs.Runs.{Run, stands}
use Rattle.cml_verify.specs.Systems.{System, run}
use Rattle.cml_verify.specs.Searches.{IsSought}
use Rattle.cml_verify.specs.Places.{there, place_in, all_at, mapped_has}
use Rattle.cml_verify.specs.Cores.{Core, past, core_of, program_system}
use Rattle.cml_verify.specs.Ends.{AreSchedulesTo}
use Rattle.cml_verify.specs.Kept.{PlainKept, core_kept, state_code}
use Rattle.cml_verify.specs.Placed.{AreThreadsIn}
use Rattle.cml_verify.specs.Sameness.{is_same, is_same_so}
use Rattle.cml_verify.specs.Verdicts.{IsWithin, RunState, StandsSo, LeadApart, CountsStates}
use Rattle.cml_verify.proofs.Viewed.{runs_core, run_behind}
use Rattle.cml_verify.proofs.Verdicts.{all_from}

-- what is true of all is true of what stands at a place
all_by : {X : Type 0} (P : X → Type 0) (xs : List X) (k : ℕ) (x : X) → AllByRecursion P xs → slice_get xs k ≡ Some x → P x
all_by P [] k x all h = absurd (cc)
all_by P (z ∷ xs) zero x all h = subst P (same_Some z x h) all.0
all_by P (z ∷ xs) (suc k) x all h = all_by P xs k x all.1 h

-- of keys of which no two are equal each stands at one place
module _ {X : Type 0} (eq : X → X → Bool) (same : (x y : X) → x ≡ y → eq x y ≡ true) where
  not_behind : (z : X) (xs : List X) (k : ℕ) (x : X) → AllByRecursion (λ y. eq z y ≡ false) xs → z ≡ x → slice_get xs k ≡ Some x → ⊥
  not_behind z xs k x all e h = true≢false (sym (same z x e) ∙ all_by (λ y. eq z y ≡ false) xs k x all h)

  one_place : (xs : List X) → IsDistinct eq xs → (j k : ℕ) (x : X) → slice_get xs j ≡ Some x → slice_get xs k ≡ Some x → j ≡ k
  unfolding IsDistinct
  one_place [] d j k x h g = absurd (cc)
  one_place (z ∷ xs) d zero zero x h g = refl
  one_place (z ∷ xs) d zero (suc k) x h g = absurd (not_behind z xs k x d.0 (same_Some z x h) g)
  one_place (z ∷ xs) d (suc j) zero x h g = absurd (not_behind z xs j x d.0 (same_Some z x g) h)
  one_place (z ∷ xs) d (suc j) (suc k) x h g = ap suc (one_place xs d.1 j k x h g)

mapped_behind : {A B : Type 0} (f : A → B) (xs : List A) (k : ℕ) (b : B) → slice_get (map f xs) k ≡ Some b → (a : A) × (slice_get xs k ≡ Some a) × (f a ≡ b)
mapped_behind {A = A} f xs k b h = by (slice_get xs k) refl (sym (slice_get-map f xs k) ∙ h)
  where
    by : (o : Option A) → slice_get xs k ≡ o → option_map f o ≡ Some b → (a : A) × (slice_get xs k ≡ Some a) × (f a ≡ b)
    by None e g = absurd (cc)
    by (Some a) e g = (a, e, same_Some (f a) b g)

-- the state of which it is kept, and back
abbrev state_kept : PlainKept → RunState
state_kept k = record { world = k.world; machines = k.machines; began = k.began; faults = k.faults; printed = k.printed }

abbrev kept_of : RunState → PlainKept
kept_of s = record { world = s.world; machines = s.machines; began = s.began; faults = s.faults; printed = s.printed }

module _ (p : List (PlainItem ℕ)) (with_output : Bool) (keys : List PlainKept) where
  abbrev cores : List Core
  cores = map (core_kept p) keys

  abbrev states : List RunState
  states = map state_kept keys

  abbrev y : System Core Item
  y = program_system (text_of p) with_output

  stands_so : (schedule : List Item) (k : PlainKept) → run y y.start schedule ≡ Some (core_kept p k) → StandsSo p with_output schedule (state_kept k)
  stands_so schedule k h =
      let b = run_behind with_output (past (text_of p) schedule) (stands (text_of p) schedule) (core_kept p k) (sym (runs_core (text_of p) with_output schedule) ∙ h) in
      record {
        run = b.0;
        leads = b.1;
        world = ap (λ (c : Core). c.world) b.2;
        terms = ap (λ (c : Core). c.terms) b.2;
        began = ap (λ (c : Core). c.past.began) b.2;
        faults = ap (λ (c : Core). c.past.faults) b.2;
        printed = ap (λ (c : Core). c.printed) b.2;
      }

  different : IsDistinct (is_same state_code) keys → (j k : ℕ) (s : RunState) → slice_get states j ≡ Some s → slice_get states k ≡ Some s → j ≡ k
  different d j k s h g =
      let a = mapped_behind state_kept keys j s h in
      let b = mapped_behind state_kept keys k s g in
      let is : b.0 ≡ a.0 = ap kept_of (b.2 ∙ sym a.2) in
      one_place (is_same state_code) (is_same_so state_code) keys d j k a.0 a.1 (b.1 ∙ ap (λ x. Some x) is)

  placed : All (λ k. AreThreadsIn p k.machines) keys → All (λ s. AreThreadsIn p s.machines) states
  placed all = all_from (λ s. AreThreadsIn p s.machines) states (λ i s h.
      let b = mapped_behind state_kept keys i s h in
      subst (λ (x : RunState). AreThreadsIn p x.machines) b.2 (all_at (λ k. AreThreadsIn p k.machines) keys i b.0 all b.1))

  -- a schedule leads to each, of at most one item more than so many
  abbrev pub AreLedTo : Option ℕ → Type 0
  AreLedTo most = (k : ℕ) (c : Core) → slice_get cores k ≡ Some c → (items : List Item) × (run y y.start items ≡ Some c) × IsWithin (option_map (λ m. m + 1) most) items

  reached : (most : Option ℕ) → AreLedTo most → All (λ s. (schedule : List Item) × StandsSo p with_output schedule s × IsWithin (option_map (λ m. m + 1) most) schedule) states
  reached most led = all_from (λ s. (schedule : List Item) × StandsSo p with_output schedule s × IsWithin (option_map (λ m. m + 1) most) schedule) states (λ i s h.
      let b = mapped_behind state_kept keys i s h in
      let at : slice_get cores i ≡ Some (core_kept p b.0) = slice_get-map (core_kept p) keys i ∙ ap (option_map (core_kept p)) b.1 in
      let r = led i (core_kept p b.0) at in
      (r.0, subst (StandsSo p with_output r.0) b.2 (stands_so r.0 b.0 r.1), r.2))

  -- the schedules that are told lead to the states at different places
  pub lead_apart : (places : List ℕ) (told : List (List Item)) → AreSchedulesTo y cores places (length places) told → All (λ k. k < length keys) places
      → ((i j k : ℕ) → slice_get places i ≡ Some k → slice_get places j ≡ Some k → i ≡ j) → LeadApart p with_output states told
  lead_apart places told t within apart = record {
    places = places;
    apart = apart;
    each = λ i schedule h.
        let q = t.each i schedule h in
        let a = there keys q.0 (all_at (λ (k : ℕ). k < length keys) places i q.0 within q.1) in
        let core : slice_get cores q.0 ≡ Some (core_kept p a.0) = slice_get-map (core_kept p) keys q.0 ∙ ap (option_map (core_kept p)) a.1 in
        let state : slice_get states q.0 ≡ Some (state_kept a.0) = slice_get-map state_kept keys q.0 ∙ ap (option_map state_kept) a.1 in
        (q.0, state_kept a.0, q.1, state, stands_so schedule a.0 (q.2 ∙ core));
  }

  module _ (most : Option ℕ) (all : (items : List Item) (c : Core) → IsWithin most items → IsSought y false items c → Contains cores c) where
    each : (schedule : List Item) (r : Run) → IsWithin most schedule → stands (text_of p) schedule ≡ Some r → (s : RunState) × Contains states s × StandsSo p with_output schedule s
    each schedule r within h =
        let a = past (text_of p) schedule in
        let leads : run y y.start schedule ≡ Some (core_of with_output a r) = runs_core (text_of p) with_output schedule ∙ ap (option_map (core_of with_output a)) h in
        let has = all schedule (core_of with_output a r) within (leads, λ f. absurd (true≢false (sym f))) in
        let b = mapped_behind (core_kept p) keys has.0 (core_of with_output a r) (place_in cores (core_of with_output a r) has) in
        let kept : Contains keys b.0 = (has.0, slice_get_within keys has.0 b.0 b.1, get_or_from_slice_get keys has.0 b.0 b.0 b.1) in
        (state_kept b.0, mapped_has state_kept keys b.0 kept, stands_so schedule b.0 (leads ∙ ap (λ c. Some c) (sym b.2)))

    pub are_counted : IsDistinct (is_same state_code) keys → All (λ k. AreThreadsIn p k.machines) keys → AreLedTo most → (n : ℕ) → n ≡ length keys → (told : List (List Item))
        → LeadApart p with_output states told → CountsStates p with_output most told n
    are_counted d l r n e told apart = (states, record { different = different d; placed = placed l; reached = reached most r; each = each }, length-map keys state_kept ∙ sym e, apart)
