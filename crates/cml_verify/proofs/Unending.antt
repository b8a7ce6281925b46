-- Schedules that can not go on to an end.
use Rattle.std.proofs.Common.{◌≡◌, ℕ, ◌<◌, ◌≤◌, Bool, true, false, List, [], ◌∷◌, ◌++◌, length, map, Option, Some, None, slice_get, Contains}
use Rattle.std.proofs.Common.{◌⊎◌, inl, inr, refl, ap, sym, subst, ◌∙◌, true≢false}
use Rattle.std.specs.Prelude.{option_map, IfSome, IfNone}
use Rattle.std.specs.List.{All}
use Rattle.std.proofs.lemmas.List.Elements.{All-weaker}
use Rattle.std.proofs.lemmas.Option.{same_Some, slice_get-map, slice_get_within}
use Rattle.cml_check.specs.Syntax.{PlainItem}
use Rattle.cml_schedule.specs.declared.item.Item.{Item}
use Rattle.cml_step.specs.Terms.{Program}
use Rattle.cml_hub.specs.Runs.{Run, stands, terminal}
use Rattle.cml_verify.specs.Systems.{System, run, IsReached, CanReach}
use Rattle.cml_verify.specs.Searches.{AreFewest}
use Rattle.cml_verify.specs.Marks.{ArePlacesOf}
use Rattle.cml_verify.specs.Places.{either_way}
use Rattle.cml_verify.proofs.Runs.{begins, run-cons}
use Rattle.cml_verify.specs.Cores.{Core, past, core_of, program_system}
use Rattle.cml_verify.specs.Verdicts.{RunEnd, EndsIn, HasEnd}
use Rattle.cml_verify.specs.Ends.{IsEndAt, EachEndIsAmong}
use Rattle.cml_verify.specs.Faults.{NeverEnds, CanAlwaysEnd, IsUnending}
use Rattle.cml_verify.specs.Kept.{PlainKept, core_kept}
use Rattle.cml_verify.proofs.Verdicts.{kept_behind}
use Rattle.cml_verify.proofs.Viewed.{runs_core, run_behind}

-- more items, from where the first ones lead
run_on : {S I : Type 0} (y : System S I) (s : S) (items more : List I) (t : S) → run y s items ≡ Some t → run y s (items ++ more) ≡ run y t more
run_on y s [] more t h = ap (λ u. run y u more) (same_Some s t h)
run_on y s (i ∷ items) more t h = let b = begins y s i items t h in run-cons y s i (items ++ more) b.next b.first ∙ run_on y b.next items more t b.rest

module _ (p : Program) (s : Bool) where
  abbrev y : System Core Item
  y = program_system p s

  -- nothing is left to do at the core
  abbrev pub is_over : Core → Bool
  is_over c = terminal c.world

  -- a schedule that leads to a core at which nothing is left to do ends
  pub ends_there : (items : List Item) (c : Core) → run y y.start items ≡ Some c → is_over c ≡ true → HasEnd p false items
  ends_there items c h over =
      let b = run_behind s (past p items) (stands p items) c (sym (runs_core p s items) ∙ h) in
      let e : RunEnd = record { world = c.world; terms = c.terms; began = c.past.began; faults = c.past.faults; printed = None } in (
        e,
        record {
          run = b.0;
          leads = b.1;
          world = ap (λ (x : Core). x.world) b.2;
          terms = ap (λ (x : Core). x.terms) b.2;
          began = ap (λ (x : Core). x.past.began) b.2;
          faults = ap (λ (x : Core). x.past.faults) b.2;
          printed = refl;
          over = over;
        },
      )

  -- a schedule that ends leads to such a core
  pub over_there : (items : List Item) → HasEnd p false items → (c : Core) × (run y y.start items ≡ Some c) × (is_over c ≡ true)
  over_there items h =
      let c = core_of s (past p items) h.1.run in
      (c, runs_core p s items ∙ ap (option_map (core_of s (past p items))) h.1.leads, ap terminal h.1.world ∙ h.1.over)

  pub never_ends : (schedule : List Item) (c : Core) → run y y.start schedule ≡ Some c → (CanReach y is_over c → ⊥) → NeverEnds p schedule
  never_ends schedule c h none =
      let b = run_behind s (past p schedule) (stands p schedule) c (sym (runs_core p s schedule) ∙ h) in
      record {
        run = b.0;
        leads = b.1;
        never = λ more e.
            let o = over_there (schedule ++ more) e in
            none (more, o.0, sym (run_on y y.start schedule more c h) ∙ o.1, o.2);
      }

  -- no schedule that never ends has fewer items
  pub fewest_unending : (schedule : List Item) (states : List Core) (place : ℕ) → AreFewest y false states place schedule
      → ((j : ℕ) (c : Core) → j < place → slice_get states j ≡ Some c → CanReach y is_over c) → (others : List Item) → NeverEnds p others → length schedule ≤ length others
  fewest_unending schedule states place fewest before others n =
      elim (either_way (length schedule) (length others)) [
        | inl few ↦ few
        | inr less ↦
            let a = past p others in
            let c = core_of s a n.run in
            let leads : run y y.start others ≡ Some c = runs_core p s others ∙ ap (option_map (core_of s a)) n.leads in
            let q = fewest others c (leads, λ f. absurd (true≢false (sym f))) less in
            let can = before q.0 c q.1 q.2 in
            absurd (n.never can.0 (ends_there (others ++ can.0) can.1 (run_on y y.start others can.0 c leads ∙ can.2) can.3))
      ]

  pub always_can : ((c : Core) → IsReached y c → CanReach y is_over c) → CanAlwaysEnd p
  always_can each schedule r h =
      let c = core_of s (past p schedule) r in
      let leads : run y y.start schedule ≡ Some c = runs_core p s schedule ∙ ap (option_map (core_of s (past p schedule))) h in
      let can = each c (schedule, leads) in
      (can.0, ends_there (schedule ++ can.0) can.1 (run_on y y.start schedule can.0 c leads ∙ can.2) can.3)

-- the places at which ends are kept are those of the cores at which nothing is left to do
pub are_places : (p : List (PlainItem ℕ)) (s : Bool) (keys : List PlainKept) (places : List ℕ) → All (IsEndAt keys) places → EachEndIsAmong keys places (length keys)
    → ArePlacesOf (λ (c : Core). terminal c.world) (map (core_kept p) keys) places
are_places p s keys places each among =
    record {
      each = All-weaker (IsEndAt keys) (λ k. IfSome (slice_get states k) (λ c. terminal c.world ≡ true)) (λ k a. at_end k a) places each;
      all = λ k. by k (slice_get states k) refl;
    }
  where
    states : List Core
    states = map (core_kept p) keys

    at_end : (k : ℕ) → IsEndAt keys k → IfSome (slice_get states k) (λ c. terminal c.world ≡ true)
    at_end k a =
        let here : slice_get states k ≡ Some (core_kept p a.one) = slice_get-map (core_kept p) keys k ∙ ap (option_map (core_kept p)) a.at in
        let At : Option Core → Type 0 = λ o. IfSome o (λ c. terminal c.world ≡ true) in
        subst At (sym here) a.over

    by : (k : ℕ) (o : Option Core) → slice_get states k ≡ o → IfSome o (λ c. terminal c.world ≡ true → Contains places k)
    by k None h = tt
    by k (Some c) h = λ over.
        let b = kept_behind p s keys k c h in
        among k (slice_get_within keys k b.0 b.1) (record { one = b.0; at = b.1; over = ap (λ (x : Core). terminal x.world) b.2 ∙ over })

-- what is said of the schedule that never ends
pub unending_is : {V : Type 0} (f : V → List Item) (p : Program) (W : Type 0) (most : Option ℕ) (told : Option V)
    → IfSome told (λ v. NeverEnds p (f v) × ((others : List Item) → NeverEnds p others → length (f v) ≤ length others)) → IfNone most W
    → (W → IfNone told (CanAlwaysEnd p)) → IsUnending p most (option_map f told)
unending_is f p W most (Some v) h n w = h
unending_is f p W (Some m) None h n w = tt
unending_is f p W None None h n w = w n
