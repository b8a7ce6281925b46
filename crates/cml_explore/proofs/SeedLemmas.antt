-- The run by each seed leads where it stands, and is over.
use Rattle.std.proofs.Common.{◌≡◌, ℕ, zero, suc, ◌+◌, ◌<◌, ◌≤◌, nat_le, Bool, true, false, not, ◌&&◌, ◌||◌, if◌then◌else◌, List, [], ◌∷◌, length, Option, Some, None, refl, sym, subst, arith}
use Rattle.std.specs.Prelude.{unwrap_or, slice_get}
use Rattle.std.specs.List.{list_any}
use Rattle.std.specs.Option.{option_map_or}
use Rattle.std.proofs.lemmas.Bool.{and_parts}
use Rattle.std.proofs.lemmas.Bool.Decides.{nat_tests}
use Rattle.rand_pcg.specs.Lcg.{Lcg}
use Rattle.cml_scan.specs.World.{PlainThread, PlainWorld}
use Rattle.cml_scan.specs.Scan.{scan, has_row}
use Rattle.cml_scan.specs.declared.meet.Meet.{Meet}
use Rattle.cml_schedule.specs.declared.item.Item.{Item}
use Rattle.cml_schedule.specs.declared.item.Item.TheVariants.{Turn, Meet as Commit, Exchange, Clock}
use Rattle.cml_check.specs.Syntax.{PlainItem}
use Rattle.cml_step.specs.Calls.{text_of}
use Rattle.cml_step.specs.Terms.{Program}
use Rattle.cml_book.specs.Swaps.{are_swaps}
use Rattle.cml_book.specs.Walks.{runs}
use Rattle.cml_hub.specs.Choices.{seeded}
use Rattle.cml_hub.specs.Courses.{run_of}
use Rattle.cml_hub.specs.Kept.{Kept}
use Rattle.cml_hub.specs.Playing.{Rules, Played, begun_by, next_by, played}
use Rattle.cml_hub.specs.Runs.{Run, stands, any_runs, is_empty, is_none, next_alarm, has_number, is_allowed, terminal, over}
use Rattle.cml_hub.proofs.Standing.{leads_on}
use Rattle.cml_explore.specs.Draws.{Way, Drawn, item_added, led_by, one_drawn, more_drawn, begun_drawn, run_drawn}
use Rattle.cml_explore.specs.Generators.{by_generator}
use Rattle.cml_explore.specs.Lots.{by_lot}
use Rattle.cml_explore.specs.Priorities.{PlainPriorities, begun_priorities, by_priority, points_span}
use Rattle.cml_explore.specs.SeedLaws.{SeedRunsLead, SeedRunsEnd}
use Rattle.cml_explore.specs.SeedRuns.{EndsWithin, IsSeedRun}
use Rattle.cml_explore.specs.declared.seed.order.Order.{Order}
use Rattle.cml_explore.specs.declared.seed.order.Order.TheVariants as orders
use Rattle.cml_explore.proofs.AllowedLemmas.{HaveTerms, item_goes}
use Rattle.cml_explore.proofs.QueueLemmas.{IsOnWay, begun_on, next_goes}
use Rattle.cml_explore.proofs.WayLemmas.{IsAllowed, InRange, generator_fair, lot_allowed, priority_allowed}

-- the schedule leads to this run, which is over
abbrev pub EndsThere : Program → ℕ → List Item → Run → Type 0
EndsThere p budget items r = (stands p items ≡ Some r) × (over budget r ≡ true)

pub still_left : (a b : Bool) → a || b ≡ false → (a ≡ false) × (b ≡ false)
still_left true b e = cc
still_left false b e = (refl, e)

told_used : (budget used : ℕ) → budget ≤ used → nat_le budget used ≡ true
told_used budget used h = grind (arith, nat_tests)

used_up : (a : Bool) (budget used : ℕ) → budget ≤ used + 0 → a || nat_le budget used ≡ true
used_up true budget used h = refl
used_up false budget used h = told_used budget used (omega (arith, h))

pub one_less : (budget a b n : ℕ) → budget ≤ a + suc n → a < b → budget ≤ b + n
one_less budget a b n h less = omega (arith, h, less)

pub none_used : (budget : ℕ) → budget ≤ 0 + budget
none_used budget = omega arith

pub if_over : {X : Type 0} (P : X → Type 0) (b : Bool) (x y : X) → (b ≡ true → P x) → (b ≡ false → P y) → P (if b then x else y)
if_over P true x y f g = f refl
if_over P false x y f g = g refl

-- By a chooser.
played_ends : {C : Type 0} (p : Program) (budget : ℕ) (rules : Rules C) → InRange rules → (n : ℕ) (g : Played C) → IsOnWay p g → budget ≤ g.run.used + n
    → EndsThere p budget (played p budget rules n g).items (played p budget rules n g).run
played_ends p budget rules fair zero g h few = (h.leads, used_up (terminal g.run.world) budget g.run.used few)
played_ends {C = C} p budget rules fair (suc n) g h few =
    if_over (λ (k : Played C). EndsThere p budget k.items k.run) (over budget g.run) g (played p budget rules n (unwrap_or (next_by p rules g g.queue) g)) (λ e. (h.leads, e))
    (λ e.
    let x = next_goes p rules fair g h g.queue refl (still_left (terminal g.run.world) (nat_le budget g.run.used) e).0 in
    subst (λ (o : Option (Played C)). EndsThere p budget (played p budget rules n (unwrap_or o g)).items (played p budget rules n (unwrap_or o g)).run) (sym x.is)
    (played_ends p budget rules fair n x.next x.on (one_less budget g.run.used x.next.run.used n few x.uses)))

-- By what is drawn.
record IsDrawn {S : Type 0} (p : Program) (g : Drawn S) : Type 0 where
  leads : stands p g.items ≡ Some g.run
  terms : HaveTerms g.run

record IsAdded {S : Type 0} (p : Program) (g new : Drawn S) : Type 0 where
  uses : g.run.used < new.run.used
  on : IsDrawn p new

drawn_added : {S : Type 0} (p : Program) (g : Drawn S) (state : S) (o : Option Item) → IsDrawn p g → IsAllowed g.run.world o → IsAdded p g (item_added g state o (led_by p g.run o))
drawn_added p g state None h ok = absurd ok
drawn_added p g state (Some item) h ok =
    let to = item_goes p g.run item h.terms ok in
    subst (λ (m : Option Run). IsAdded p g (item_added g state (Some item) m)) (sym to.leads)
    (record { uses = to.uses; on = record { leads = leads_on p g.items item g.run (Some to.next) h.leads to.leads; terms = to.terms } })

module _ {S : Type 0} (way : Way S) (draws : (items : ℕ) (w : PlainWorld) (s : S) → terminal w ≡ false → IsAllowed w (way items w s).0) (p : Program) (budget : ℕ) where
  more_ends : (n : ℕ) (g : Drawn S) → IsDrawn p g → budget ≤ g.run.used + n → EndsThere p budget (more_drawn way p budget n g).items (more_drawn way p budget n g).run
  more_ends zero g h few = (h.leads, used_up (terminal g.run.world) budget g.run.used few)
  more_ends (suc n) g h few =
      let d = way (length g.items) g.run.world g.state in
      if_over (λ (k : Drawn S). EndsThere p budget k.items k.run) (over budget g.run) g (more_drawn way p budget n (one_drawn p g d)) (λ e. (h.leads, e))
      (λ e.
      let x = drawn_added p g d.1 d.0 h (draws (length g.items) g.run.world g.state (still_left (terminal g.run.world) (nat_le budget g.run.used) e).0) in
      more_ends n (one_drawn p g d) x.on (one_less budget g.run.used (one_drawn p g d).run.used n few x.uses))

  drawn_ends : (state : S) → EndsThere p budget (run_drawn way p budget state).items (run_drawn way p budget state).run
  drawn_ends state = more_ends budget (begun_drawn p state) (record { leads = refl; terms = refl }) (none_used budget)

-- In each order.
ends_there : (p : Program) (budget : ℕ) (order : Order) (span : ℕ) (state : Lcg) (h : Kept) → EndsWithin p budget order span state h → EndsThere p budget h.course.items (run_of h.course)
ends_there p budget orders.Queue span state h e =
    subst (λ (g : Played Lcg). EndsThere p budget g.items g.run) (sym e.1) (played_ends p budget by_generator generator_fair budget (begun_by p state) (begun_on p state) (none_used budget))
ends_there p budget orders.Lot span state h e =
    subst (λ (g : Drawn Lcg). EndsThere p budget g.items g.run) (sym e.1) (drawn_ends (by_lot by_generator) (λ items. lot_allowed by_generator generator_fair) p budget state)
ends_there p budget (orders.Priority depth) span state h e =
    subst (λ (g : Drawn PlainPriorities). EndsThere p budget g.items g.run) (sym e.1) (drawn_ends by_priority priority_allowed p budget (begun_priorities depth span state))

seed_ends : (p : List (PlainItem ℕ)) (budget : ℕ) (order : Order) (seed : ℕ) (h : Kept) → IsSeedRun p budget order seed h → EndsThere (text_of p) budget h.course.items (run_of h.course)
seed_ends p budget order seed h is = ends_there (text_of p) budget order (points_span (text_of p) budget (seeded seed)) (seeded seed) h is.plays

pub seed_runs_lead : SeedRunsLead
seed_runs_lead p budget order seed h is = (seed_ends p budget order seed h is).0

-- Where nothing is left to do, no item is allowed.
none_runs : (ts : List PlainThread) (t : ℕ) → list_any runs ts ≡ false → option_map_or runs (slice_get ts t) false ≡ false
none_runs [] t h = refl
none_runs (x ∷ ts) zero h = (still_left (runs x) (list_any runs ts) h).0
none_runs (x ∷ ts) (suc t) h = none_runs ts t (still_left (runs x) (list_any runs ts) h).1

no_rows : (rows : List Meet) → is_empty rows ≡ true → (row : Meet) → has_row rows row ≡ false
no_rows [] e row = refl
no_rows (r ∷ rows) e row = cc

no_tick : (o : Option ℕ) → is_none o ≡ true → (tick : ℕ) → has_number o tick ≡ false
no_tick None e tick = refl
no_tick (Some t) e tick = cc

not_both : (a b : Bool) → a ≡ false → a && b ≡ false
not_both a b e = rw e refl

is_not : (b : Bool) → not b ≡ true → b ≡ false
is_not true e = sym e
is_not false e = refl

nothing_allowed : (w : PlainWorld) → terminal w ≡ true → (item : Item) → is_allowed w item ≡ false
nothing_allowed w h item = at item
  where
    all : (not (any_runs w) && is_empty (scan w) ≡ true) × (is_none (next_alarm w) ≡ true)
    all = and_parts (not (any_runs w) && is_empty (scan w)) (is_none (next_alarm w)) h

    two : (not (any_runs w) ≡ true) × (is_empty (scan w) ≡ true)
    two = and_parts (not (any_runs w)) (is_empty (scan w)) all.0

    at : (item : Item) → is_allowed w item ≡ false
    at (Turn t) = none_runs w.threads t.0 (is_not (any_runs w) two.0)
    at (Commit row) = no_rows (scan w) two.1 row
    at (Exchange row) = not_both (has_row (scan w) row) (are_swaps w row) (no_rows (scan w) two.1 row)
    at (Clock tick) =
        not_both (has_number (next_alarm w) tick && not (any_runs w)) (is_empty (scan w))
        (not_both (has_number (next_alarm w) tick) (not (any_runs w)) (no_tick (next_alarm w) all.1 tick))

not_used : (budget used : ℕ) → nat_le budget used ≡ true → used < budget → ⊥
not_used budget used e less = (let le : budget ≤ used = grind (arith, nat_tests) in absurd (omega (arith, le, less)))

over_so : (a : Bool) (budget used : ℕ) → a || nat_le budget used ≡ true → used < budget → a ≡ true
over_so true budget used e less = refl
over_so false budget used e less = absurd (not_used budget used e less)

pub seed_runs_end : SeedRunsEnd
seed_runs_end p budget order seed h is left =
    nothing_allowed h.course.world (over_so (terminal h.course.world) budget h.course.used (seed_ends p budget order seed h is).1 left)
