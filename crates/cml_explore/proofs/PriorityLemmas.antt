-- What is drawn for a run by priorities.
use Rattle.std.proofs.Common.{◌≡◌, ℕ, suc, ◌+◌, ◌-◌, ◌<◌, List, [], ◌∷◌, ◌++◌, length, sym, ap, subst, ◌∙◌, arith}
use Rattle.std.specs.Prelude.{Option, Result, Ok, Err, OnOk}
use Rattle.std.proofs.lemmas.List.{length_push}
use Rattle.rand_pcg.specs.Lcg.{Lcg}
use Rattle.cml_value.specs.declared.number.Tid.{Tid}
use Rattle.cml_scan.specs.World.{PlainWorld}
use Rattle.cml_schedule.specs.declared.item.Item.{Item}
use Rattle.cml_hub.specs.Choices.{seeded}
use Rattle.cml_hub.specs.Kept.{Kept}
use Rattle.cml_explore.specs.Generators.{by_generator}
use Rattle.cml_explore.specs.Draws.{RunsDrawn}
use Rattle.cml_explore.specs.Lots.{ready_from}
use Rattle.cml_explore.specs.SeedRuns.{RunsOut}
use Rattle.cml_explore.specs.declared.seed.order.Order.TheVariants as orders
use Rattle.cml_explore.specs.Priorities.{Numbers, number_drawn, numbers_drawn, PlainPriorities, begun_priorities}
use Rattle.cml_explore.specs.Priorities.{highest, actor, item_of_actor, party_of, lowered, with_state}
use Rattle.cml_explore.specs.Priorities.{acted, next_of_begun, by_priority}

-- one number more was drawn
pub draws_one : (above span count x : ℕ) (old new : List ℕ) (state next : Lcg) (end : Numbers) → length old < count → new ≡ old ++ (above + x) ∷ []
    → x ≡ by_generator.picks state span → next ≡ by_generator.next state → numbers_drawn above span (count - length old) (record { numbers = old; state = state }) ≡ end
    → numbers_drawn above span (count - length new) (record { numbers = new; state = next }) ≡ end
draws_one above span count x old new state next end few items is after so_far =
    let long : length new ≡ length old + 1 = ap length items ∙ length_push old (above + x) in
    let left : count - length old ≡ suc (count - length new) = omega (arith, long, few) in
    let drawn : Numbers = number_drawn above span (record { numbers = old; state = state }) in
    let step : record { numbers = new; state = next } ≡ drawn =
    ap (λ (l : List ℕ). record { numbers = l; state = next }) (items ∙ ap (λ y. old ++ (above + y) ∷ []) is)
    ∙ ap (λ (s : Lcg). record { numbers = drawn.numbers; state = s }) after in
    ap (numbers_drawn above span (count - length new)) step
    ∙ (sym (ap (λ n. numbers_drawn above span n (record { numbers = old; state = state })) left) ∙ so_far)

-- the item of the one that acts
pub acted_item : (items : ℕ) (w : PlainWorld) (g : PlainPriorities) (depth : ℕ) (points priorities : List ℕ) (state : Lcg) (who : Option Tid) (item : Option Item)
    → record { depth = depth; points = points; priorities = priorities; state = state } ≡ g → item ≡ (item_of_actor w state who).0 → item ≡ (acted items w g who).0
unfolding acted
acted_item items w g depth points priorities state who item view is = is ∙ ap (λ (h : PlainPriorities). (item_of_actor w h.state who).0) view

-- the priorities then
pub acted_state : (items count party : ℕ) (w : PlainWorld) (g new : PlainPriorities) (depth : ℕ) (points priorities : List ℕ) (state next : Lcg) (who : Option Tid)
    → record { depth = depth; points = points; priorities = priorities; state = state } ≡ g → next ≡ (item_of_actor w state who).1 → party ≡ party_of who → count ≡ items
    → new ≡ lowered (record { depth = depth; points = points; priorities = priorities; state = next }) party count → new ≡ (acted items w g who).1
unfolding acted
acted_state items count party w g new depth points priorities state next who view after of_who counted is =
    let mid : PlainPriorities = record { depth = depth; points = points; priorities = priorities; state = (item_of_actor w state who).1 } in
    is
    ∙ (ap (λ (s : Lcg). lowered (record { depth = depth; points = points; priorities = priorities; state = s }) party count) after
    ∙ (ap (λ k. lowered mid k count) of_who
    ∙ (ap (λ k. lowered mid (party_of who) k) counted ∙ ap (λ (h : PlainPriorities). lowered (with_state h (item_of_actor w h.state who).1) (party_of who) items) view)))

-- the one that acts is the one whose priority is highest
pub next_acts : (items : ℕ) (w : PlainWorld) (g : PlainPriorities) (ready : List Tid) (best who : Option Tid) → ready ≡ ready_from 0 w.threads → best ≡ highest g ready → who ≡ actor w g best
    → acted items w g who ≡ next_of_begun items w g
unfolding next_of_begun
next_acts items w g ready best who are highest_is actor_is = ap (acted items w g) (actor_is ∙ ap (actor w g) (highest_is ∙ ap (highest g) are))

-- the run by priorities that were drawn from a seed on
pub plays_so : {T E : Type 0} (r : Result T E) (depth span seed : ℕ) (old new : Kept) (begun last : PlainPriorities) → begun ≡ begun_priorities depth span (seeded seed)
    → OnOk r (RunsDrawn by_priority old begun new last) → OnOk r (RunsOut (orders.Priority depth) span seed old new)
plays_so (Ok x) depth span seed old new begun last is ran = record {
  program = ran.program;
  budget_is = ran.budget_is;
  plays = (last, subst (λ (g : PlainPriorities). RunsDrawn by_priority old g new last) is ran);
}
plays_so (Err e) depth span seed old new begun last is ran = tt
