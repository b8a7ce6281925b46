use Rattle.std.proofs.Common.{◌≡◌, ◌<◌, ◌+◌, ◌^◌, ◌∷◌, [], ℕ, true, cond, length, map, take, ap, sym, subst, refl, ◌∙◌, arith}
use Rattle.cml_index.specs.Slots.{slot_in, slot_leaves, has_slot, is_slot, lane_at, going_at}
use Rattle.cml_index.specs.Stands as stands
use Rattle.cml_index.specs.Stands.{stand_at}
use Rattle.std.proofs.Common.{nat_lt, zero, suc, List}
use Rattle.std.specs.List.{filter}
use Rattle.cml_scan.specs.declared.meet.Place.{Place}
use Rattle.cml_value.specs.declared.number.Tid.{Tid}
use Rattle.cml_objects.specs.Lanes.{others, is_own}
use Rattle.cml_index.proofs.Walks.{waits_more, waits_all, no_leaves, one_more, others_all, decide}
use Rattle.std.proofs.lemmas.Bool.Decides.{nat_tests}
use Rattle.std.specs.Option.{option_copied}
use Rattle.cml_index.proofs.Stood.{go_twice}
use Rattle.cml_index.proofs.lanes.Lanes.go_many.Goals as goal

pub loop-wait-preserved : goal.loop-wait-preserved
loop-wait-preserved c =
    let ss = map slot_in c.args.waits.now in
    let i = c.loop-wait.wait-index in
    record {
      done = one_more (stands.HasGone c.args.tid) (go_twice c.args.tid) (stand_at c.count.new.self)
          (stand_at c.loop-wait.self) (stand_at c.go_of.new.self) (λ k. is_slot k (option_copied c.slot_ref.result))
          (λ k. has_slot k (take i ss)) (λ k. has_slot k (take (i + 1) ss))
          (λ k. waits_more (is_slot k) c.args.waits.now i
          (option_copied c.slot_ref.result) _ c.loop-wait-test.true c.slot_ref.ensures) c.go_of.ensures.here c.go_of.ensures.elsewhere c.loop-wait.invariant.done;
      cost = λ digits few.
          let before = c.loop-wait.invariant.cost digits few in
          let one = c.go_of.ensures.cost digits (λ k e some. decide (has_slot k (take i ss))
          (λ done. let none = (c.loop-wait.invariant.done.0 k done).going in absurd (omega (arith, none, some)))
          (λ left. subst (λ s. length (stands.places_in s) < 2 ^ digits) (sym (c.loop-wait.invariant.done.1 k left)) (few k))) in
          omega (arith, before, one);
    }

-- a lane from which this many leaves go
gone : (tid : Tid) (going leaves : ℕ) (ps : List Place) → (0 < going → going ≡ leaves)
    → (0 < length ps → going ≡ leaves) → leaves ≡ length (filter (is_own tid) ps) → stands.after_going tid going ps
    ≡ others tid ps
gone tid zero leaves [] a b all = refl
gone tid zero leaves (p ∷ ps) a b all = let none : zero ≡ leaves = b (omega arith) in sym (others_all tid (p ∷ ps) (sym all ∙ sym none))
gone tid (suc going) leaves ps a b all = ap (λ t. cond t (others tid ps) ps) (some going)
  where
    some : (n : ℕ) → nat_lt 0 (suc n) ≡ true
    some n = grind (arith, nat_tests)

pub returns-clause-lanes : goal.returns-clause-lanes
returns-clause-lanes c k =
    let ss = map slot_in c.args.waits.now in
    let all : take c.loop-wait.wait-index ss ≡ ss = waits_all c.args.waits.now c.loop-wait.wait-index c.loop-wait-test.false in
    let tid = c.args.tid in
    let lane = lane_at c.args.self.now k in
    decide (has_slot k (take c.loop-wait.wait-index ss))
    (λ done. (c.loop-wait.invariant.done.0 k done).places
    ∙ ap (stands.after_going tid (going_at c.count.new.self k)) (c.count.ensures.same k)
    ∙ gone tid (going_at c.count.new.self k) (length (slot_leaves k 0 ss)) lane (c.count.ensures.going k)
    (c.count.ensures.made k) (c.requires.all k))
    (λ left. ap stands.places_in (c.loop-wait.invariant.done.1 k left) ∙ c.count.ensures.same k
    ∙ sym (others_all tid lane (sym (c.requires.all k)
    ∙ ap length (no_leaves k 0 ss (sym (ap (has_slot k) all) ∙ left)))))

pub returns-clause-going : goal.returns-clause-going
returns-clause-going c k =
    let ss = map slot_in c.args.waits.now in
    let all : take c.loop-wait.wait-index ss ≡ ss = waits_all c.args.waits.now c.loop-wait.wait-index c.loop-wait-test.false in
    decide (has_slot k (take c.loop-wait.wait-index ss))
    (λ done. (c.loop-wait.invariant.done.0 k done).going)
    (λ left. ap stands.going_in (c.loop-wait.invariant.done.1 k left)
    ∙ none (going_at c.count.new.self k) (length (slot_leaves k 0 ss)) (c.count.ensures.going k)
    (ap length (no_leaves k 0 ss (sym (ap (has_slot k) all) ∙ left))))
  where
    none : (going leaves : ℕ) → (0 < going → going ≡ leaves) → leaves ≡ 0 → going ≡ 0
    none zero leaves a e = refl
    none (suc going) leaves a e = a (omega arith) ∙ e
