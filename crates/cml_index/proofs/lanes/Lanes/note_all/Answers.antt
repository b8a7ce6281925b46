use Rattle.std.proofs.Common.{◌≡◌, ◌+◌, ◌++◌, ◌∷◌, [], ℕ, List, cond, length, map, drop, ap, sym, ◌∙◌, append_assoc, arith}
use Rattle.std.specs.Option.{option_copied}
use Rattle.cml_index.specs.declared.slot.Slot.{Slot}
use Rattle.cml_index.specs.Slots.{slot_in, slot_leaves, is_slot, late_at}
use Rattle.cml_index.proofs.Walks.{leaves_left, no_leaves, nil_left, decide}
use Rattle.cml_index.proofs.lanes.Lanes.note_all.Goals as goal

pub loop-leaf-preserved : goal.loop-leaf-preserved
loop-leaf-preserved c =
    let ss = map slot_in c.args.waits.now in
    let i = c.loop-leaf.leaf in
    let before = c.loop-leaf.self in
    let after = c.note_of.new.self in
    let rest : Slot → List ℕ = λ k. slot_leaves k (i + 1) (drop (i + 1) ss) in
    let left : (k : Slot) → slot_leaves k i (drop i ss)
    ≡ cond (is_slot k (option_copied c.slot_ref.result)) (i ∷ rest k) (rest k) = λ k. leaves_left k c.args.waits.now i (option_copied c.slot_ref.result)
    _ c.loop-leaf-test.true c.slot_ref.ensures in
    record {
      same = λ k. c.note_of.ensures.same k ∙ c.loop-leaf.invariant.same k;
      going = λ k. c.note_of.ensures.going k ∙ c.loop-leaf.invariant.going k;
      kept = λ k. let a = c.note_of.ensures.kept k in let b = c.loop-leaf.invariant.kept k in omega (arith, a, b);
      late = λ k. decide (is_slot k (option_copied c.slot_ref.result))
          (λ on. ap (λ xs. xs ++ rest k) (c.in_ok-note_of.ensures.here k on).0
          ∙ append_assoc (late_at before k) (i ∷ []) (rest k)
          ∙ ap (λ ys. late_at before k ++ ys) (sym (left k ∙ ap (λ b. cond b (i ∷ rest k) (rest k)) on))
          ∙ c.loop-leaf.invariant.late k)
          (λ off. ap (λ xs. xs ++ rest k) (c.note_of.ensures.elsewhere k off)
          ∙ ap (λ ys. late_at before k ++ ys) (sym (left k ∙ ap (λ b. cond b (i ∷ rest k) (rest k)) off))
          ∙ c.loop-leaf.invariant.late k);
      room = λ k. decide (is_slot k (option_copied c.slot_ref.result))
          (λ on. (c.in_ok-note_of.ensures.here k on).1)
          (λ off. let a = c.loop-leaf.invariant.room k in let b = c.note_of.ensures.kept k in
          let e : length (late_at after k) ≡ length (late_at before k) = ap length (c.note_of.ensures.elsewhere k off) in
          omega (arith, a, b, e));
    }

pub returns-in_err-note_of-clause-only : goal.returns-in_err-note_of-clause-only
returns-in_err-note_of-clause-only c k e =
    let ss = map slot_in c.args.waits.now in
    c.in_err-note_of.ensures.none k ∙ nil_left (late_at c.loop-leaf.self k) (slot_leaves k c.loop-leaf.leaf (drop c.loop-leaf.leaf ss)) (c.loop-leaf.invariant.late k ∙ no_leaves k 0 ss e)

pub returns-clause-only : goal.returns-clause-only
returns-clause-only c k e =
    let ss = map slot_in c.args.waits.now in
    nil_left (late_at c.loop-leaf.self k) (slot_leaves k c.loop-leaf.leaf (drop c.loop-leaf.leaf ss)) (c.loop-leaf.invariant.late k ∙ no_leaves k 0 ss e)
