use Rattle.std.proofs.Common.{◌≡◌, ◌∷◌, ◌∙◌, ◌+◌, suc, length, map, drop, cond, Some, ap, sym, arith}
use Rattle.std.specs.Prelude.{slice_get}
use Rattle.std.specs.List.{filter}
use Rattle.cml_value.specs.Group.{bases}
use Rattle.cml_scan.specs.Order.{place}
use Rattle.cml_scan.specs.Scan.{offers_of, leaves_from}
use Rattle.cml_index.specs.Heads.{is_sought}
use Rattle.cml_index.proofs.OneLeaf.{place_of, step, first_one, later_one}
use Rattle.cml_index.proofs.heads.seek_in.Goals.{then-is_head+else-left-eq0, else-is_head}
use Rattle.cml_index.proofs.heads.seek_in.Goals as goal

pub loop-leaf-preserved : goal.loop-leaf-preserved
loop-leaf-preserved c =
    let f = is_sought c.args.kind c.args.core.now.flags.entries (offers_of c.args.core.now.entries.items) in
    let t = c.args.entry.now.thread in
    let i = c.loop-leaf.leaf in
    let bs = bases c.args.entry.now.group in
    let rest = filter f (leaves_from t (i + 1) (drop (i + 1) bs)) in
    let s = step f t i bs c.waits-wait-items.result.now _ c.is_head.result c.waits-wait-items.ensures.same c.loop-leaf-test.true
    (λ b is. c.is_head.ensures.value b is i ∙ ap (λ n. f (record { thread = n; leaf = i; base = b })) c.tid.ensures) in
    elim c.if-is_head.branch [
      | then-is_head+else-left-eq0 w ↦
          let places : map place (filter f (leaves_from t i (drop i bs))) ≡ place_of t i ∷ map place rest = s.places
          ∙ ap (λ v. cond v (place_of t i ∷ map place rest) (map place rest)) w.if-is_head.true in
          let count : length (filter f (leaves_from t i (drop i bs))) ≡ suc (length rest) = s.count ∙ ap (λ v. cond v (suc (length rest)) (length rest)) w.if-is_head.true in
          let one : c.loop-leaf.left ≡ suc c.if-is_head.left = omega (arith, w.left-is, w.if-left-eq0.false) in
          record {
            same = later_one (place_of t i) (map place rest) (map place (filter f (leaves_from t i (drop i bs)))) c.loop-leaf.left c.if-is_head.left places one ∙ c.loop-leaf.invariant.same;
            left = omega (arith, c.loop-leaf.invariant.left, count, one);
            cost = omega (arith, c.loop-leaf.invariant.cost, c.is_head.ensures.cost);
          }
      | else-is_head w ↦
          let places : map place (filter f (leaves_from t i (drop i bs))) ≡ map place rest = s.places ∙ ap (λ v. cond v (place_of t i ∷ map place rest) (map place rest)) w.if-is_head.false in
          let count : length (filter f (leaves_from t i (drop i bs))) ≡ length rest = s.count ∙ ap (λ v. cond v (suc (length rest)) (length rest)) w.if-is_head.false in
          record {
            same = ap (λ n. slice_get (map place rest) n) w.left-is ∙ ap (λ xs. slice_get xs c.loop-leaf.left) (sym places) ∙ c.loop-leaf.invariant.same;
            left = omega (arith, c.loop-leaf.invariant.left, count, w.left-is);
            cost = omega (arith, c.loop-leaf.invariant.cost, c.is_head.ensures.cost);
          }
    ]

pub returns-then-left-eq0-clause-value : goal.returns-then-left-eq0-clause-value
returns-then-left-eq0-clause-value c =
    let f = is_sought c.args.kind c.args.core.now.flags.entries (offers_of c.args.core.now.entries.items) in
    let t = c.args.entry.now.thread in
    let i = c.loop-leaf.leaf in
    let bs = bases c.args.entry.now.group in
    let rest = filter f (leaves_from t (i + 1) (drop (i + 1) bs)) in
    let s = step f t i bs c.waits-wait-items.result.now _ c.is_head.result c.waits-wait-items.ensures.same c.loop-leaf-test.true
    (λ b is. c.is_head.ensures.value b is i ∙ ap (λ n. f (record { thread = n; leaf = i; base = b })) c.tid.ensures) in
    let places : map place (filter f (leaves_from t i (drop i bs))) ≡ place_of t i ∷ map place rest = s.places ∙ ap (λ v. cond v (place_of t i ∷ map place rest) (map place rest)) c.if-is_head.true in
    sym c.loop-leaf.invariant.same ∙ first_one (place_of t i) (map place rest)
    (map place (filter f (leaves_from t i (drop i bs)))) c.loop-leaf.left places c.if-left-eq0.true
    ∙ ap Some (sym c.place.ensures)
