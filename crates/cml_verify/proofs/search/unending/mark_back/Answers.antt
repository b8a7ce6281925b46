use Rattle.std.proofs.Common.{◌≡◌, ℕ, ◌<◌, ◌+◌, ◌-◌, Bool, false, true, List, length, map, get_or, set, slice_get, Some, ap, sym, subst, ◌∙◌, arith}
use Rattle.std.proofs.lemmas.Option.{get_or_from_slice_get}
use Rattle.cml_verify.specs.Marks.{IsMarked}
use Rattle.cml_verify.proofs.Marking.{WalksBack, walk_marks, walk_passes}
use Rattle.cml_verify.specs.Places.{read_through}
use Rattle.cml_verify.proofs.search.unending.mark_back.Goals as goal

-- the edge at a place, however it was read
read_at : {I : Type 0} (row edges : List (ℕ × I × ℕ)) (at : ℕ) (e other : ℕ × I × ℕ) → row ≡ edges → slice_get edges at ≡ Some e → get_or row at other ≡ e
read_at row edges at e other same here = ap (λ l. get_or l at other) same ∙ get_or_from_slice_get edges at e other here

marks_by : {I : Type 0} (marks after : List Bool) (from to e : ℕ × I × ℕ) → from ≡ e → to ≡ e
    → IsMarked marks to.2 × (slice_get marks from.0 ≡ Some false) × (after ≡ set marks from.0 true)
    → IsMarked marks e.2 × (slice_get marks e.0 ≡ Some false) × (after ≡ set marks e.0 true)
marks_by {I = I} marks after from to e f t m = (
  subst (λ (x : ℕ × I × ℕ). IsMarked marks x.2) t m.0,
  subst (λ (x : ℕ × I × ℕ). slice_get marks x.0 ≡ Some false) f m.1,
  subst (λ (x : ℕ × I × ℕ). after ≡ set marks x.0 true) f m.2,
)

passes_by : {I : Type 0} (marks : List Bool) (from to e : ℕ × I × ℕ) → from ≡ e → to ≡ e → (IsMarked marks to.2 → IsMarked marks from.0) → IsMarked marks e.2 → IsMarked marks e.0
passes_by {I = I} marks from to e f t m h =
    subst (λ (x : ℕ × I × ℕ). IsMarked marks x.0) f (m (subst (λ (x : ℕ × I × ℕ). IsMarked marks x.2) (sym t) h))

pub loop-at-preserved-then-mark_edge : goal.loop-at-preserved-then-mark_edge
loop-at-preserved-then-mark_edge g c =
    let y = g.Y.System.rules c.args._system.now in
    let states = map (g.Y.System.state_of c.args._system.now) c.args.found.now.kept.keys in
    let edges = c.args.found.now.edges.items in
    let old = c.args.marks.now.items in
    let marks = c.loop-at.marks.items in
    let at = c.loop-at.at - 1 in
    let e = c.index-edges-at.result in
    let lt : at < length edges = omega (arith, c.loop-at.invariant.within, c.loop-at-test.true) in
    let here : slice_get edges at ≡ Some e = read_through c.edges.result.now edges at e c.edges.ensures lt c.index-edges-at.is in
    let one : c.loop-at.at ≡ at + 1 = omega (arith, c.loop-at-test.true) in
    let row = c.edges.result.now in
    let first = read_at row edges at e e c.edges.ensures here in
    let again = c.index-edges-at-in-loop-at.result in
    let m = marks_by marks c.mark_edge.new.marks.items (get_or row at e) (get_or row at again) e first (read_at row edges at e again c.edges.ensures here)
    (c.mark_edge.ensures.marked c.if-mark_edge.true) in
    walk_marks y states edges c.requires.edges old at c.loop-at.count marks e (subst (λ n. WalksBack y states edges old n c.loop-at.count marks) one c.loop-at.invariant) here
    c.mark_edge.new.marks.items m.0 m.1 m.2

pub loop-at-preserved : goal.loop-at-preserved
loop-at-preserved g c =
    let y = g.Y.System.rules c.args._system.now in
    let states = map (g.Y.System.state_of c.args._system.now) c.args.found.now.kept.keys in
    let edges = c.args.found.now.edges.items in
    let old = c.args.marks.now.items in
    let marks = c.loop-at.marks.items in
    let at = c.loop-at.at - 1 in
    let e = c.index-edges-at.result in
    let lt : at < length edges = omega (arith, c.loop-at.invariant.within, c.loop-at-test.true) in
    let here : slice_get edges at ≡ Some e = read_through c.edges.result.now edges at e c.edges.ensures lt c.index-edges-at.is in
    let one : c.loop-at.at ≡ at + 1 = omega (arith, c.loop-at-test.true) in
    let row = c.edges.result.now in
    let first = read_at row edges at e e c.edges.ensures here in
    let again = c.index-edges-at-in-loop-at.result in
    let m = c.mark_edge.ensures.same c.if-mark_edge.false in
    let back = passes_by marks (get_or row at e) (get_or row at again) e first (read_at row edges at e again c.edges.ensures here) m.1 in
    walk_passes y states edges c.requires.edges old at c.loop-at.count marks e (subst (λ n. WalksBack y states edges old n c.loop-at.count marks) one c.loop-at.invariant) here
    c.mark_edge.new.marks.items m.0 back
