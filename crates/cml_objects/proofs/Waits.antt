-- A set of waits after one comes or goes.
use Rattle.std.proofs.Common.{◌≡◌, Bool, true, false, cond, refl, inl, inr, sym, ◌∙◌, ap}
use Rattle.std.specs.Prelude.{IsTrue, ◌⊎◌, ◌↔◌, ◌≢◌, Contains}
use Rattle.std.specs.declared.cmp.Ordering.{Ordering}
use Rattle.std.specs.declared.cmp.Ordering.TheVariants.{Less, Equal, Greater}
use Rattle.std.proofs.lemmas.Bool.{false≢true}
use Rattle.std.specs.Cmp.{IsTotalOrder}
use Rattle.std.proofs.lemmas.Cmp.{nat_cmp_total, on_total, then_total, tied_itself}
use Rattle.std.specs.BTreeSet.{BTreeSet, Updates}
use Rattle.std.specs.BTreeSet as tree
use Rattle.std.specs.BTreeMap.{is_at}
use Rattle.std.proofs.lemmas.Map.Lookups.{CmpEqualImpliesEq, exact_pairs, exact_unsigned}
use Rattle.std.proofs.lemmas.Map.Views.{btree_set_contains_iff}
use Rattle.std.specs.Ordering.{nat_cmp, ordering_then, is_eq}
use Rattle.cml_objects.specs.Registered.{WaitingLeaf, AddsWait, RemovesWait}
use Rattle.cml_objects.proofs.LitLeaves.{wait_cmp, Leaf}

abbrev leaf_cmp : Leaf → Leaf → Ordering
leaf_cmp x y = ordering_then (nat_cmp x.0 y.0) (nat_cmp x.1 y.1)

leaf_cmp_total : IsTotalOrder leaf_cmp
leaf_cmp_total = then_total (on_total (λ (x : Leaf). x.0) nat_cmp_total) (on_total (λ (x : Leaf). x.1) nat_cmp_total)

wait_cmp_total : IsTotalOrder wait_cmp
wait_cmp_total = then_total (on_total (λ (w : WaitingLeaf). w.0) leaf_cmp_total) (on_total (λ (w : WaitingLeaf). w.1) nat_cmp_total)

wait_cmp_exact : CmpEqualImpliesEq wait_cmp
wait_cmp_exact = exact_pairs leaf_cmp nat_cmp (exact_pairs nat_cmp nat_cmp exact_unsigned exact_unsigned) exact_unsigned

equal_is : (o : Ordering) → is_eq o ≡ true → o ≡ Equal
equal_is Less e = cc
equal_is Equal e = refl
equal_is Greater e = cc

same_wait : (w other : WaitingLeaf) → is_at (wait_cmp w) other ≡ true → w ≡ other
same_wait w other e = wait_cmp_exact w other (equal_is (wait_cmp w other) e)

not_itself : (w other : WaitingLeaf) → is_at (wait_cmp w) other ≡ false → w ≡ other → ⊥
not_itself w other e h =
    let i : is_at (wait_cmp other) other ≡ true = ap is_eq (tied_itself wait_cmp_total other) in
    false≢true (sym (rw h at e) ∙ i)

abbrev Member : BTreeSet WaitingLeaf → WaitingLeaf → Type 0
Member s w = IsTrue (tree.contains wait_cmp s w)

member : (s : BTreeSet WaitingLeaf) (w : WaitingLeaf) → Member s w ↔ Contains s.keys w
member s w = btree_set_contains_iff wait_cmp_total wait_cmp_exact s w

adds_step : (w other : WaitingLeaf) (b new old : Bool) (N O : Type 0) → is_at (wait_cmp w) other ≡ b → new ≡ cond b true old → (IsTrue new ↔ N) → (IsTrue old ↔ O) → N ↔ ((other ≡ w) ⊎ O)
adds_step w other true new old N O e h n o = ((λ k. inl (sym (same_wait w other e))), (λ k. n.0 h))
adds_step w other false new old N O e h n o = (
  (λ k. inr (o.0 (sym h ∙ n.1 k))),
  (λ k. elim k [ inl i ↦ absurd (not_itself w other e (sym i)) | inr i ↦ n.0 (h ∙ o.1 i) ]),
)

pub adds_wait : (w : WaitingLeaf) (old new : BTreeSet WaitingLeaf) → Updates wait_cmp old new w true → AddsWait w old.keys new.keys
adds_wait w old new h other = adds_step w other (is_at (wait_cmp w) other) (tree.contains wait_cmp new other)
    (tree.contains wait_cmp old other) (Contains new.keys other) (Contains old.keys other) refl (h.0 other)
    (member new other) (member old other)

removes_step : (w other : WaitingLeaf) (b new old : Bool) (N O : Type 0) → is_at (wait_cmp w) other ≡ b → new ≡ cond b false old → (IsTrue new ↔ N) → (IsTrue old ↔ O) → N ↔ ((other ≢ w) × O)
removes_step w other true new old N O e h n o = ((λ k. absurd (false≢true (sym h ∙ n.1 k))), (λ k. absurd (k.0 (sym (same_wait w other e)))))
removes_step w other false new old N O e h n o = ((λ k. ((λ i. not_itself w other e (sym i)), o.0 (sym h ∙ n.1 k))), (λ k. n.0 (h ∙ o.1 k.1)))

pub removes_wait : (w : WaitingLeaf) (old new : BTreeSet WaitingLeaf) → Updates wait_cmp old new w false → RemovesWait w old.keys new.keys
unfolding RemovesWait
removes_wait w old new h = λ other. removes_step w other (is_at (wait_cmp w) other) (tree.contains wait_cmp new other)
    (tree.contains wait_cmp old other) (Contains new.keys other) (Contains old.keys other) refl (h.0 other)
    (member new other) (member old other)
