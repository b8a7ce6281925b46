-- Marks at places, one more.
use Rattle.std.proofs.Common.{◌≡◌, ℕ, zero, suc, ◌+◌, ◌<◌, ◌≤◌, Bool, true, false, not, cond, List, [], ◌∷◌, length, drop, take, get_or, set, Option, None, Some}
use Rattle.std.proofs.Common.{slice_get, Contains, ◌⊎◌, inl, inr, refl, ap, sym, subst, ◌∙◌, arith, drop-cons, length-set, true≢false}
use Rattle.std.specs.Prelude.{count_by, IfSome, IfNone}
use Rattle.std.specs.List.{All}
use Rattle.std.proofs.lemmas.List.Elements.{All-contains, All-cons, All-more, All-weaker}
use Rattle.std.proofs.lemmas.List.Sums.{sum_by-set}
use Rattle.std.proofs.lemmas.Option.{slice_get_within, get_or_from_slice_get, same_Some, IfSome_then}
use Rattle.cml_verify.specs.Systems.{System, run, IsReached, IsLawful, CanReach}
use Rattle.cml_verify.specs.Searches.{Keeps, LeadsOnBy, IsEdge, AreEdges}
use Rattle.cml_verify.specs.Marks.{IsMarked, IsBackClosed, ArePlacesOf, AllCanReach}
use Rattle.cml_verify.proofs.Runs.{at_some, begins, run-cons}
use Rattle.cml_verify.specs.Places.{all_at, there}

pub set_here : (marks : List Bool) (k : ℕ) → k < length marks → IsMarked (set marks k true) k
set_here [] k lt = absurd (omega (arith, lt))
set_here (b ∷ marks) zero lt = refl
set_here (b ∷ marks) (suc k) lt = set_here marks k (omega (arith, lt))

pub set_keeps : (marks : List Bool) (k j : ℕ) → IsMarked marks j → IsMarked (set marks k true) j
set_keeps [] k j h = h
set_keeps (b ∷ marks) zero zero h = refl
set_keeps (b ∷ marks) zero (suc j) h = h
set_keeps (b ∷ marks) (suc k) zero h = h
set_keeps (b ∷ marks) (suc k) (suc j) h = set_keeps marks k j h

pub set_only : (marks : List Bool) (k j : ℕ) → IsMarked (set marks k true) j → IsMarked marks j ⊎ (j ≡ k)
set_only [] k j h = inl h
set_only (b ∷ marks) zero zero h = inr refl
set_only (b ∷ marks) zero (suc j) h = inl h
set_only (b ∷ marks) (suc k) zero h = inl h
set_only (b ∷ marks) (suc k) (suc j) h = elim (set_only marks k j h) [ inl e ↦ inl e | inr e ↦ inr (ap suc e) ]

-- one fewer is not marked
pub one_fewer : (marks : List Bool) (k : ℕ) → k < length marks → get_or marks k true ≡ false → count_by not (set marks k true) + 1 ≡ count_by not marks
one_fewer marks k lt e =
    let step = sum_by-set (λ b. cond (not b) 1 0) marks k true true lt in
    let was : ◌≡◌ {A = ℕ} (cond (not (get_or marks k true)) 1 0) 1 = ap (λ b. cond (not b) 1 0) e in
    omega (arith, step, was)

none_then : {X P Q : Type 0} (o : Option X) → IfNone o P → (P → Q) → IfNone o Q
none_then None h f = f h
none_then (Some x) h f = tt

module _ {S I : Type 0} (y : System S I) (over : S → Bool) (states : List S) where
  -- one can be reached where an edge leads to a state from which one can
  pub can_before : (marks : List Bool) (e : ℕ × I × ℕ) → IsEdge y states e → IsMarked marks e.2 → AllCanReach y over states marks → AllCanReach y over states (set marks e.0 true)
  can_before marks e edge mark all k s h stands = by (set_only marks e.0 k h)
    where
      by : IsMarked marks k ⊎ (k ≡ e.0) → CanReach y over s
      by (inl m) = all k s m stands
      by (inr is) =
          let on = all e.2 edge.to mark edge.there in
          let same : edge.from ≡ s = same_Some edge.from s (sym edge.stands ∙ ap (slice_get states) (sym is) ∙ stands) in
          subst (CanReach y over) same (e.1 ∷ on.0, on.1, run-cons y edge.from e.1 on.0 edge.to edge.leads ∙ on.2, on.3)

  -- at such a state nothing need be done
  pub over_can : (marks : List Bool) (places : List ℕ) → ((k : ℕ) → IsMarked marks k → Contains places k) → ArePlacesOf over states places → AllCanReach y over states marks
  over_can marks places only are k s h stands =
      ([], s, refl, at_some (λ u. over u ≡ true) (slice_get states k) s stands (All-contains (λ j. IfSome (slice_get states j) (λ u. over u ≡ true)) places k are.each (only k h)))

  module _ (lawful : IsLawful y) (edges : List (ℕ × I × ℕ)) (marks : List Bool) (origins : List (ℕ × I)) (places : List ℕ)
      (keeps : Keeps y states origins) (graph : AreEdges y false (length states) states edges []) (closed : IsBackClosed edges marks)
      (are : ArePlacesOf over states places) (marked : All (IsMarked marks) places) where
    -- where an item leads
    pub record Goes (k : ℕ) (s : S) (i : I) (t : S) : Type 0 where
      pub to : ℕ
      pub at : slice_get states to ≡ Some t
      pub back : IsMarked marks to → IsMarked marks k

    goes : (k : ℕ) (s : S) (i : I) (t : S) → slice_get states k ≡ Some s → y.step s i ≡ Some t → Goes k s i t
    goes k s i t stands steps =
        let r : IsReached y s = all_at (IsReached y) states k s keeps.reached stands in
        let d = graph.done k s (slice_get_within states k s stands) stands in
        let mine : Contains d.0 i = elim d.1 [
          | inl e ↦ subst (λ l. Contains l i) (sym e) ((lawful.lists s r).only i t steps)
          | inr q ↦ absurd (true≢false (sym q.1))
        ] in
        let on : LeadsOnBy edges k i = All-contains (LeadsOnBy edges k) d.0 i d.2 mine in
        let edge : IsEdge y states (k, i, on.0) = All-contains (IsEdge y states) edges (k, i, on.0) graph.each on.1 in
        let from : edge.from ≡ s = same_Some edge.from s (sym edge.stands ∙ stands) in
        let to : edge.to ≡ t = same_Some edge.to t (sym edge.leads ∙ ap (λ u. y.step u i) from ∙ steps) in
        record {
          to = on.0;
          at = edge.there ∙ ap (λ u. Some u) to;
          back = All-contains (λ e. IsMarked marks e.2 → IsMarked marks e.0) edges (k, i, on.0) closed on.1;
        }

    -- from a state at a place that is not marked none can be reached
    pub none_from : (items : List I) (k : ℕ) (s t : S) → slice_get states k ≡ Some s → (IsMarked marks k → ⊥) → run y s items ≡ Some t → over t ≡ true → ⊥
    none_from [] k s t stands bare h stop =
        let same : s ≡ t = same_Some s t h in
        let has : Contains places k = at_some (λ u. over u ≡ true → Contains places k) (slice_get states k) s stands (are.all k) (ap over same ∙ stop) in
        bare (All-contains (IsMarked marks) places k marked has)
    none_from (i ∷ items) k s t stands bare h stop =
        let b = begins y s i items t h in
        let g = goes k s i b.next stands b.first in
        none_from items g.to b.next t g.at (λ m. bare (g.back m)) b.rest stop

    -- each state that is reached stands at a place
    reached_at : (items : List I) (k : ℕ) (s t : S) → slice_get states k ≡ Some s → run y s items ≡ Some t → (j : ℕ) × (slice_get states j ≡ Some t)
    reached_at [] k s t stands h = (k, stands ∙ h)
    reached_at (i ∷ items) k s t stands h =
        let b = begins y s i items t h in
        let g = goes k s i b.next stands b.first in
        reached_at items g.to b.next t g.at b.rest

    -- where each place is marked, one can be reached from each state
    pub each_can : AllCanReach y over states marks → length marks ≡ length states → ((k : ℕ) → k < length marks → IsMarked marks k) → (s : S) → IsReached y s → CanReach y over s
    each_can can len every s r =
        let a = reached_at r.0 0 y.start s keeps.trail.start r.1 in
        can a.0 s (every a.0 (omega (arith, len, slice_get_within states a.0 s a.1))) a.1

    -- none can be reached from the state at a place that is not marked
    pub cut_at : (k : ℕ) → slice_get marks k ≡ Some false → IfSome (slice_get states k) (λ s. CanReach y over s → ⊥)
    cut_at k bare = by (slice_get states k) refl
      where
        by : (o : Option S) → slice_get states k ≡ o → IfSome o (λ s. CanReach y over s → ⊥)
        by None h = tt
        by (Some s) h = λ can. none_from can.0 k s can.1 h (λ m. true≢false (same_Some true false (sym m ∙ bare))) can.2 can.3

-- what is said of the first place that is not marked
module _ {S I : Type 0} (y : System S I) (lawful : IsLawful y) (states : List S) (origins : List (ℕ × I)) (edges : List (ℕ × I × ℕ)) (marks : List Bool) (places : List ℕ)
    (keeps : Keeps y states origins) (graph : AreEdges y false (length states) states edges []) (closed : IsBackClosed edges marks) (marked : All (IsMarked marks) places) where
  pub some_cut : (n : ℕ) (o : Option ℕ) → length marks ≡ n → IfSome o (λ k. slice_get marks k ≡ Some false)
      → IfSome o (λ k. (k < n) × ((over : S → Bool) → ArePlacesOf over states places → IfSome (slice_get states k) (λ s. CanReach y over s → ⊥)))
  some_cut n o size h =
      IfSome_then o h
      (λ k bare.
      let lt : k < length marks = slice_get_within marks k false bare in
      (omega (arith, lt, size), λ over are. cut_at y over states lawful edges marks origins places keeps graph closed are marked k bare))

  pub first_cut : (o : Option ℕ) → ((over : S → Bool) → ArePlacesOf over states places → AllCanReach y over states marks) → IfSome o (λ k. (j : ℕ) → j < k → IsMarked marks j)
      → IfSome o (λ k. (over : S → Bool) → ArePlacesOf over states places → (j : ℕ) (s : S) → j < k → slice_get states j ≡ Some s → CanReach y over s)
  first_cut o can h = IfSome_then o h (λ k before over are j s lt at. can over are j s (before j lt) at)

  pub none_cut : (o : Option ℕ) → length marks ≡ length states → ((over : S → Bool) → ArePlacesOf over states places → AllCanReach y over states marks)
      → IfNone o ((k : ℕ) → k < length marks → IsMarked marks k) → IfNone o ((over : S → Bool) → ArePlacesOf over states places → (s : S) → IsReached y s → CanReach y over s)
  none_cut o size can h =
      none_then o h (λ every over are s r. each_can y over states lawful edges marks origins places keeps graph closed are marked (can over are) size every s r)

-- edges, one more
module _ {S I : Type 0} (y : System S I) (states : List S) (edges : List (ℕ × I × ℕ)) where
  -- what a walk back over the edges behind a place keeps
  pub record WalksBack (old : List Bool) (at count : ℕ) (marks : List Bool) : Type 0 where
    pub within : at ≤ length edges
    pub size : length marks ≡ length old
    pub keeps : (k : ℕ) → IsMarked old k → IsMarked marks k
    pub only : (over : S → Bool) → AllCanReach y over states old → AllCanReach y over states marks
    pub fewer : count_by not marks + count ≡ count_by not old
    pub closed : count ≡ 0 → IsBackClosed (drop at edges) marks

  module _ (each : All (IsEdge y states) edges) (old : List Bool) (at count : ℕ) (marks : List Bool) (e : ℕ × I × ℕ)
      (w : WalksBack old (at + 1) count marks) (here : slice_get edges at ≡ Some e) where
    edge : IsEdge y states e
    edge = all_at (IsEdge y states) edges at e each here

    next : drop at edges ≡ e ∷ drop (at + 1) edges
    next =
        let lt : at < length edges = slice_get_within edges at e here in
        let one : suc at ≡ at + 1 = omega arith in
        drop-cons edges at e lt ∙ ap (λ v. v ∷ drop (suc at) edges) (get_or_from_slice_get edges at e e here) ∙ ap (λ n. e ∷ drop n edges) one

    -- a place was marked
    pub walk_marks : (after : List Bool) → IsMarked marks e.2 → slice_get marks e.0 ≡ Some false → after ≡ set marks e.0 true → WalksBack old at (count + 1) after
    walk_marks after mark bare is = subst (WalksBack old at (count + 1)) (sym is) (record {
      within = omega (arith, w.within);
      size = length-set marks e.0 true ∙ w.size;
      keeps = λ k h. set_keeps marks e.0 k (w.keeps k h);
      only = λ over h. can_before y over states marks e edge mark (w.only over h);
      fewer =
          let lt : e.0 < length marks = slice_get_within marks e.0 false bare in
          let step = one_fewer marks e.0 lt (get_or_from_slice_get marks e.0 false true bare) in
          omega (arith, step, w.fewer);
      closed = λ z. absurd (omega (arith, z));
    })

    -- none was
    pub walk_passes : (after : List Bool) → after ≡ marks → (IsMarked marks e.2 → IsMarked marks e.0) → WalksBack old at count after
    walk_passes after is back = subst (WalksBack old at count) (sym is) (record {
      within = omega (arith, w.within);
      size = w.size;
      keeps = w.keeps;
      only = w.only;
      fewer = w.fewer;
      closed = λ z. subst (λ l. IsBackClosed l marks) (sym next)
          (All-cons (λ f. IsMarked marks f.2 → IsMarked marks f.0) e (drop (at + 1) edges) back (w.closed z));
    })

-- marks at places, one place more
pub record MarksAt (places : List ℕ) (count n : ℕ) (marks : List Bool) : Type 0 where
  pub size : length marks ≡ count
  pub each : All (IsMarked marks) (take n places)
  pub only : (k : ℕ) → IsMarked marks k → Contains places k

pub marks_more : (places : List ℕ) (count n : ℕ) (marks after : List Bool) (place : ℕ) → MarksAt places count n marks → place < count → slice_get places n ≡ Some place
    → after ≡ set marks place true → MarksAt places count (n + 1) after
marks_more places count n marks after place m lt here is = subst (MarksAt places count (n + 1)) (sym is) (record {
  size = length-set marks place true ∙ m.size;
  each =
      let in' : n < length places = slice_get_within places n place here in
      let mine : IsMarked (set marks place true) (get_or places n place) =
      subst (IsMarked (set marks place true)) (sym (get_or_from_slice_get places n place place here)) (set_here marks place (omega (arith, lt, m.size))) in
      All-more (IsMarked (set marks place true)) places n place in'
      (All-weaker (IsMarked marks) (IsMarked (set marks place true)) (λ k h. set_keeps marks place k h) (take n places) m.each) mine;
  only = λ k h. by k (set_only marks place k h);
})
  where
    by : (k : ℕ) → IsMarked marks k ⊎ (k ≡ place) → Contains places k
    by k (inl h) = m.only k h
    by k (inr h) = (n, slice_get_within places n place here, get_or_from_slice_get places n place k here ∙ sym h)

-- marks, one walk more
module _ {S I : Type 0} (y : System S I) (states : List S) (edges : List (ℕ × I × ℕ)) (places : List ℕ) (n : ℕ) where
  pub record MarksSoFar (more : ℕ) (marks : List Bool) : Type 0 where
    pub size : length marks ≡ n
    pub marked : All (IsMarked marks) places
    pub can : (over : S → Bool) → ArePlacesOf over states places → AllCanReach y over states marks
    pub closed : more ≡ 0 → IsBackClosed edges marks

  pub first_marks : (marks : List Bool) → length marks ≡ n → All (IsMarked marks) places → ((k : ℕ) → IsMarked marks k → Contains places k) → MarksSoFar 1 marks
  first_marks marks size each only = record {
    size = size;
    marked = each;
    can = λ over are. over_can y over states marks places only are;
    closed = λ z. absurd (omega (arith, z));
  }

  pub more_marks : (more left : ℕ) (marks after : List Bool) → MarksSoFar more marks → length after ≡ length marks → ((k : ℕ) → IsMarked marks k → IsMarked after k)
      → ((over : S → Bool) → AllCanReach y over states marks → AllCanReach y over states after) → (left ≡ 0 → IsBackClosed edges after) → MarksSoFar left after
  more_marks more left marks after m size keeps only closed = record {
    size = size ∙ m.size;
    marked = All-weaker (IsMarked marks) (IsMarked after) keeps places m.marked;
    can = λ over are. only over (m.can over are);
    closed = closed;
  }
