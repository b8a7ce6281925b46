-- Edges, one more.
use Rattle.std.proofs.Common.{◌≡◌, ℕ, ◌+◌, ◌<◌, ◌≤◌, Bool, List, [], ◌∷◌, ◌++◌, length, Option, None, Some, slice_get, Contains, ◌⊎◌, inl, inr, map, refl, ap, sym, subst, ◌∙◌, arith, true≢false}
use Rattle.std.specs.Prelude.{IsSome, option_map}
use Rattle.std.specs.List.{All}
use Rattle.std.proofs.lemmas.List.Elements.{All-nil, All-push, All-weaker, Contains-append_left, Contains-push}
use Rattle.std.proofs.lemmas.Option.{slice_get_within, slice_get-map, same_Some}
use Rattle.cml_verify.specs.Systems.{System}
use Rattle.cml_verify.specs.Searches.{IsLonger, AreEnough, LeadsOnBy, IsEdge, AreEdges}
use Rattle.cml_verify.specs.Places.{either_way}
use Rattle.cml_verify.proofs.Rounds.{same_place}

module _ {S I : Type 0} (y : System S I) where
  edge_longer : (old new : List S) (e : ℕ × I × ℕ) → IsLonger old new → IsEdge y old e → IsEdge y new e
  edge_longer old new e l h = record {
    from = h.from;
    to = h.to;
    stands = same_place old new e.0 l (slice_get_within old e.0 h.from h.stands) ∙ h.stands;
    there = same_place old new e.2 l (slice_get_within old e.2 h.to h.there) ∙ h.there;
    leads = h.leads;
  }

  goes_longer : (edges : List (ℕ × I × ℕ)) (e : ℕ × I × ℕ) (k : ℕ) (i : I) → LeadsOnBy edges k i → LeadsOnBy (edges ++ e ∷ []) k i
  goes_longer edges e k i h = (h.0, Contains-append_left edges (e ∷ []) (k, i, h.0) h.1)

  module _ (quietly : Bool) (at : ℕ) (old new : List S) (edges after : List (ℕ × I × ℕ)) (begun : List I) (i : I) (to : ℕ) (s t : S)
      (stands : slice_get old at ≡ Some s) (longer : IsLonger old new) (there_ : slice_get new to ≡ Some t) (steps : y.step s i ≡ Some t) where
    -- one edge more
    edges_on : AreEdges y quietly at old edges begun → AreEdges y quietly at new (edges ++ (at, i, to) ∷ []) (begun ++ i ∷ [])
    edges_on h = record {
      each = All-push (IsEdge y new) edges (at, i, to) (All-weaker (IsEdge y old) (IsEdge y new) (λ e g. edge_longer old new e longer g) edges h.each) here_edge;
      done = λ j u lt g. done_on j u lt g;
      here = All-push (LeadsOnBy (edges ++ (at, i, to) ∷ []) at) begun i
          (All-weaker (LeadsOnBy edges at) (LeadsOnBy (edges ++ (at, i, to) ∷ []) at) (λ a g. goes_longer edges (at, i, to) at a g) begun h.here) (to, Contains-push edges (at, i, to));
    }
      where
        inside : at < length old
        inside = slice_get_within old at s stands

        here_edge : IsEdge y new (at, i, to)
        here_edge = record { from = s; to = t; stands = same_place old new at longer inside ∙ stands; there = there_; leads = steps }

        done_on : (j : ℕ) (u : S) → j < at → slice_get new j ≡ Some u → (items : List I) × AreEnough y quietly u items × All (LeadsOnBy (edges ++ (at, i, to) ∷ []) j) items
        done_on j u lt g =
            let in' : j < length old = omega (arith, lt, inside) in
            let was = h.done j u lt (sym (same_place old new j longer in') ∙ g) in
            (was.0, was.1, All-weaker (LeadsOnBy edges j) (LeadsOnBy (edges ++ (at, i, to) ∷ []) j) (λ a k. goes_longer edges (at, i, to) j a k) was.0 was.2)

    pub edges_new : after ≡ edges ++ (at, i, to) ∷ [] → AreEdges y quietly at old edges begun → AreEdges y quietly at new after (begun ++ i ∷ [])
    edges_new e h = subst (λ l. AreEdges y quietly at new l (begun ++ i ∷ [])) (sym e) (edges_on h)

  pub edges_step : (quietly : Bool) (at : ℕ) (old new : List S) (edges after : List (ℕ × I × ℕ)) (begun : List I) (i : I) (to : ℕ) (s : S) → slice_get old at ≡ Some s → IsLonger old new
      → IsSome (y.step s i) → y.step s i ≡ slice_get new to → after ≡ edges ++ (at, i, to) ∷ [] → AreEdges y quietly at old edges begun → AreEdges y quietly at new after (begun ++ i ∷ [])
  edges_step quietly at old new edges after begun i to s stands longer can is e h = by (y.step s i) refl can
    where
      by : (o : Option S) → y.step s i ≡ o → IsSome o → AreEdges y quietly at new after (begun ++ i ∷ [])
      by None steps c = absurd (true≢false (sym c))
      by (Some t) steps c = edges_new quietly at old new edges after begun i to s t stands longer (sym is ∙ steps) steps e h

  module _ (quietly : Bool) (at : ℕ) (states : List S) (edges : List (ℕ × I × ℕ)) where
    -- fewer of the items are said to be followed
    pub edges_none : (begun : List I) → AreEdges y quietly at states edges begun → AreEdges y quietly at states edges []
    edges_none begun h = record { each = h.each; done = h.done; here = All-nil (LeadsOnBy edges at) }

    -- one state more was followed
    pub edges_more : (s : S) (items : List I) → slice_get states at ≡ Some s → AreEnough y quietly s items → AreEdges y quietly at states edges items
        → AreEdges y quietly (at + 1) states edges []
    edges_more s items stands enough h = record { each = h.each; done = λ j u lt g. by j u lt g (either_way at j); here = All-nil (LeadsOnBy edges (at + 1)) }
      where
        by : (j : ℕ) (u : S) → j < at + 1 → slice_get states j ≡ Some u → (at ≤ j) ⊎ (j < at) → (items : List I) × AreEnough y quietly u items × All (LeadsOnBy edges j) items
        by j u lt g (inl e) =
            let is : at ≡ j = omega (arith, e, lt) in
            let same : s ≡ u = same_Some s u (sym stands ∙ ap (slice_get states) is ∙ g) in
            (items, subst (λ x. AreEnough y quietly x items) same enough, subst (λ k. All (LeadsOnBy edges k) items) is h.here)
        by j u lt g (inr e) = h.done j u e g

  -- no edge yet
  pub edges_begin : (quietly : Bool) (states : List S) (edges : List (ℕ × I × ℕ)) → edges ≡ [] → AreEdges y quietly 0 states edges []
  edges_begin quietly states edges e =
      subst (λ l. AreEdges y quietly 0 states l []) (sym e) (record { each = All-nil (IsEdge y states); done = λ j s lt g. absurd (omega (arith, lt)); here = All-nil (LeadsOnBy [] 0) })

-- the item leads to the state of what stands at this place
pub step_to : {K S I : Type 0} (f : K → S) {next there_ : K} → next ≡ there_ → (y : System S I) (s : S) (i : I) (keys : List K) (to : ℕ) → slice_get keys to ≡ Some there_
    → y.step s i ≡ Some (f next) → IsSome (y.step s i) × (y.step s i ≡ slice_get (map f keys) to)
step_to f {next} {there_} e y s i keys to at steps =
    let here : slice_get (map f keys) to ≡ Some (f next) = slice_get-map f keys to ∙ ap (option_map f) (at ∙ ap (λ k. Some k) (sym e)) in
    (subst IsSome (sym steps) refl, steps ∙ sym here)
