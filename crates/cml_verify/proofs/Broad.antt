-- A search that goes breadth first comes to each state by the fewest items.
use Rattle.std.proofs.Common.{◌≡◌, ℕ, zero, suc, ◌+◌, ◌<◌, ◌≤◌, Bool, true, List, [], ◌∷◌, ◌++◌, length, Option, None, Some, slice_get, Contains}
use Rattle.std.proofs.Common.{◌⊎◌, inl, inr, refl, ap, sym, subst, ◌∙◌, arith, length-append}
use Rattle.std.specs.Prelude.{IfSome, nat_lt, if◌then◌else◌}
use Rattle.std.specs.List.{All}
use Rattle.std.proofs.lemmas.Bool.Decides.{nat_tests}
use Rattle.std.proofs.lemmas.List.Elements.{All-nil, All-cons, All-push, All-weaker, All-contains}
use Rattle.std.proofs.lemmas.Option.{slice_get_within, get_or_from_slice_get, same_Some, IfSome_then}
use Rattle.cml_verify.specs.Systems.{System, run, IsReached, IsTerminal, IsLawful}
use Rattle.cml_verify.specs.Searches.{Depths, IsTrail, Keeps, AreEnough, LeadsNear, IsFollowedNear, IsBroad, IsSearch, IsSought, IsFoundBefore, AreFewest}
use Rattle.cml_verify.proofs.Runs.{at_some, begins}
use Rattle.cml_verify.specs.Places.{get_front, get_end, get_push_cases, all_at, place_in, either_way}
use Rattle.cml_verify.proofs.Quiet.{comes_first}

for_each : {X : Type 0} {P : X → Type 0} (o : Option X) → ((x : X) → P x) → IfSome o P
for_each None f = tt
for_each (Some x) f = f x

-- how many items lead to each place, where a state was added at the place n
abbrev pub grown : (ℕ → ℕ) → ℕ → ℕ → ℕ → ℕ
grown depth n d k = if nat_lt k n then depth k else d

pub grown_old : (depth : ℕ → ℕ) (n d k : ℕ) → k < n → grown depth n d k ≡ depth k
grown_old depth n d k h = grind (arith, nat_tests)

pub grown_new : (depth : ℕ → ℕ) (n d k : ℕ) → k ≡ n → grown depth n d k ≡ d
grown_new depth n d k h = grind (arith, nat_tests)

module _ {S I : Type 0} (y : System S I) where
  -- what is near stays near, where states are added behind and the old ones keep their depths
  near_longer : (old more : List S) (d e : ℕ → ℕ) (m n : ℕ) (s : S) (i : I) → ((k : ℕ) → k < length old → e k ≡ d k) → m ≡ n → LeadsNear y old d m s i → LeadsNear y (old ++ more) e n s i
  near_longer old more d e m n s i same at h =
      IfSome_then (y.step s i) h
      (λ t c.
      let in' : c.0 < length old = slice_get_within old c.0 t c.1 in
      let most : d c.0 ≤ m = c.2 in
      (c.0, get_front old more c.0 in' ∙ c.1, omega (arith, same c.0 in', most, at)))

  followed_longer : (quietly : Bool) (old more : List S) (d e : ℕ → ℕ) (m n : ℕ) (s : S) → ((k : ℕ) → k < length old → e k ≡ d k) → m ≡ n
      → IsFollowedNear y quietly old d m s → IsFollowedNear y quietly (old ++ more) e n s
  followed_longer quietly old more d e m n s same at (inl all) =
      inl (All-weaker (LeadsNear y old d m s) (LeadsNear y (old ++ more) e n s) (λ i h. near_longer old more d e m n s i same at h) (y.allowed s) all)
  followed_longer quietly old more d e m n s same at (inr q) = inr (q.0, q.1, q.2, near_longer old more d e m n s q.0 same at q.3)

  module _ (quietly : Bool) (at : ℕ) (states : List S) (origins : List (ℕ × I)) (begun : List I) (i : I) (s next : S)
      (stands : slice_get states at ≡ Some s) (steps : y.step s i ≡ Some next) (b : IsBroad y quietly at states origins begun) where
    inside : at < length states
    inside = slice_get_within states at s stands

    -- the state was new
    module _ (trail : IsTrail y states origins) where
      abbrev size : ℕ
      size = length states

      abbrev deep : ℕ → ℕ
      deep = grown b.depth size (b.depth at + 1)

      deep_old : (k : ℕ) → k < size → deep k ≡ b.depth k
      deep_old k h = grown_old b.depth size (b.depth at + 1) k h

      deep_new : (k : ℕ) → k ≡ size → deep k ≡ b.depth at + 1
      deep_new k h = grown_new b.depth size (b.depth at + 1) k h

      deep_at : deep at ≡ b.depth at
      deep_at = deep_old at inside

      deep_most : (k : ℕ) → k < size + 1 → deep k ≤ b.depth at + 1
      deep_most k h =
          elim (either_way size k) [
            | inl e ↦ let is = deep_new k (omega (arith, e)) in omega (arith, is)
            | inr e ↦ let is = deep_old k e in omega (arith, is, b.near inside k e)
          ]

      counts_on : Depths (origins ++ (at, i) ∷ []) deep
      counts_on = record { start = deep_old 0 (omega (arith, inside)) ∙ b.counts.start; more = λ k o h. by k o (get_push_cases origins (at, i) k o h) }
        where
          by : (k : ℕ) (o : ℕ × I) → (slice_get origins k ≡ Some o) ⊎ ((k ≡ length origins) × ((at, i) ≡ o)) → deep (k + 1) ≡ deep o.0 + 1
          by k o (inl h) =
              let k_in : k < length origins = slice_get_within origins k o h in
              let is = deep_old (k + 1) (omega (arith, trail.lengths, k_in)) in
              let was = deep_old o.0 (omega (arith, trail.lengths, k_in, trail.before k o h)) in
              omega (arith, is, was, b.counts.more k o h)
          by k o (inr h) =
              let from : at ≡ o.0 = ap (λ p. p.0) h.1 in
              let is = deep_new (k + 1) (omega (arith, trail.lengths, h.0)) in
              let was : deep o.0 ≡ b.depth at = ap deep (sym from) ∙ deep_at in
              omega (arith, is, was)

      order_on : (j k : ℕ) → j ≤ k → k < length (states ++ next ∷ []) → deep j ≤ deep k
      order_on j k le h =
          let most : k < size + 1 = omega (arith, h, length-append states (next ∷ [])) in
          elim (either_way size k) [
            | inl e ↦ let is = deep_new k (omega (arith, e, most)) in omega (arith, is, deep_most j (omega (arith, le, most)))
            | inr e ↦
                let is = deep_old k e in
                let was = deep_old j (omega (arith, le, e)) in
                omega (arith, is, was, b.order j k le e)
          ]

      near_on : (k : ℕ) → k < length (states ++ next ∷ []) → deep k ≤ deep at + 1
      near_on k h = omega (arith, deep_most k (omega (arith, h, length-append states (next ∷ []))), deep_at)

      done_on : (j : ℕ) (u : S) → j < at → slice_get (states ++ next ∷ []) j ≡ Some u → IsFollowedNear y quietly (states ++ next ∷ []) deep (deep j + 1) u
      done_on j u lt h =
          let in' : j < length states = omega (arith, lt, inside) in
          let was = b.done j u lt (sym (get_front states (next ∷ []) j in') ∙ h) in
          followed_longer quietly states (next ∷ []) b.depth deep (b.depth j + 1) (deep j + 1) u deep_old (omega (arith, deep_old j in')) was

      here_on : IfSome (slice_get (states ++ next ∷ []) at) (λ u. All (LeadsNear y (states ++ next ∷ []) deep (deep at + 1) u) (begun ++ i ∷ []))
      here_on =
          let new = states ++ next ∷ [] in
          let Begun : Option S → Type 0 = λ o. IfSome o (λ u. All (LeadsNear y states b.depth (b.depth at + 1) u) begun) in
          let before : All (LeadsNear y states b.depth (b.depth at + 1) s) begun = subst Begun stands b.here in
          let old : All (LeadsNear y new deep (deep at + 1) s) begun =
          All-weaker (LeadsNear y states b.depth (b.depth at + 1) s) (LeadsNear y new deep (deep at + 1) s)
          (λ a h. near_longer states (next ∷ []) b.depth deep (b.depth at + 1) (deep at + 1) s a deep_old (omega (arith, deep_at)) h) begun before in
          let Leads : Option S → Type 0 = λ o. IfSome o (λ t. (k : ℕ) × (slice_get new k ≡ Some t) × (deep k ≤ deep at + 1)) in
          let it : LeadsNear y new deep (deep at + 1) s i = subst Leads (sym steps) (size, get_end states next size refl, omega (arith, deep_new size refl, deep_at)) in
          let Here : Option S → Type 0 = λ o. IfSome o (λ u. All (LeadsNear y new deep (deep at + 1) u) (begun ++ i ∷ [])) in
          subst Here (sym (get_front states (next ∷ []) at inside ∙ stands)) (All-push (LeadsNear y new deep (deep at + 1) s) begun i old it)

      broad_on : IsBroad y quietly at (states ++ next ∷ []) (origins ++ (at, i) ∷ []) (begun ++ i ∷ [])
      broad_on = record {
        depth = deep;
        counts = counts_on;
        within = omega (arith, inside, length-append states (next ∷ []));
        order = order_on;
        near = λ _. near_on;
        done = done_on;
        here = here_on;
      }

      pub broad_new : (after : List S) (from : List (ℕ × I)) → after ≡ states ++ next ∷ [] → from ≡ origins ++ (at, i) ∷ [] → IsBroad y quietly at after from (begun ++ i ∷ [])
      broad_new after from e f =
          subst (λ l. IsBroad y quietly at l from (begun ++ i ∷ [])) (sym e) (subst (λ l. IsBroad y quietly at (states ++ next ∷ []) l (begun ++ i ∷ [])) (sym f) broad_on)

    -- the state was there
    pub broad_old : (after : List S) → after ≡ states → Contains after next → IsBroad y quietly at after origins (begun ++ i ∷ [])
    broad_old after e has = subst (λ l. IsBroad y quietly at l origins (begun ++ i ∷ [])) (sym e) (by (subst (λ l. Contains l next) e has))
      where
        by : Contains states next → IsBroad y quietly at states origins (begun ++ i ∷ [])
        by c =
            let Begun : Option S → Type 0 = λ o. IfSome o (λ u. All (LeadsNear y states b.depth (b.depth at + 1) u) begun) in
            let before : All (LeadsNear y states b.depth (b.depth at + 1) s) begun = subst Begun stands b.here in
            let Leads : Option S → Type 0 = λ o. IfSome o (λ t. (k : ℕ) × (slice_get states k ≡ Some t) × (b.depth k ≤ b.depth at + 1)) in
            let it : LeadsNear y states b.depth (b.depth at + 1) s i = subst Leads (sym steps) (c.0, place_in states next c, b.near inside c.0 c.1) in
            let Here : Option S → Type 0 = λ o. IfSome o (λ u. All (LeadsNear y states b.depth (b.depth at + 1) u) (begun ++ i ∷ [])) in
            record {
              depth = b.depth;
              counts = b.counts;
              within = b.within;
              order = b.order;
              near = b.near;
              done = b.done;
              here = subst Here (sym stands) (All-push (LeadsNear y states b.depth (b.depth at + 1) s) begun i before it);
            }

  module _ (quietly : Bool) (at : ℕ) (states : List S) (origins : List (ℕ × I)) where
    -- fewer of the items are said to be followed
    pub broad_none : (begun : List I) → IsBroad y quietly at states origins begun → IsBroad y quietly at states origins []
    broad_none begun b =
        record {
          depth = b.depth;
          counts = b.counts;
          within = b.within;
          order = b.order;
          near = b.near;
          done = b.done;
          here = for_each (slice_get states at) (λ u. All-nil (LeadsNear y states b.depth (b.depth at + 1) u));
        }

    -- one state more was followed
    pub broad_more : (s : S) (items : List I) → slice_get states at ≡ Some s → AreEnough y quietly s items → IsBroad y quietly at states origins items
        → IsBroad y quietly (at + 1) states origins []
    broad_more s items stands enough b =
        let in' : at < length states = slice_get_within states at s stands in
        let Begun : Option S → Type 0 = λ o. IfSome o (λ u. All (LeadsNear y states b.depth (b.depth at + 1) u) items) in
        let all : All (LeadsNear y states b.depth (b.depth at + 1) s) items = subst Begun stands b.here in
        record {
          depth = b.depth;
          counts = b.counts;
          within = omega (arith, in');
          order = b.order;
          near = λ lt k h. omega (arith, b.near in' k h, b.order at (at + 1) (omega arith) lt);
          done = λ j u lt h. by all j u lt h (either_way at j);
          here = for_each (slice_get states (at + 1)) (λ u. All-nil (LeadsNear y states b.depth (b.depth (at + 1) + 1) u));
        }
      where
        enough_near : All (LeadsNear y states b.depth (b.depth at + 1) s) items → IsFollowedNear y quietly states b.depth (b.depth at + 1) s
        enough_near all = elim enough [
          | inl e ↦ inl (subst (All (LeadsNear y states b.depth (b.depth at + 1) s)) e all)
          | inr q ↦
              let one : All (LeadsNear y states b.depth (b.depth at + 1) s) (q.0 ∷ []) = subst (All (LeadsNear y states b.depth (b.depth at + 1) s)) q.3 all in
              inr (q.0, q.1, q.2, one 0 q.0 (omega arith))
        ]

        by : All (LeadsNear y states b.depth (b.depth at + 1) s) items → (j : ℕ) (u : S) → j < at + 1 → slice_get states j ≡ Some u
            → (at ≤ j) ⊎ (j < at) → IsFollowedNear y quietly states b.depth (b.depth j + 1) u
        by all j u lt h (inl e) =
            let is : at ≡ j = omega (arith, e, lt) in
            let same : s ≡ u = same_Some s u (sym stands ∙ ap (slice_get states) is ∙ h) in
            subst (λ k. IsFollowedNear y quietly states b.depth (b.depth k + 1) u) is
            (subst (IsFollowedNear y quietly states b.depth (b.depth at + 1)) same (enough_near all))
        by all j u lt h (inr e) = b.done j u e h

  module _ (lawful : IsLawful y) (quietly : Bool) (followed : ℕ) (states : List S) (origins : List (ℕ × I)) (keeps : Keeps y states origins) (b : IsBroad y quietly followed states origins []) where
    -- the state, at a place to which so many items lead at most
    abbrev pub IsNear : S → ℕ → Type 0
    IsNear s most = (k : ℕ) × (slice_get states k ≡ Some s) × (b.depth k ≤ most)

    -- From a place to which few enough items lead, a schedule of n items ends at a place to which no more lead than to it, and n.
    abbrev EndsNear : ℕ → ℕ → Type 0
    EndsNear limit n = (items : List I) (j : ℕ) (s end : S) → length items ≡ n → b.depth j + n ≤ limit → slice_get states j ≡ Some s
        → run y s items ≡ Some end → (quietly ≡ true → IsTerminal y end) → IsNear end (b.depth j + n)

    module _ (limit : ℕ) (covers : (j : ℕ) → j < length states → b.depth j < limit → j < followed) where
      one_on : (n : ℕ) → EndsNear limit n → (j : ℕ) (items : List I) (s t end : S) (i : I) → length items ≡ n → b.depth j + suc n ≤ limit → IsReached y s → y.step s i ≡ Some t
          → run y t items ≡ Some end → (quietly ≡ true → IsTerminal y end) → LeadsNear y states b.depth (b.depth j + 1) s i → IsNear end (b.depth j + suc n)
      one_on n rest j items s t end i len lim r steps goes stop leads =
          let c = at_some (λ u. IsNear u (b.depth j + 1)) (y.step s i) t steps leads in
          let most : b.depth c.0 ≤ b.depth j + 1 = c.2 in
          let f = rest items c.0 t end len (omega (arith, lim, most)) c.1 goes stop in
          (f.0, f.1, omega (arith, f.2, most))

      ends_near : (n : ℕ) → EndsNear limit n
      ends_near zero [] j s end len lim stands h stop = (j, stands ∙ h, omega arith)
      ends_near zero (i ∷ items) j s end len lim stands h stop = absurd (omega (arith, len))
      ends_near (suc n) [] j s end len lim stands h stop = absurd (omega (arith, len))
      ends_near (suc n) (i ∷ items) j s end len lim stands h stop =
          let in' : j < length states = slice_get_within states j s stands in
          let r : IsReached y s = all_at (IsReached y) states j s keeps.reached stands in
          by (ends_near n) r (b.done j s (covers j in' (omega (arith, lim))) stands)
        where
          by : EndsNear limit n → IsReached y s → IsFollowedNear y quietly states b.depth (b.depth j + 1) s → IsNear end (b.depth j + suc n)
          by rest r (inl all) =
              let f = begins y s i items end h in
              one_on n rest j items s f.next end i (omega (arith, len)) lim r f.first f.rest stop
              (All-contains (LeadsNear y states b.depth (b.depth j + 1) s) (y.allowed s) i all ((lawful.lists s r).only i f.next f.first))
          by rest r (inr q) =
              let f = comes_first y lawful (i ∷ items) s q.0 end r q.2 (stop q.1) h in
              one_on n rest j f.rest s f.next end q.0 (omega (arith, f.shorter, len)) lim r f.turn f.goes_on stop q.3

    -- the limit within which all was found
    covered : (n p : ℕ) → p < length states → n < b.depth p → (j : ℕ) → j < length states → b.depth j < n → j < followed
    covered n p p_in few j in' lt = elim (either_way followed j) [
      | inl e ↦
          let to_p = b.near (omega (arith, e, in')) p p_in in
          let before = b.order followed j e in' in
          absurd (omega (arith, to_p, before, few, lt))
      | inr e ↦ e
    ]

    -- what fewer items lead to than to a place stands before it
    pub stands_before : (p : ℕ) → p < length states → (others : List I) (s : S) → IsSought y quietly others s → length others < b.depth p → IsFoundBefore states p s
    stands_before p p_in others s sought fewer =
        let start : b.depth 0 ≡ 0 = b.counts.start in
        let f = ends_near (length others) (covered (length others) p p_in fewer) (length others) others 0 y.start s refl (omega (arith, start)) keeps.trail.start sought.0 sought.1 in
        let inside : f.0 < length states = slice_get_within states f.0 s f.1 in
        elim (either_way p f.0) [
          | inl e ↦ let most = f.2 in let after = b.order p f.0 e inside in absurd (omega (arith, most, start, after, fewer))
          | inr e ↦ (f.0, e, f.1)
        ]

module _ {S I : Type 0} (y : System S I) (lawful : IsLawful y) (quietly : Bool) (followed : ℕ) (states : List S) (origins : List (ℕ × I)) (found : IsSearch y quietly followed states origins) where
  -- items that are as many as lead to a place are the fewest
  pub fewest_at : (place : ℕ) (items : List I) → place < length states → ((d : ℕ → ℕ) → Depths origins d → length items ≡ d place) → AreFewest y quietly states place items
  fewest_at place items in' counts others s sought fewer =
      let b = found.broad in
      let deep : length items ≡ b.depth place = counts b.depth b.counts in
      stands_before y lawful quietly followed states origins found.keeps b place in' others s sought (omega (arith, deep, fewer))

  -- what so few items lead to as to the first state that was not followed was found
  pub found_within : followed < length states → (count at : ℕ) → at ≡ 0 → ((d : ℕ → ℕ) → Depths origins d → count + d at ≡ d followed)
      → (items : List I) (s : S) → IsSought y quietly items s → length items ≤ count → Contains states s
  found_within stopped count at zero_is counts items s sought few =
      let b = found.broad in
      let whole : count + b.depth at ≡ b.depth followed = counts b.depth b.counts in
      let start : b.depth at ≡ 0 = ap b.depth zero_is ∙ b.counts.start in
      let covers : (j : ℕ) → j < length states → b.depth j < b.depth followed → j < followed =
      λ j in' lt. below_followed j in' lt (either_way followed j) in
      let f = ends_near y lawful quietly followed states origins found.keeps b (b.depth followed) covers (length items) items 0 y.start s refl (omega (arith, b.counts.start, few, whole, start))
      found.keeps.trail.start sought.0 sought.1 in
      (f.0, slice_get_within states f.0 s f.1, get_or_from_slice_get states f.0 s s f.1)
    where
      below_followed : (j : ℕ) → j < length states → found.broad.depth j < found.broad.depth followed
          → (followed ≤ j) ⊎ (j < followed) → j < followed
      below_followed j in' lt (inl e) = absurd (omega (arith, found.broad.order followed j e in', lt))
      below_followed j in' lt (inr e) = e

  -- what fewer items lead to than to the first state that was not followed was followed
  pub followed_within : followed < length states → (count at : ℕ) → at ≡ 0 → ((d : ℕ → ℕ) → Depths origins d → count + d at ≡ d followed)
      → (items : List I) (s : S) → IsSought y quietly items s → length items < count → IsFoundBefore states followed s
  followed_within stopped count at zero_is counts items s sought few =
      let b = found.broad in
      let whole : count + b.depth at ≡ b.depth followed = counts b.depth b.counts in
      let start : b.depth at ≡ 0 = ap b.depth zero_is ∙ b.counts.start in
      stands_before y lawful quietly followed states origins found.keeps b followed stopped items s sought (omega (arith, few, whole, start))

-- where a search begins
pub begins_broad : {S I : Type 0} (y : System S I) (quietly : Bool) → IsSearch y quietly 0 (y.start ∷ []) []
begins_broad {S} {I} y quietly =
    record {
      keeps = record {
        trail = record { start = refl; lengths = refl; before = λ k o h. absurd (nothing k o h); came = λ k o h. absurd (nothing k o h) };
        reached = All-cons (IsReached y) y.start [] ([], refl) (All-nil (IsReached y));
      };
      broad = record {
        depth = λ k. k;
        counts = record { start = refl; more = λ k o h. absurd (nothing k o h) };
        within = omega arith;
        order = λ j k le h. le;
        near = λ _ k h. omega (arith, h);
        done = λ j s lt h. absurd (omega (arith, lt));
        here = All-nil (LeadsNear y (y.start ∷ []) (λ k. k) 1 y.start);
      };
    }
  where
    nothing : (k : ℕ) (o : ℕ × I) → slice_get [] k ≡ Some o → ⊥
    nothing k o h = omega (arith, slice_get_within [] k o h)

pub begins_from : {S I : Type 0} (y : System S I) (quietly : Bool) (states : List S) (origins : List (ℕ × I)) → states ≡ y.start ∷ [] → origins ≡ [] → IsSearch y quietly 0 states origins
begins_from y quietly states origins e f = subst (λ l. IsSearch y quietly 0 l origins) (sym e) (subst (λ l. IsSearch y quietly 0 (y.start ∷ []) l) (sym f) (begins_broad y quietly))
