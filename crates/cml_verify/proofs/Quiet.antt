-- Quiet turns lose no end.
use Rattle.std.proofs.Common.{◌≡◌, ℕ, zero, suc, ◌≢◌, true, List, [], ◌∷◌, length, Option, None, Some, Contains, ◌⊎◌, inl, inr, refl, ap, sym, subst, ◌∙◌, arith}
use Rattle.std.proofs.lemmas.Bool.{cases_eq}
use Rattle.std.specs.List.{All}
use Rattle.std.proofs.lemmas.List.Elements.{All-contains}
use Rattle.std.proofs.lemmas.Option.{same_Some}
use Rattle.cml_verify.specs.Systems.{System, run, IsReached, IsTerminal, IsLawful, KeepsQuiet, IsFollowed, IsFollowedQuietly}
use Rattle.cml_verify.specs.Laws.{EachEndIsSeen}
use Rattle.cml_verify.proofs.Runs.{held, at_some, Begins, begins, run-cons, reached_next}
use Rattle.cml_verify.proofs.Closed.{followed}

same_owner : (a b : Option ℕ) → (a ≡ b) ⊎ (a ≢ b)
same_owner None None = inl refl
same_owner None (Some n) = inr (λ e. cc)
same_owner (Some m) None = inr (λ e. cc)
same_owner (Some m) (Some n) = elim (cases_eq m n) [ inl e ↦ inl (ap (λ k. Some k) e) | inr e ↦ inr (λ f. e (same_Some m n f)) ]

module _ {S I : Type 0} (y : System S I) (lawful : IsLawful y) where
  -- a schedule with the turn at its front
  pub record ComesFirst (s : S) (a : I) (items : List I) (end : S) : Type 0 where
    pub next : S
    pub rest : List I
    pub shorter : length items ≡ suc (length rest)
    pub turn : y.step s a ≡ Some next
    pub goes_on : run y next rest ≡ Some end

  -- no item can be taken at the end
  ended : (s : S) (i : I) (t : S) → IsReached y s → IsTerminal y s → y.step s i ≡ Some t → ⊥
  ended s i t r stop f =
      let has : Contains (y.allowed s) i = (lawful.lists s r).only i t f in
      let none : Contains [] i = subst (λ l. Contains l i) stop has in
      omega (arith, none.1)

  -- a quiet turn can be taken first in each schedule of these items that ends
  abbrev TurnsFirst : List I → Type 0
  TurnsFirst items = (s : S) (a : I) (end : S) → IsReached y s → y.quiet s a ≡ true → IsTerminal y end → run y s items ≡ Some end → ComesFirst s a items end

  one_more : (items : List I) → TurnsFirst items → (s : S) (a i : I) (end : S) → IsReached y s → KeepsQuiet y s a → IsTerminal y end → Begins y s i items end
      → (y.owner i ≡ y.owner a) ⊎ (y.owner i ≢ y.owner a) → ComesFirst s a (i ∷ items) end
  one_more items rest s a i end r keeps stop b (inl own) =
      let same : i ≡ a = keeps.alone i b.next b.first own in
      record { next = b.next; rest = items; shorter = refl; turn = subst (λ j. y.step s j ≡ Some b.next) same b.first; goes_on = b.rest }
  one_more items rest s a i end r keeps stop b (inr other) =
      let w = keeps.swaps i b.next b.first other in
      let f = rest b.next a end (reached_next y s i b.next r b.first) w.stays stop b.rest in
      let met : f.next ≡ w.both = same_Some f.next w.both (sym f.turn ∙ w.other_way) in
      record {
        next = w.turned;
        rest = i ∷ f.rest;
        shorter = ap suc f.shorter;
        turn = w.first;
        goes_on = run-cons y w.turned i f.rest w.both w.then_ ∙ (ap (λ t. run y t f.rest) (sym met) ∙ f.goes_on);
      }

  pub comes_first : (items : List I) → TurnsFirst items
  comes_first [] s a end r q stop h =
      let can = held (y.step s a) (lawful.quiet s a r q).can in
      absurd (ended s a can.0 r (subst (IsTerminal y) (sym (same_Some s end h)) stop) can.1)
  comes_first (i ∷ items) s a end r q stop h =
      one_more items (comes_first items) s a i end r (lawful.quiet s a r q) stop (begins y s i items end h) (same_owner (y.owner i) (y.owner a))

  module _ (seen : List S) (closed : All (λ s. IsFollowed y seen s ⊎ IsFollowedQuietly y seen s) seen) where
    -- a schedule of n items that begins in these states ends in them
    abbrev EndsIn : ℕ → Type 0
    EndsIn n = (items : List I) (s end : S) → length items ≡ n → Contains seen s → IsReached y s → IsTerminal y end → run y s items ≡ Some end → Contains seen end

    first_step : (n : ℕ) → EndsIn n → (i : I) (items : List I) (s end : S) → length items ≡ n → IsReached y s → IsTerminal y end → run y s (i ∷ items) ≡ Some end
        → IsFollowed y seen s ⊎ IsFollowedQuietly y seen s → Contains seen end
    first_step n rest i items s end len r stop h (inl all) =
        let b = begins y s i items end h in
        rest items b.next end len (followed y lawful seen s i b.next r all b.first) (reached_next y s i b.next r b.first) stop b.rest
    first_step n rest i items s end len r stop h (inr one) =
        let f = comes_first (i ∷ items) s one.turn end r one.quiet stop h in
        let shorter : length f.rest ≡ n = omega (arith, f.shorter) in
        rest f.rest f.next end shorter (at_some (Contains seen) (y.step s one.turn) f.next f.turn one.leads) (reached_next y s one.turn f.next r f.turn) stop f.goes_on

    ends_in : (n : ℕ) → EndsIn n
    ends_in n [] s end len has r stop h = subst (Contains seen) (same_Some s end h) has
    ends_in zero (i ∷ items) s end len has r stop h = absurd (omega arith)
    ends_in (suc n) (i ∷ items) s end len has r stop h =
        first_step n (ends_in n) i items s end (omega arith) r stop h (All-contains (λ u. IsFollowed y seen u ⊎ IsFollowedQuietly y seen u) seen s closed has)

pub each_end_is_seen : {S I : Type 0} (y : System S I) → IsLawful y → EachEndIsSeen y
each_end_is_seen y lawful seen start closed s r stop = ends_in y lawful seen closed (length r.0) r.0 y.start s refl start ([], refl) stop r.1
