-- All items of a state, and all states.
use Rattle.std.proofs.Common.{◌≡◌, ℕ, ◌+◌, ◌<◌, ◌≤◌, Bool, true, false, List, [], ◌∷◌, ◌++◌, length, take, get_or, Option, Some, slice_get, Contains, ◌⊎◌}
use Rattle.std.proofs.Common.{inl, inr, ap, sym, subst, ◌∙◌, arith, length-append, append_assoc, true≢false}
use Rattle.std.specs.Prelude.{IfSome, IsSome}
use Rattle.std.specs.List.{All}
use Rattle.std.proofs.lemmas.List.{take-append-le}
use Rattle.std.proofs.lemmas.List.Elements.{All-nil, All-cons, All-more, All-weaker, Contains-append_left}
use Rattle.std.proofs.lemmas.Option.{slice_get_within, get_or_from_slice_get, IfSome_then, same_Some}
use Rattle.cml_verify.specs.Systems.{System, run, LeadsTo, IsReached, IsLawful, LeadsInto, IsFollowed, IsFollowedQuietly}
use Rattle.cml_verify.specs.Searches.{IsLonger, AreEnough, WasFollowed}
use Rattle.cml_verify.specs.Places.{get_front}

module _ {S : Type 0} where
  pub longer_trans : (a b c : List S) → IsLonger a b → IsLonger b c → IsLonger a c
  longer_trans a b c f g = (f.0 ++ g.0, g.1 ∙ ap (λ l. l ++ g.0) f.1 ∙ append_assoc a f.0 g.0)

  pub same_place : (a b : List S) (at : ℕ) → IsLonger a b → at < length a → slice_get b at ≡ slice_get a at
  same_place a b at l h = ap (λ m. slice_get m at) l.1 ∙ get_front a l.0 at h

  pub no_shorter : (a b : List S) → IsLonger a b → length a ≤ length b
  no_shorter a b l = omega (arith, ap length l.1, length-append a l.0)

module _ {S I : Type 0} (y : System S I) where
  pub leads_longer : (old new : List S) (s : S) (i : I) → IsLonger old new → LeadsInto y old s i → LeadsInto y new s i
  leads_longer old new s i l h = IfSome_then (y.step s i) h (λ t c. subst (λ m. Contains m t) (sym l.1) (Contains-append_left old l.0 t c))

  followed_longer : (quietly : Bool) (old new : List S) (s : S) → IsLonger old new → WasFollowed y quietly old s → WasFollowed y quietly new s
  followed_longer quietly old new s l (inl all) = inl (All-weaker (LeadsInto y old s) (LeadsInto y new s) (λ i h. leads_longer old new s i l h) (y.allowed s) all)
  followed_longer quietly old new s l (inr q) = inr (q.0, record { turn = q.1.turn; quiet = q.1.quiet; leads = leads_longer old new s q.1.turn l q.1.leads })

  -- one item more of a state
  pub leads_more : (mid new : List S) (s : S) (items : List I) (k : ℕ) (item : I) → All (LeadsInto y mid s) (take k items) → IsLonger mid new → LeadsInto y new s item
      → k < length items → item ≡ get_or items k item → All (LeadsInto y new s) (take (k + 1) items)
  leads_more mid new s items k item before l one in' is =
      All-more (LeadsInto y new s) items k item in' (All-weaker (LeadsInto y mid s) (LeadsInto y new s) (λ i h. leads_longer mid new s i l h) (take k items) before)
      (subst (LeadsInto y new s) is one)

  -- enough items can all be taken
  pub can_all : IsLawful y → (quietly : Bool) (s : S) (items : List I) → IsReached y s → AreEnough y quietly s items → All (λ i. IsSome (y.step s i)) items
  can_all lawful quietly s items r (inl all) = subst (All (λ i. IsSome (y.step s i))) (sym all) (lawful.lists s r).each
  can_all lawful quietly s items r (inr q) =
      subst (All (λ i. IsSome (y.step s i))) (sym q.3) (All-cons (λ i. IsSome (y.step s i)) q.0 [] (lawful.quiet s q.0 r q.2).can (All-nil (λ i. IsSome (y.step s i))))

  -- where enough items were followed, the state was
  was_followed : (quietly : Bool) (seen : List S) (s : S) (items : List I) → AreEnough y quietly s items → All (LeadsInto y seen s) items → WasFollowed y quietly seen s
  was_followed quietly seen s items (inl all) h = inl (subst (All (LeadsInto y seen s)) all h)
  was_followed quietly seen s items (inr q) h =
      let one : All (LeadsInto y seen s) (q.0 ∷ []) = subst (All (LeadsInto y seen s)) q.3 h in
      inr (q.1, record { turn = q.0; quiet = q.2; leads = one 0 q.0 (omega arith) })

  -- the same of where a schedule leads
  pub can_here : IsLawful y → (quietly : Bool) (schedule items : List I) → LeadsTo y schedule (λ s. AreEnough y quietly s items)
      → LeadsTo y schedule (λ s. All (λ i. IsSome (y.step s i)) items)
  can_here lawful quietly schedule items e = (e.0, e.1, can_all lawful quietly e.0 items (schedule, e.1) e.2)

  pub was_followed_at : (quietly : Bool) (old seen : List S) (at : ℕ) (schedule items : List I) → run y y.start schedule ≡ slice_get old at
      → LeadsTo y schedule (λ s. AreEnough y quietly s items) → LeadsTo y schedule (λ s. All (LeadsInto y seen s) items)
      → IfSome (slice_get old at) (WasFollowed y quietly seen)
  was_followed_at quietly old seen at schedule items leads enough into =
      let stands : slice_get old at ≡ Some enough.0 = sym leads ∙ enough.1 in
      let is : into.0 ≡ enough.0 = same_Some into.0 enough.0 (sym into.1 ∙ enough.1) in
      let At : Option S → Type 0 = λ o. IfSome o (WasFollowed y quietly seen) in
      subst At (sym stands) (was_followed quietly seen enough.0 items enough.2 (subst (λ s. All (LeadsInto y seen s) items) is into.2))

  -- one state more
  pub followed_more : (quietly : Bool) (old new : List S) (at : ℕ) (s : S) → slice_get old at ≡ Some s → IsLonger old new
      → All (WasFollowed y quietly old) (take at old) → WasFollowed y quietly new s → All (WasFollowed y quietly new) (take (at + 1) new)
  followed_more quietly old new at s stands l done here =
      let in' : at < length old = slice_get_within old at s stands in
      let in_new : at < length new = omega (arith, no_shorter old new l) in
      let it : get_or new at s ≡ s = get_or_from_slice_get new at s s (same_place old new at l in' ∙ stands) in
      let front : take at new ≡ take at old = ap (take at) l.1 ∙ take-append-le at old l.0 (omega arith) in
      All-more (WasFollowed y quietly new) new at s in_new
      (subst (All (WasFollowed y quietly new)) (sym front)
      (All-weaker (WasFollowed y quietly old) (WasFollowed y quietly new) (λ u h. followed_longer quietly old new u l h) (take at old) done))
      (subst (WasFollowed y quietly new) (sym it) here)

  -- with no quiet turn, each state was followed whole
  pub followed_whole : (seen : List S) → All (WasFollowed y false seen) seen → All (IsFollowed y seen) seen
  followed_whole seen h = All-weaker (WasFollowed y false seen) (IsFollowed y seen) (λ s w. elim w [ inl all ↦ all | inr q ↦ absurd (true≢false (sym q.0)) ]) seen h

  pub followed_or_quietly : (seen : List S) → All (WasFollowed y true seen) seen → All (λ s. IsFollowed y seen s ⊎ IsFollowedQuietly y seen s) seen
  followed_or_quietly seen h =
      All-weaker (WasFollowed y true seen) (λ s. IsFollowed y seen s ⊎ IsFollowedQuietly y seen s) (λ s w. elim w [ inl all ↦ inl all | inr q ↦ inr q.1 ]) seen h
