-- Which nacks have fired after a step.
use Rattle.std.proofs.Common.{◌≡◌, ℕ, zero, suc, ◌+◌, ◌<◌, ◌≤◌, ◌⊎◌, inl, inr, ⊎_elim, List, [], ◌∷◌, Option, Some, None, refl, ap, sym, ◌∙◌, arith}
use Rattle.std.specs.Prelude.{slice_get, slice_set, Any}
use Rattle.std.specs.List.{All}
use Rattle.cml_value.specs.Value.{PlainBase}
use Rattle.cml_value.specs.Group.{PlainGroup}
use Rattle.cml_scan.specs.World.{running, PlainNack, live, fired, held, PlainWorld}
use Rattle.cml_book.specs.declared.command.Committed.{Committed}
use Rattle.cml_book.specs.Sync.{with_each, times_named}
use Rattle.cml_book.specs.Keeping.{NacksLive, lives}
use Rattle.cml_book.proofs.NackLemmas.{nacks-resume, get-set_other, with_each-other, with_each-named, lives-live, lives-le}
use Rattle.cml_rules.specs.Rules.{Sequel, branches, Offers, Waits, Synchronizes, alone, together}
use Rattle.cml_rules.specs.Laws.{Step}
use Rattle.cml_rules.specs.Firing.{Party, those_in, FiresBy, HeldBy, NacksSettle}
use Rattle.cml_rules.proofs.Derivations.{below}
use Rattle.cml_rules.proofs.Losing.{branches_are}
use Rattle.cml_rules.proofs.Committing.{alone_nacks, meet_differ}
use Rattle.cml_rules.proofs.Choosing.{parts}

-- the nacks once a thread has gone on
abbrev settle : List PlainNack → PlainGroup → Sequel → List PlainNack
settle ns g s = with_each s.fired fired (with_each (branches g) held ns)

set_none : {X : Type 0} (xs : List X) (i k : ℕ) (x : X) → slice_get xs k ≡ None → slice_get (slice_set xs i x) k ≡ None
set_none [] i k x h = h
set_none (y ∷ xs) zero zero x h = cc
set_none (y ∷ xs) zero (suc k) x h = h
set_none (y ∷ xs) (suc i) zero x h = h
set_none (y ∷ xs) (suc i) (suc k) x h = set_none xs i k x h

each_none : {X : Type 0} (ks : List ℕ) (x : X) (xs : List X) (k : ℕ) → slice_get xs k ≡ None → slice_get (with_each ks x xs) k ≡ None
each_none [] x xs k h = h
each_none (j ∷ ks) x xs k h = each_none ks x (slice_set xs j x) k (set_none xs j k x h)

-- what is set to one is not another
not_that : (so that : PlainNack) → (so ≡ that → ⊥) → (ks : List ℕ) (ns : List PlainNack) (k : ℕ) → 1 ≤ times_named k ks → slice_get (with_each ks so ns) k ≡ Some that → ⊥
not_that so that differ ks ns k named h = at (slice_get ns k) refl
  where
    apart : (o : Option PlainNack) → o ≡ Some so → o ≡ Some that → ⊥
    apart o e f = let same : so ≡ that = cc in differ same

    nothing : (o : Option PlainNack) → o ≡ None → o ≡ Some that → ⊥
    nothing o e f = cc

    at : (o : Option PlainNack) → slice_get ns k ≡ o → ⊥
    at None e = nothing _ (each_none ks so ns k e) h
    at (Some n) e = apart _ (with_each-named ks so n ns k named e) h

differ_held : held ≡ fired → ⊥
differ_held e = cc

differ_fired : fired ≡ held → ⊥
differ_fired e = cc

none_of : (n : ℕ) → n < 1 → n ≡ 0
none_of n h = omega arith

settle_fires : (ns : List PlainNack) (g : PlainGroup) (s : Sequel) (k : ℕ) → slice_get (settle ns g s) k ≡ Some fired → (1 ≤ times_named k s.fired) ⊎ (slice_get ns k ≡ Some fired)
settle_fires ns g s k h =
    ⊎_elim
    (λ less.
    let before = sym (with_each-other s.fired fired (with_each (branches g) held ns) k (none_of _ less)) ∙ h in
    ⊎_elim (λ few. inr (sym (with_each-other (branches g) held ns k (none_of _ few)) ∙ before))
    (λ named. absurd (not_that held fired differ_held (branches g) ns k named before)) (below (times_named k (branches g)) 1))
    (λ named. inl named)
    (below (times_named k s.fired) 1)

settle_other : (ns : List PlainNack) (g : PlainGroup) (s : Sequel) (k : ℕ) → times_named k (branches g) ≡ 0 → times_named k s.fired ≡ 0 → slice_get (settle ns g s) k ≡ slice_get ns k
settle_other ns g s k e f = with_each-other s.fired fired (with_each (branches g) held ns) k f ∙ with_each-other (branches g) held ns k e

settle_holds : (ns : List PlainNack) (g : PlainGroup) (s : Sequel) (k : ℕ) → slice_get (settle ns g s) k ≡ Some held
    → ((times_named k s.fired ≡ 0) × (1 ≤ times_named k (branches g))) ⊎ (slice_get ns k ≡ Some held)
settle_holds ns g s k h =
    ⊎_elim
    (λ less.
    let none = none_of _ less in
    let before = sym (with_each-other s.fired fired (with_each (branches g) held ns) k none) ∙ h in
    ⊎_elim (λ few. inr (sym (with_each-other (branches g) held ns k (none_of _ few)) ∙ before)) (λ named. inl (none, named)) (below (times_named k (branches g)) 1))
    (λ named. absurd (not_that fired held differ_fired s.fired (with_each (branches g) held ns) k named h))
    (below (times_named k s.fired) 1)

-- a nack that is named has fired, and one of a branch that is not named is held
set_fired : (ns : List PlainNack) (g : PlainGroup) (s : Sequel) (k : ℕ) (n : PlainNack) → 1 ≤ times_named k s.fired → slice_get ns k ≡ Some n → slice_get (settle ns g s) k ≡ Some fired
set_fired ns g s k n named there =
    ⊎_elim
    (λ few. with_each-named s.fired fired n (with_each (branches g) held ns) k named (with_each-other (branches g) held ns k (none_of _ few) ∙ there))
    (λ more. with_each-named s.fired fired held (with_each (branches g) held ns) k named (with_each-named (branches g) held n ns k more there))
    (below (times_named k (branches g)) 1)

set_held : (ns : List PlainNack) (g : PlainGroup) (s : Sequel) (k : ℕ) (n : PlainNack)
    → times_named k s.fired ≡ 0 → 1 ≤ times_named k (branches g) → slice_get ns k ≡ Some n → slice_get (settle ns g s) k ≡ Some held
set_held ns g s k n none named there = with_each-other s.fired fired (with_each (branches g) held ns) k none ∙ with_each-named (branches g) held n ns k named there

-- the nacks of a pending group's branches are live
alive : (w : PlainWorld) → NacksLive w → (t : ℕ) (g : PlainGroup) (k : ℕ) → Waits w t g → times_named k (branches g) ≤ lives (slice_get w.nacks k)
alive w n t g k p =
    let a = nacks-resume k 0 t w.threads g p in
    let l = n k in
    let e = ap (times_named k) (branches_are g) in
    omega arith

fires_by : (w : PlainWorld) → NacksLive w → (t : ℕ) (k : ℕ) (g : PlainGroup) (b : PlainBase) (s : Sequel) (d : Offers g b s) → Waits w t g → 1 ≤ times_named k s.fired
    → FiresBy w k (record { thread = t; group = g; offer = record { base = b; sequel = s; derivation = d } })
fires_by w n t k g b s d p named =
    let a = alive w n t g k p in
    let e = parts k d in
    let l = lives-le (slice_get w.nacks k) in
    record { waited = p; was_live = lives-live (slice_get w.nacks k) (omega arith); once = omega arith; outside = omega arith }

held_by : (w : PlainWorld) → NacksLive w → (t : ℕ) (k : ℕ) (g : PlainGroup) (b : PlainBase) (s : Sequel) (d : Offers g b s) → Waits w t g
    → times_named k s.fired ≡ 0 → 1 ≤ times_named k (branches g)
    → HeldBy w k (record { thread = t; group = g; offer = record { base = b; sequel = s; derivation = d } })
held_by w n t k g b s d p none named =
    let a = alive w n t g k p in
    let e = parts k d in
    let l = lives-le (slice_get w.nacks k) in
    record { waited = p; was_live = lives-live (slice_get w.nacks k) (omega arith); never = none; within = omega arith }

-- no nack has branches in the groups of two threads
one_group : (w : PlainWorld) → NacksLive w → (t u : ℕ) → (t ≡ u → ⊥) → (g h : PlainGroup) (k : ℕ) → Waits w t g → Waits w u h
    → times_named k (branches g) + times_named k (branches h) ≤ 1
one_group w n t u differ g h k p q =
    let a = nacks-resume k 0 t w.threads g p in
    let b = nacks-resume k 0 u (slice_set w.threads t running) h (get-set_other w.threads t u running differ ∙ q) in
    let l = n k in
    let m = lives-le (slice_get w.nacks k) in
    let e = ap (times_named k) (branches_are g) in
    let f = ap (times_named k) (branches_are h) in
    omega arith

-- a nack that is not live is none of a pending group's
untouched : (w : PlainWorld) → NacksLive w → (t : ℕ) (k : ℕ) {g : PlainGroup} {b : PlainBase} {s : Sequel} (d : Offers g b s) → Waits w t g → lives (slice_get w.nacks k) ≡ 0
    → (times_named k (branches g) ≡ 0) × (times_named k s.fired ≡ 0)
untouched w n t k {g = g} d p dead = let a = alive w n t g k p in let e = parts k d in (omega arith, omega arith)

any_first : {X : Type 0} (P : X → Type 0) (x : X) (xs : List X) → P x → Any P (x ∷ xs)
any_first P x xs h = (0, x, omega arith, refl, h)

any_second : {X : Type 0} (P : X → Type 0) (x y : X) (xs : List X) → P y → Any P (x ∷ y ∷ xs)
any_second P x y xs h = (1, y, omega arith, refl, h)

only : {X : Type 0} (P : X → Type 0) (x : X) → Any P (x ∷ []) → P x
only P x (zero, y, within, at, is) = rw at is
only P x (suc k, y, within, at, is) = absurd (omega arith)

one_of : {X : Type 0} (P : X → Type 0) (x y : X) → Any P (x ∷ y ∷ []) → P x ⊎ P y
one_of P x y (zero, z, within, at, is) = inl (rw at is)
one_of P x y (suc zero, z, within, at, is) = inr (rw at is)
one_of P x y (suc (suc k), z, within, at, is) = absurd (omega arith)

step_fires : {w w' : PlainWorld} {c : Committed} → NacksLive w → (d : Synchronizes w w' c) (k : ℕ)
    → slice_get w'.nacks k ≡ Some fired → (slice_get w.nacks k ≡ Some fired) ⊎ Any (FiresBy w k) (those_in d)
step_fires {w = w} n (alone t g b s v w' p d h) k e =
    ⊎_elim
    (λ named. inr (any_first (FiresBy w k) _ [] (fires_by w n t k g b s d p named)))
    (λ before. inl (ap (λ ns. slice_get ns k) (sym (alone_nacks h)) ∙ before))
    (settle_fires w'.nacks g s k e)
step_fires {w = w} n (together t u g h a b r s x y p q d e m) k f =
    ⊎_elim
    (λ named. inr (any_second (FiresBy w k) _ _ [] (fires_by w n u k h b s e q named)))
    (λ before.
    ⊎_elim
    (λ named. inr (any_first (FiresBy w k) _ (record { thread = u; group = h; offer = record { base = b; sequel = s; derivation = e } } ∷ []) (fires_by w n t k g a r d p named)))
    (λ long_before. inl long_before)
    (settle_fires w.nacks g r k before))
    (settle_fires (settle w.nacks g r) h s k f)

step_keeps : {w w' : PlainWorld} {c : Committed} → NacksLive w → (d : Synchronizes w w' c) (k : ℕ) → lives (slice_get w.nacks k) ≡ 0 → slice_get w'.nacks k ≡ slice_get w.nacks k
step_keeps {w = w} n (alone t g b s v w' p d h) k dead =
    let o = untouched w n t k d p dead in settle_other w'.nacks g s k o.0 o.1 ∙ ap (λ ns. slice_get ns k) (alone_nacks h)
step_keeps {w = w} n (together t u g h a b r s x y p q d e m) k dead =
    let o = untouched w n t k d p dead in
    let i = untouched w n u k e q dead in
    settle_other (settle w.nacks g r) h s k i.0 i.1 ∙ settle_other w.nacks g r k o.0 o.1

step_fired : {w w' : PlainWorld} {c : Committed} → NacksLive w → (d : Synchronizes w w' c) (k : ℕ) → Any (FiresBy w k) (those_in d) → slice_get w'.nacks k ≡ Some fired
step_fired {w = w} n (alone t g b s v w' p d h) k a =
    let f = only (FiresBy w k) _ a in
    let once = f.once in
    set_fired w'.nacks g s k live (omega arith) (ap (λ ns. slice_get ns k) (alone_nacks h) ∙ f.was_live)
step_fired {w = w} n (together t u g h a b r s x y p q d e m) k f =
    let apart = one_group w n t u (meet_differ m) g h k p q in
    let i = parts k d in
    let j = parts k e in
    ⊎_elim
    (λ head.
    let once = head.once in
    settle_other (settle w.nacks g r) h s k (omega arith) (omega arith) ∙ set_fired w.nacks g r k live (omega arith) head.was_live)
    (λ partner.
    let once = partner.once in
    set_fired (settle w.nacks g r) h s k live (omega arith) (settle_other w.nacks g r k (omega arith) (omega arith) ∙ partner.was_live))
    (one_of (FiresBy w k) _ _ f)

step_holds : {w w' : PlainWorld} {c : Committed} → NacksLive w → (d : Synchronizes w w' c) (k : ℕ)
    → slice_get w'.nacks k ≡ Some held → (slice_get w.nacks k ≡ Some held) ⊎ Any (HeldBy w k) (those_in d)
step_holds {w = w} n (alone t g b s v w' p d h) k e =
    ⊎_elim
    (λ both. inr (any_first (HeldBy w k) _ [] (held_by w n t k g b s d p both.0 both.1)))
    (λ before. inl (ap (λ ns. slice_get ns k) (sym (alone_nacks h)) ∙ before))
    (settle_holds w'.nacks g s k e)
step_holds {w = w} n (together t u g h a b r s x y p q d e m) k f =
    ⊎_elim
    (λ both. inr (any_second (HeldBy w k) _ _ [] (held_by w n u k h b s e q both.0 both.1)))
    (λ before.
    ⊎_elim
    (λ both. inr (any_first (HeldBy w k) _ (record { thread = u; group = h; offer = record { base = b; sequel = s; derivation = e } } ∷ []) (held_by w n t k g a r d p both.0 both.1)))
    (λ long_before. inl long_before)
    (settle_holds w.nacks g r k before))
    (settle_holds (settle w.nacks g r) h s k f)

step_held : {w w' : PlainWorld} {c : Committed} → NacksLive w → (d : Synchronizes w w' c) (k : ℕ) → Any (HeldBy w k) (those_in d) → slice_get w'.nacks k ≡ Some held
step_held {w = w} n (alone t g b s v w' p d h) k a =
    let f = only (HeldBy w k) _ a in
    let within = f.within in
    let i = parts k d in
    set_held w'.nacks g s k live f.never (omega arith) (ap (λ ns. slice_get ns k) (alone_nacks h) ∙ f.was_live)
step_held {w = w} n (together t u g h a b r s x y p q d e m) k f =
    let apart = one_group w n t u (meet_differ m) g h k p q in
    let i = parts k d in
    let j = parts k e in
    ⊎_elim
    (λ head.
    let within = head.within in
    settle_other (settle w.nacks g r) h s k (omega arith) (omega arith) ∙ set_held w.nacks g r k live head.never (omega arith) head.was_live)
    (λ partner.
    let within = partner.within in
    set_held (settle w.nacks g r) h s k live partner.never (omega arith) (settle_other w.nacks g r k (omega arith) (omega arith) ∙ partner.was_live))
    (one_of (HeldBy w k) _ _ f)

-- the nack is in no branch of a party
abbrev away : (k : ℕ) → Party → Type 0
away k p = times_named k (branches p.group) ≡ 0

step_leaves : {w w' : PlainWorld} {c : Committed} (d : Synchronizes w w' c) (k : ℕ) → All (away k) (those_in d) → slice_get w'.nacks k ≡ slice_get w.nacks k
step_leaves (alone t g b s v w' p d h) k all =
    let none : times_named k (branches g) ≡ 0 = all 0 (record { thread = t; group = g; offer = record { base = b; sequel = s; derivation = d } }) (omega arith) in
    let i = parts k d in
    settle_other w'.nacks g s k none (omega arith) ∙ ap (λ ns. slice_get ns k) (alone_nacks h)
step_leaves {w = w} (together t u g h a b r s x y p q d e m) k all =
    let party : Party = record { thread = t; group = g; offer = record { base = a; sequel = r; derivation = d } } in
    let none : times_named k (branches g) ≡ 0 = all 0 party (omega arith) in
    let none_either : times_named k (branches h) ≡ 0 = all 1 party (omega arith) in
    let i = parts k d in
    let j = parts k e in
    settle_other (settle w.nacks g r) h s k none_either (omega arith) ∙ settle_other w.nacks g r k none (omega arith)

pub nacks_settle : (w : PlainWorld) → NacksLive w → (s : Step w) → NacksSettle w s
nacks_settle w n s = record {
  fires = λ k. (step_fires n s.derivation k, λ o. ⊎_elim (λ before. step_keeps n s.derivation k (ap lives before) ∙ before) (step_fired n s.derivation k) o);
  holds = λ k. (step_holds n s.derivation k, λ o. ⊎_elim (λ before. step_keeps n s.derivation k (ap lives before) ∙ before) (step_held n s.derivation k) o);
  others = λ k away. step_leaves s.derivation k away;
}
