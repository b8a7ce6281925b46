-- What is asked is done exactly as the rules say: lemmas for each kind of ask.
use Rattle.std.proofs.Common.{◌≡◌, ◌≢◌, ◌⊎◌, inl, inr, ℕ, zero, suc, ◌+◌, ◌<◌, ◌≤◌, ◌==◌, nat_eq, nat_lt, cond, Bool, true, false, not, ◌&&◌}
use Rattle.std.proofs.Common.{List, [], ◌∷◌, ◌++◌, length, map, filter, Option, Some, None, Ok, Err, refl, ap, sym, ◌∙◌, subst, arith, append_assoc, append-nil}
use Rattle.std.specs.Prelude.{slice_get, slice_set, option_map, unwrap_or}
use Rattle.std.specs.List.{list_all}
use Rattle.std.specs.Option.{option_map_or}
use Rattle.std.proofs.lemmas.Bool.Decides.{nat_tests}
use Rattle.cml_value.specs.Value.{PlainValue}
use Rattle.cml_value.specs.Group.{PlainGroup, PlainGroups, never, leaf, choose, wrap, scope, no_groups, groups_and}
use Rattle.cml_scan.specs.World.{PlainNack, fresh_of, PlainWorld}
use Rattle.cml_scan.specs.Light.{is_full}
use Rattle.cml_objects.specs.Queues.{added_at}
use Rattle.cml_objects.specs.Posts.{posted}
use Rattle.cml_step.specs.Asks.{PlainAsk}
use Rattle.cml_book.specs.declared.refusal.Refusal.{Refusal}
use Rattle.cml_book.specs.Entering.{entered, entered_all}
use Rattle.cml_book.specs.MakePort.{ports_at}
use Rattle.cml_book.specs.Outcomes.{Outcome, refuse_if, refuse_by}
use Rattle.cml_book.specs.Sync.{times_named, is_fresh_for, can_enter}
use Rattle.cml_book.proofs.NackLemmas.{CanEnter, can_enter_is, named_passes, times-named, times-other, get-set_same, get-set_other}
use Rattle.cml_hub.specs.Performed.{PlainDone, done}
use Rattle.cml_rules.specs.Rules.{branches, branches_of_all}
use Rattle.cml_rules.specs.Acts.{AreNew, Arrives, Enacts}
use Rattle.cml_rules.specs.Turns.{IsLimit, IsAtLimit}

-- what is at a place that is there
pub there : {X : Type 0} (xs : List X) (i : ℕ) → not (nat_lt i (length xs)) ≡ false → (x : X) × (slice_get xs i ≡ Some x)
there xs i h = at xs i (is_in (nat_lt i (length xs)) h refl)
  where
    is_in : (b : Bool) → not b ≡ false → nat_lt i (length xs) ≡ b → i < length xs
    is_in true e f = grind (arith, nat_tests)
    is_in false e f = cc

    at : {X : Type 0} (ys : List X) (k : ℕ) → k < length ys → (x : X) × (slice_get ys k ≡ Some x)
    at [] k h = absurd (omega arith)
    at (y ∷ ys) zero h = (y, refl)
    at (y ∷ ys) (suc k) h = at ys k (omega arith)

pub within : {X : Type 0} (xs : List X) (i : ℕ) (x : X) → slice_get xs i ≡ Some x → not (nat_lt i (length xs)) ≡ false
within xs i x h = ap not (tested (at xs i x h))
  where
    at : {X : Type 0} (ys : List X) (k : ℕ) (y : X) → slice_get ys k ≡ Some y → k < length ys
    at [] k y h = cc
    at (z ∷ ys) zero y h = omega arith
    at (z ∷ ys) (suc k) y h = let n = at ys k y h in omega arith

    tested : i < length xs → nat_lt i (length xs) ≡ true
    tested n = grind (arith, nat_tests)

-- an empty variable
pub empty_there : (xs : List (Option PlainValue)) (i : ℕ) → not (nat_lt i (length xs)) ≡ false → is_full (slice_get xs i) ≡ false → slice_get xs i ≡ Some None
empty_there xs i h e = let x = there xs i h in at x.0 x.1 (ap is_full (sym x.1) ∙ e)
  where
    at : (o : Option PlainValue) → slice_get xs i ≡ Some o → is_full (Some o) ≡ false → slice_get xs i ≡ Some None
    at None f g = f
    at (Some v) f g = cc

-- What was asked, where up to three refusals come first.
module _ {R : Type 0} (w : PlainWorld) (t : ℕ) (q : PlainAsk) (so : R → PlainDone) (x : PlainWorld × R) (next : PlainWorld) (gone : PlainDone) where
  pub by_none : Enacts w t q x.0 (so x.1) → Path (Outcome PlainDone) (Ok (x.0, so x.1)) (Ok (next, gone)) → Enacts w t q next gone
  by_none k e = subst (λ (y : PlainWorld × PlainDone). Enacts w t q y.0 y.1) (same (x.0, so x.1) (next, gone) e) k
    where
      same : (y z : PlainWorld × PlainDone) → Path (Outcome PlainDone) (Ok y) (Ok z) → y ≡ z
      same y z e = cc

  refused : (r : Refusal) → Path (Outcome PlainDone) (Err r) (Ok (next, gone)) → ⊥
  refused r e = cc

  pub by_one : (a : Bool) (r : Refusal) → (a ≡ false → Enacts w t q x.0 (so x.1)) → Path (Outcome PlainDone) (done so (refuse_if a r (Ok x))) (Ok (next, gone)) → Enacts w t q next gone
  by_one true r k e = absurd (refused r e)
  by_one false r k e = by_none (k refl) e

  pub by_two : (a b : Bool) (r s : Refusal) → (a ≡ false → b ≡ false → Enacts w t q x.0 (so x.1))
      → Path (Outcome PlainDone) (done so (refuse_if a r (refuse_if b s (Ok x)))) (Ok (next, gone)) → Enacts w t q next gone
  by_two true b r s k e = absurd (refused r e)
  by_two false b r s k e = by_one b s (k refl) e

  pub by_three : (a b c : Bool) (r s u : Refusal) → (a ≡ false → b ≡ false → c ≡ false → Enacts w t q x.0 (so x.1))
      → Path (Outcome PlainDone) (done so (refuse_if a r (refuse_if b s (refuse_if c u (Ok x))))) (Ok (next, gone)) → Enacts w t q next gone
  by_three true b c r s u k e = absurd (refused r e)
  by_three false b c r s u k e = by_two b c s u (k refl) e

  pub by_maybe : (o : Option Refusal) → (o ≡ None → Enacts w t q x.0 (so x.1)) → Path (Outcome PlainDone) (done so (refuse_by o (Ok x))) (Ok (next, gone)) → Enacts w t q next gone
  by_maybe (Some r) k e = absurd (refused r e)
  by_maybe None k e = by_none (k refl) e

  pub by_maybe_one : (o : Option Refusal) (a : Bool) (r : Refusal) → (o ≡ None → a ≡ false → Enacts w t q x.0 (so x.1))
      → Path (Outcome PlainDone) (done so (refuse_by o (refuse_if a r (Ok x)))) (Ok (next, gone)) → Enacts w t q next gone
  by_maybe_one (Some r) a s k e = absurd (refused r e)
  by_maybe_one None a s k e = by_one a s (k refl) e

-- a test that is passed, or is for a limit
abbrev pub Passes : Bool → Refusal → Type 0
Passes a r = (a ≡ false) ⊎ IsLimit r

abbrev pub IsDone : Outcome PlainDone → PlainWorld × PlainDone → Type 0
IsDone outcome x = Path (Outcome PlainDone) outcome (Ok (x.0, x.1)) ⊎ IsAtLimit outcome

-- What a rule says is done, where up to three tests come first.
module _ {R : Type 0} (so : R → PlainDone) (x : PlainWorld × R) where
  pub past_one : (a : Bool) (r : Refusal) → Passes a r → IsDone (done so (refuse_if a r (Ok x))) (x.0, so x.1)
  past_one false r h = inl refl
  past_one true r (inl e) = absurd (no e)
    where
      no : true ≡ false → ⊥
      no e = cc
  past_one true r (inr l) = inr l

  pub past_two : (a b : Bool) (r s : Refusal) → Passes a r → Passes b s → IsDone (done so (refuse_if a r (refuse_if b s (Ok x)))) (x.0, so x.1)
  past_two false b r s h k = past_one b s k
  past_two true b r s (inl e) k = absurd (no e)
    where
      no : true ≡ false → ⊥
      no e = cc
  past_two true b r s (inr l) k = inr l

  pub past_three : (a b c : Bool) (r s u : Refusal) → Passes a r → Passes b s → Passes c u
      → IsDone (done so (refuse_if a r (refuse_if b s (refuse_if c u (Ok x))))) (x.0, so x.1)
  past_three false b c r s u h k l = past_two b c s u k l
  past_three true b c r s u (inl e) k l = absurd (no e)
    where
      no : true ≡ false → ⊥
      no e = cc
  past_three true b c r s u (inr l) k m = inr l

-- lists that are the same at each place
pub same_list : {X : Type 0} (xs ys : List X) → ((p : ℕ) → slice_get xs p ≡ slice_get ys p) → xs ≡ ys
same_list [] [] h = refl
same_list [] (y ∷ ys) h = absurd (no (h 0))
  where
    no : None ≡ Some y → ⊥
    no e = cc
same_list (x ∷ xs) [] h = absurd (no (h 0))
  where
    no : Some x ≡ None → ⊥
    no e = cc
same_list (x ∷ xs) (y ∷ ys) h = let e : x ≡ y = some_is (h 0) in let f = same_list xs ys (λ p. h (suc p)) in cc
  where
    some_is : Some x ≡ Some y → x ≡ y
    some_is e = cc

-- A message comes to the ports of a list.
abbrev with_last : PlainValue → List PlainValue → List PlainValue
with_last v unread = unread ++ v ∷ []

added_same : (qs : List (List PlainValue)) (p : ℕ) (v : PlainValue) → slice_get (added_at qs p v) p ≡ option_map (with_last v) (slice_get qs p)
added_same qs p v = at (slice_get qs p) refl
  where
    at : (o : Option (List PlainValue)) → slice_get qs p ≡ o → slice_get (added_at qs p v) p ≡ option_map (with_last v) (slice_get qs p)
    at None e = ap (λ o. slice_get (option_map_or (λ items. slice_set qs p (with_last v items)) o qs) p) e ∙ e ∙ sym (ap (option_map (with_last v)) e)
    at (Some items) e =
        ap (λ o. slice_get (option_map_or (λ items. slice_set qs p (with_last v items)) o qs) p) e
        ∙ get-set_same qs p (with_last v items) items e
        ∙ sym (ap (option_map (with_last v)) e)

added_other : (qs : List (List PlainValue)) (p j : ℕ) (v : PlainValue) → p ≢ j → slice_get (added_at qs p v) j ≡ slice_get qs j
added_other qs p j v differ = at (slice_get qs p) refl
  where
    at : (o : Option (List PlainValue)) → slice_get qs p ≡ o → slice_get (added_at qs p v) j ≡ slice_get qs j
    at None e = ap (λ o. slice_get (option_map_or (λ items. slice_set qs p (with_last v items)) o qs) j) e
    at (Some items) e =
        ap (λ o. slice_get (option_map_or (λ items. slice_set qs p (with_last v items)) o qs) j) e
        ∙ get-set_other qs p j (with_last v items) differ

pub added_is : (qs : List (List PlainValue)) (b : ℕ) (v : PlainValue) (vs : List PlainValue) → slice_get qs b ≡ Some vs → added_at qs b v ≡ slice_set qs b (vs ++ v ∷ [])
added_is qs b v vs e = ap (λ o. option_map_or (λ items. slice_set qs b (items ++ v ∷ [])) o qs) e

-- what a port has after a message that is named so often
abbrev behind : PlainValue → List ℕ → List PlainValue → List PlainValue
behind v named unread = unread ++ map (λ q. v) named

none_behind : (v : PlainValue) (o : Option (List PlainValue)) → o ≡ option_map (behind v []) o
none_behind v None = refl
none_behind v (Some vs) = ap Some (sym (append-nil vs))

one_behind : (v : PlainValue) (k : ℕ) (named : List ℕ) (o : Option (List PlainValue)) → option_map (behind v named) (option_map (with_last v) o) ≡ option_map (behind v (k ∷ named)) o
one_behind v k named None = refl
one_behind v k named (Some vs) = ap Some (append_assoc vs (v ∷ []) (map (λ q. v) named))

pub posted_comes : (v : PlainValue) (ps : List ℕ) (qs : List (List PlainValue)) → Arrives ps v qs (posted v ps qs)
posted_comes v [] qs = λ p. none_behind v (slice_get qs p)
posted_comes v (k ∷ ps) qs = λ p. posted_comes v ps (added_at qs k v) p ∙ at p (nat_eq k p) refl
  where
    at : (p : ℕ) (b : Bool) → nat_eq k p ≡ b
        → option_map (behind v (filter (λ q. q == p) ps)) (slice_get (added_at qs k v) p)
        ≡ option_map (behind v (cond (nat_eq k p) (k ∷ filter (λ q. q == p) ps) (filter (λ q. q == p) ps))) (slice_get qs p)
    at p true e =
        let same : k ≡ p = grind (arith, nat_tests) in
        let there : slice_get (added_at qs k v) p ≡ option_map (with_last v) (slice_get qs p) =
        subst (λ j. slice_get (added_at qs k v) j ≡ option_map (with_last v) (slice_get qs j)) same (added_same qs k v) in
        ap (option_map (behind v (filter (λ q. q == p) ps))) there
        ∙ one_behind v k (filter (λ q. q == p) ps) (slice_get qs p)
        ∙ ap (λ b. option_map (behind v (cond b (k ∷ filter (λ q. q == p) ps) (filter (λ q. q == p) ps))) (slice_get qs p)) (sym e)
    at p false e =
        let differ : k ≢ p = grind (arith, nat_tests) in
        ap (option_map (behind v (filter (λ q. q == p) ps))) (added_other qs k p v differ)
        ∙ ap (λ b. option_map (behind v (cond b (k ∷ filter (λ q. q == p) ps) (filter (λ q. q == p) ps))) (slice_get qs p)) (sym e)

pub ports_are : (channels : List (List ℕ)) (x : ℕ) (ps : List ℕ) → slice_get channels x ≡ Some ps → ports_at channels x ≡ ps
ports_are channels x ps e = ap (λ o. unwrap_or o []) e

-- Nacks that enter.
mutual
  pub branches_enter : (now : ℕ) (g : PlainGroup) → branches (entered now g) ≡ branches g
  branches_enter now never = refl
  branches_enter now (leaf b) = refl
  branches_enter now (choose gs) = all_branches_enter now gs
  branches_enter now (wrap g f) = branches_enter now g
  branches_enter now (scope k g) = ap (λ ks. k ∷ ks) (branches_enter now g)

  all_branches_enter : (now : ℕ) (gs : PlainGroups) → branches_of_all (entered_all now gs) ≡ branches_of_all gs
  all_branches_enter now no_groups = refl
  all_branches_enter now (groups_and g gs) = ap (λ ks. ks ++ branches_of_all (entered_all now gs)) (branches_enter now g) ∙ ap (λ ks. branches g ++ ks) (all_branches_enter now gs)

fresh_is : (t : ℕ) (o : Option PlainNack) → is_fresh_for t o ≡ true → o ≡ Some (fresh_of t)
fresh_is t (Some (fresh_of owner)) h = let same : t ≡ owner = grind (arith, nat_tests) in rw same refl
fresh_is t _ h = cc

pub new_from : (w : PlainWorld) (t : ℕ) (ks : List ℕ) → can_enter w t ks ≡ true → AreNew w t ks
new_from w t ks h = λ k n. (
  fresh_is t (slice_get w.nacks k) (named_passes (λ j. is_fresh_for t (slice_get w.nacks j)) ks k can.fresh n),
  once k (named_passes (λ j. nat_eq (times_named j ks) 1) ks k can.once n),
)
  where
    can : CanEnter t ks w.nacks
    can = can_enter_is w t ks h

    once : (k : ℕ) → nat_eq (times_named k ks) 1 ≡ true → times_named k ks ≡ 1
    once k e = grind (arith, nat_tests)

both_so : (a b : Bool) → a ≡ true → b ≡ true → a && b ≡ true
both_so a b e f = rw (e, f) refl

all_named : (p : ℕ → Bool) (ks : List ℕ) → ((k : ℕ) → 1 ≤ times_named k ks → p k ≡ true) → list_all p ks ≡ true
all_named p [] h = refl
all_named p (j ∷ ks) h = both_so (p j) (list_all p ks) (h j (first (times-named j j ks itself))) (all_named p ks (λ k n. h k (more k (nat_eq j k) refl n)))
  where
    itself : nat_eq j j ≡ true
    itself = grind (arith, nat_tests)

    first : times_named j (j ∷ ks) ≡ 1 + times_named j ks → 1 ≤ times_named j (j ∷ ks)
    first e = omega arith

    more : (k : ℕ) (b : Bool) → nat_eq j k ≡ b → 1 ≤ times_named k ks → 1 ≤ times_named k (j ∷ ks)
    more k true e n = let a = times-named j k ks e in omega arith
    more k false e n = let a = times-other j k ks e in omega arith

pub new_to : (w : PlainWorld) (t : ℕ) (ks : List ℕ) → AreNew w t ks → can_enter w t ks ≡ true
new_to w t ks h =
    both_so (list_all (λ k. is_fresh_for t (slice_get w.nacks k)) ks) (list_all (λ k. times_named k ks == 1) ks)
    (all_named (λ k. is_fresh_for t (slice_get w.nacks k)) ks (λ k n. fresh k (h k n).0))
    (all_named (λ k. times_named k ks == 1) ks (λ k n. once k (h k n).1))
  where
    itself : is_fresh_for t (Some (fresh_of t)) ≡ true
    itself = grind (arith, nat_tests)

    fresh : (k : ℕ) → slice_get w.nacks k ≡ Some (fresh_of t) → is_fresh_for t (slice_get w.nacks k) ≡ true
    fresh k e = ap (is_fresh_for t) e ∙ itself

    once : (k : ℕ) → times_named k ks ≡ 1 → nat_eq (times_named k ks) 1 ≡ true
    once k e = ap (λ n. nat_eq n 1) e
