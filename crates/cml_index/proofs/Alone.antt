-- A group of one leaf: where it stands, and what is kept of it.
use Rattle.std.proofs.Common.{◌≡◌, ◌<◌, ◌≤◌, ◌+◌, ◌*◌, ◌||◌, Bool, ℕ, true, false, List, [], ◌∷◌, length, map, get_or, cond, Option, Some, None, refl, ap, sym, subst, ◌∙◌, lit<, arith}
use Rattle.std.specs.Prelude.{Result, Ok, Err, OnOk, OnErr, IfSome}
use Rattle.std.specs.List.{filter}
use Rattle.cml_value.specs.Group.{PlainGroup, bases, scopes, nacks_of}
use Rattle.cml_value.specs.declared.number.Tid.{Tid}
use Rattle.cml_scan.specs.declared.meet.Place.{Place}
use Rattle.cml_scan.specs.Order.{Every, Ascends, before}
use Rattle.cml_objects.specs.Lanes.{is_own, is_others, others, with_run}
use Rattle.cml_index.specs.declared.slot.Slot.{Slot}
use Rattle.cml_index.specs.declared.slot.Wait.{Wait}
use Rattle.cml_index.specs.Slot.{same_slot}
use Rattle.cml_index.specs.Slots.{slot_leaves}
use Rattle.cml_index.specs.Waits.{leaf_wait, IsPost, IsLone}
use Rattle.cml_index.proofs.Waits.{is_post}
use Rattle.cml_index.proofs.Walks.{same_slot_is, same_slot_self, with_none, others_all, decide}

-- a list of one is its first
pub one_only : {X : Type 0} (xs : List X) (d : X) → 1 ≤ length xs → length xs < 2 → xs ≡ get_or xs 0 d ∷ []
one_only [] d some few = absurd (omega (arith, some))
one_only (x ∷ []) d some few = refl
one_only (x ∷ y ∷ xs) d some few = absurd (omega (arith, few))

-- what is kept beside it
pub lone_post : (g : PlainGroup) (w : Wait) → IsLone g w → IsPost g (w ∷ [])
lone_post g w l =
    let same : w ∷ [] ≡ map leaf_wait (bases g) = ap (λ v. v ∷ []) l.same ∙ ap (λ h. map leaf_wait (bases h)) (sym l.is) in
    is_post g (w ∷ []) same (lit< tt)

pub lone_scopes : (g : PlainGroup) (w : Wait) → IsLone g w → [] ≡ nacks_of (scopes g)
lone_scopes g w l = ap (λ h. nacks_of (scopes h)) (sym l.is)

-- the lanes once its leaf has come to its slot
pub lone_came : (tid : Tid) (slot k : Slot) (old new : Slot → List Place) → new slot ≡ with_run tid (0 ∷ []) (old slot)
    → ((j : Slot) → same_slot j slot ≡ false → new j ≡ old j) → Ascends before (old k) → Every (is_others tid) (old k)
    → new k ≡ with_run tid (slot_leaves k 0 (Some slot ∷ [])) (old k)
lone_came tid slot k old new here elsewhere up away =
    decide (same_slot k slot)
    (λ on. subst (λ j. new j ≡ with_run tid (0 ∷ []) (old j)) (sym (same_slot_is k slot on)) here
    ∙ ap (λ b. with_run tid (cond b (0 ∷ []) []) (old k)) (sym on))
    (λ off. elsewhere k off ∙ sym (with_none tid (old k) up away) ∙ ap (λ b. with_run tid (cond b (0 ∷ []) []) (old k)) (sym off))

-- so many leaves it has in its own slot, and none elsewhere
pub lone_own : (slot : Slot) → length (slot_leaves slot 0 (Some slot ∷ [])) ≡ 1
lone_own slot = ap (λ b. length {A = ℕ} (cond b (0 ∷ []) [])) (same_slot_self slot)

pub lone_none : (slot k : Slot) → same_slot k slot ≡ false → length (slot_leaves k 0 (Some slot ∷ [])) ≡ 0
lone_none slot k off = ap (λ b. length {A = ℕ} (cond b (0 ∷ []) [])) off

-- the lanes once its leaf has gone from its slot
pub lone_gone : (tid : Tid) (slot k : Slot) (old new : Slot → List Place) → new slot ≡ others tid (old slot)
    → ((j : Slot) → same_slot j slot ≡ false → new j ≡ old j)
    → length (slot_leaves k 0 (Some slot ∷ [])) ≡ length (filter (is_own tid) (old k)) → new k ≡ others tid (old k)
lone_gone tid slot k old new here elsewhere all =
    decide (same_slot k slot)
    (λ on. subst (λ j. new j ≡ others tid (old j)) (sym (same_slot_is k slot on)) here)
    (λ off. elsewhere k off ∙ sym (others_all tid (old k) (sym all ∙ lone_none slot k off)))

-- how much was looked at where its leaf came
pub cost_lone : (t0 t1 t2 n m d : ℕ) → t1 ≤ t0 + (d + 2) → t2 ≤ t1 + m → t2 + (n + 1) * (d + 2) ≤ t0 + (n + 2) * (d + 2) + m
cost_lone t0 t1 t2 n m d one two = omega (arith, one, two)

-- what holds at its slot and at all others holds at each
pub at_slot : (P : Slot → Type 0) (slot : Slot) → P slot → ((j : Slot) → same_slot j slot ≡ false → P j) → (k : Slot) → P k
at_slot P slot here elsewhere k = decide (same_slot k slot) (λ on. subst P (sym (same_slot_is k slot on)) here) (λ off. elsewhere k off)

-- what holds where it went well, and where it did not
pub on_ok : {A E X Y : Type 0} (r : Result A E) → OnOk r X → (X → Y) → OnOk r Y
on_ok (Ok a) x f = f x
on_ok (Err e) x f = tt

pub on_err : {A E X Y : Type 0} (r : Result A E) → OnErr r X → (X → Y) → OnErr r Y
on_err (Ok a) x f = tt
on_err (Err e) x f = f x

pub ok_any : {A E X : Type 0} (r : Result A E) → X → OnOk r X
ok_any (Ok a) x = x
ok_any (Err e) x = tt

pub if_some : {A : Type 0} {P Q : A → Type 0} (o : Option A) → IfSome o P → ((a : A) → P a → Q a) → IfSome o Q
if_some None x f = tt
if_some (Some a) x f = f a x

pub or_none : (b : Bool) → (b || false) ≡ b
or_none true = refl
or_none false = refl
