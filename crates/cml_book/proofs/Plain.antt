-- Groups that enter as they are: what is known of them without another walk.
use Rattle.std.proofs.Common.{◌≡◌, ℕ, Bool, true, false, not, nat_lt, ◌&&◌, List, [], ◌∷◌, Option, Some, None, length, refl, ap, sym, ◌∙◌}
use Rattle.std.specs.Prelude.{slice_get}
use Rattle.std.specs.Option.{is_some}
use Rattle.std.specs.List.{list_all, list_any}
use Rattle.std.proofs.lemmas.List.Folds.{list_all-append}
use Rattle.cml_value.specs.Value.{PlainBase, always, send, recv, swap, iget, mtake, mget, mswap, mail_recv, port_recv, join, at_tick, after_ticks, nack}
use Rattle.cml_value.specs.Group.{PlainGroup, never, leaf, choose, wrap, scope, PlainGroups, no_groups, groups_and, bases, leaf_count, scopes, nacks_of, group_fits}
use Rattle.cml_group.specs.LaidOut.{max_leaves}
use Rattle.cml_scan.specs.World.{PlainWorld}
use Rattle.cml_book.specs.declared.refusal.Refusal.{Refusal}
use Rattle.cml_book.specs.declared.refusal.Refusal.TheVariants as refusal
use Rattle.cml_book.specs.Entering.{entered_base, entered, entered_all, is_far}
use Rattle.cml_book.specs.Outcomes.{first_if, first_of_both, thread_refusal}
use Rattle.cml_book.specs.Sync.{base_exists, group_exists, can_enter, sync_refusal}
use Rattle.cml_book.specs.Walks.{enters_as_it_is, enters_quietly, IsWhole, IsQuiet, IsPlain, IsStanding, shape_refusal}
use Rattle.cml_book.specs.Keeping.{has_no_light, is_lightless}
use Rattle.cml_book.proofs.Walks.{bases_of_all, bases-wrap, bases-groups_and, any_far}

both_true : (a b : Bool) → a && b ≡ true → (a ≡ true) × (b ≡ true)
both_true true b h = (refl, h)
both_true false b h = cc

all_so : {X : Type 0} (p q : X → Bool) → ((x : X) → p x ≡ true → q x ≡ true) → (xs : List X) → list_all p xs ≡ true → list_all q xs ≡ true
all_so p q so [] h = refl
all_so p q so (x ∷ xs) h =
    let both = both_true (p x) (list_all p xs) h in
    ap (λ b. b && list_all q xs) (so x both.0) ∙ all_so p q so xs both.1

pub no_nack : (ks : List ℕ) → list_all (λ k. false) ks ≡ true → ks ≡ []
no_nack [] h = refl
no_nack (k ∷ ks) h = cc

-- a base event that enters as it is exists, is near, and stays as it is
exists_so : (w : PlainWorld) (b : PlainBase) → enters_as_it_is w b ≡ true → base_exists w b ≡ true
exists_so w (always v) h = h
exists_so w (send c v) h = h
exists_so w (recv c) h = h
exists_so w (swap s v) h = h
exists_so w (iget i) h = h
exists_so w (mtake m) h = h
exists_so w (mget m) h = h
exists_so w (mswap m v) h = h
exists_so w (mail_recv q) h = h
exists_so w (port_recv q) h = h
exists_so w (join t) h = h
exists_so w (nack k) h = h
exists_so w (at_tick t) h = refl
exists_so w (after_ticks d) h = refl

near_so : (w : PlainWorld) (b : PlainBase) → enters_as_it_is w b ≡ true → not (is_far w.tick b) ≡ true
near_so w (always v) h = refl
near_so w (send c v) h = refl
near_so w (recv c) h = refl
near_so w (swap s v) h = refl
near_so w (iget i) h = refl
near_so w (mtake m) h = refl
near_so w (mget m) h = refl
near_so w (mswap m v) h = refl
near_so w (mail_recv q) h = refl
near_so w (port_recv q) h = refl
near_so w (join t) h = refl
near_so w (nack k) h = refl
near_so w (at_tick t) h = h
near_so w (after_ticks d) h = cc

base_stays : (w : PlainWorld) (tick : ℕ) (b : PlainBase) → enters_as_it_is w b ≡ true → entered_base tick b ≡ b
base_stays w tick (always v) h = refl
base_stays w tick (send c v) h = refl
base_stays w tick (recv c) h = refl
base_stays w tick (swap s v) h = refl
base_stays w tick (iget i) h = refl
base_stays w tick (mtake m) h = refl
base_stays w tick (mget m) h = refl
base_stays w tick (mswap m v) h = refl
base_stays w tick (mail_recv q) h = refl
base_stays w tick (port_recv q) h = refl
base_stays w tick (join t) h = refl
base_stays w tick (nack k) h = refl
base_stays w tick (at_tick t) h = refl
base_stays w tick (after_ticks d) h = cc

-- so the group stays as it is
mutual
  pub group_stays : (w : PlainWorld) (tick : ℕ) (g : PlainGroup) → list_all (enters_as_it_is w) (bases g) ≡ true → entered tick g ≡ g
  group_stays w tick never h = refl
  group_stays w tick (leaf b) h = ap leaf (base_stays w tick b (both_true (enters_as_it_is w b) true h).0)
  group_stays w tick (choose gs) h = ap choose (groups_stay w tick gs h)
  group_stays w tick (wrap g f) h = ap (λ x. wrap x f) (group_stays w tick g (ap (list_all (enters_as_it_is w)) (sym (bases-wrap g f)) ∙ h))
  group_stays w tick (scope k g) h = ap (scope k) (group_stays w tick g h)

  pub groups_stay : (w : PlainWorld) (tick : ℕ) (gs : PlainGroups) → list_all (enters_as_it_is w) (bases_of_all gs) ≡ true → entered_all tick gs ≡ gs
  groups_stay w tick no_groups h = refl
  groups_stay w tick (groups_and g gs) h =
      let p = enters_as_it_is w in
      let both = both_true (list_all p (bases g)) (list_all p (bases_of_all gs)) (sym (list_all-append p (bases g) (bases_of_all gs)) ∙ ap (list_all p) (sym (bases-groups_and g gs)) ∙ h) in
      ap (λ x. groups_and x (entered_all tick gs)) (group_stays w tick g both.0) ∙ ap (groups_and g) (groups_stay w tick gs both.1)

pub plain_exists : (w : PlainWorld) (g : PlainGroup) → IsPlain w g → group_exists w g ≡ true
plain_exists w g plain =
    ap (λ b. b && list_all (λ k. nat_lt k (length w.nacks)) (nacks_of (scopes g))) (all_so (enters_as_it_is w) (base_exists w) (exists_so w) (bases g) plain.enter)
    ∙ ap (list_all (λ k. nat_lt k (length w.nacks))) (no_nack (nacks_of (scopes g)) plain.no_scope)

pub whole_near : (w : PlainWorld) (g : PlainGroup) → IsWhole w g → list_any (is_far w.tick) (bases g) ≡ false
whole_near w g whole =
    any_far w.tick (bases g) ∙ ap not (all_so (enters_as_it_is w) (λ b. not (is_far w.tick b)) (near_so w) (bases g) whole)

pub plain_enters : (w : PlainWorld) (t : ℕ) (g : PlainGroup) → IsPlain w g → can_enter w t (nacks_of (scopes g)) ≡ true
plain_enters w t g plain = ap (can_enter w t) (no_nack (nacks_of (scopes g)) plain.no_scope)

-- it is refused for its thread, or for its size alone
pub plain_refused : (w : PlainWorld) (t : ℕ) (g : PlainGroup) → IsPlain w g → sync_refusal w t g
    ≡ first_of_both (thread_refusal (slice_get w.threads t)) (first_if (nat_lt max_leaves (leaf_count g)) refusal.Leaves (first_if (not (group_fits g)) refusal.Deep None))
plain_refused w t g plain =
    let last : Bool → Option Refusal = λ b. first_if (not b) refusal.Nack None in
    let far : Bool → Option Refusal → Option Refusal = λ b next. first_if b refusal.Far next in
    let sized : Option Refusal → Option Refusal = λ next. first_if (nat_lt max_leaves (leaf_count g)) refusal.Leaves (first_if (not (group_fits g)) refusal.Deep next) in
    let whole : Bool → Option Refusal → Option Refusal = λ b next. first_of_both (thread_refusal (slice_get w.threads t)) (first_if (not b) refusal.Object next) in
    ap (λ b. whole b (sized (far (list_any (is_far w.tick) (bases g)) (last (can_enter w t (nacks_of (scopes g))))))) (plain_exists w g plain)
    ∙ ap (λ b. whole true (sized (far b (last (can_enter w t (nacks_of (scopes g))))))) (whole_near w g plain.enter)
    ∙ ap (λ b. whole true (sized (far false (last b)))) (plain_enters w t g plain)

pub ruleset plain_steps = (plain_refused)

-- a whole group is refused for its thread, for a nack that is not there, or for its size
pub whole_refused : (w : PlainWorld) (t : ℕ) (g : PlainGroup) → IsWhole w g → shape_refusal w t g
    ≡ first_of_both (thread_refusal (slice_get w.threads t)) (first_if (not (list_all (λ k. nat_lt k (length w.nacks)) (nacks_of (scopes g)))) refusal.Object
    (first_if (nat_lt max_leaves (leaf_count g)) refusal.Leaves (first_if (not (group_fits g)) refusal.Deep None)))
whole_refused w t g whole =
    let there = list_all (λ k. nat_lt k (length w.nacks)) (nacks_of (scopes g)) in
    let sized : Bool → Option Refusal = λ b. first_if (nat_lt max_leaves (leaf_count g)) refusal.Leaves (first_if (not (group_fits g)) refusal.Deep (first_if b refusal.Far None)) in
    let all : Bool → Option Refusal → Option Refusal = λ b next. first_of_both (thread_refusal (slice_get w.threads t)) (first_if (not (b && there)) refusal.Object next) in
    ap (λ b. all b (sized (list_any (is_far w.tick) (bases g)))) (all_so (enters_as_it_is w) (base_exists w) (exists_so w) (bases g) whole)
    ∙ ap (λ b. all true (sized b)) (whole_near w g whole)

pub ruleset whole_steps = (whole_refused)

-- a group of which anything is known is whole
pub standing_whole : (w : PlainWorld) (g : PlainGroup) (scoped : Bool) → IsStanding w g (Some scoped) → IsWhole w g
standing_whole w g true stands = stands
standing_whole w g false stands = stands.enter

pub standing_stays : (w : PlainWorld) (g : PlainGroup) (standing : Option Bool) → IsStanding w g standing → is_some standing ≡ true → IsWhole w g
standing_stays w g None stands some = cc
standing_stays w g (Some scoped) stands some = standing_whole w g scoped stands

-- a quiet group is whole, and looks at no light
pub quiet_whole : (w : PlainWorld) (g : PlainGroup) → IsQuiet w g → IsWhole w g
quiet_whole w g quiet = all_so (enters_quietly w) (enters_as_it_is w) (λ b h. (both_true (has_no_light b) (enters_as_it_is w b) h).1) (bases g) quiet

quiet_lightless : (w : PlainWorld) (g : PlainGroup) → IsQuiet w g → is_lightless g ≡ true
quiet_lightless w g quiet = all_so (enters_quietly w) has_no_light (λ b h. (both_true (has_no_light b) (enters_as_it_is w b) h).0) (bases g) quiet

-- so it is as it enters
pub quiet_enters : (w : PlainWorld) (tick : ℕ) (g : PlainGroup) → IsQuiet w g → is_lightless (entered tick g) ≡ true
quiet_enters w tick g quiet = ap is_lightless (group_stays w tick g (quiet_whole w g quiet)) ∙ quiet_lightless w g quiet

pub quiet_stands : (w : PlainWorld) (g : PlainGroup) (scoped : Bool) → IsQuiet w g
    → (scoped ≡ false → list_all (λ k. false) (nacks_of (scopes g)) ≡ true) → IsStanding w g (Some scoped)
quiet_stands w g true quiet none = quiet_whole w g quiet
quiet_stands w g false quiet none = record { enter = quiet_whole w g quiet; no_scope = none refl }

-- the refusals of a whole group that come last, where those before don't fit
pub whole_many : (why : Option Refusal) (there many fits : Bool) → why ≡ None → there ≡ true → not many ≡ false
    → first_of_both why (first_if (not there) refusal.Object (first_if many refusal.Leaves (first_if (not fits) refusal.Deep None))) ≡ Some refusal.Leaves
whole_many why there true fits e h n = rw (e, h) refl
whole_many why there false fits e h n = cc

pub whole_deep : (why : Option Refusal) (there many fits : Bool) → why ≡ None → there ≡ true → not many ≡ true → fits ≡ false
    → first_of_both why (first_if (not there) refusal.Object (first_if many refusal.Leaves (first_if (not fits) refusal.Deep None))) ≡ Some refusal.Deep
whole_deep why there true fits e h n f = cc
whole_deep why there false fits e h n f = rw (e, h, f) refl

pub whole_none : (why : Option Refusal) (there many fits : Bool) → why ≡ None → there ≡ true → not many ≡ true → fits ≡ true
    → first_of_both why (first_if (not there) refusal.Object (first_if many refusal.Leaves (first_if (not fits) refusal.Deep None))) ≡ None
whole_none why there true fits e h n f = cc
whole_none why there false fits e h n f = rw (e, h, f) refl
