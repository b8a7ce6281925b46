-- What is known where a wait on a group is not refused.
use Rattle.std.proofs.Common.{◌≡◌, ℕ, ◌≤◌, Bool, true, false, not, nat_lt, ◌&&◌, Option, Some, None, refl, sym, arith}
use Rattle.std.specs.Prelude.{slice_get}
use Rattle.std.specs.List.{list_any}
use Rattle.std.proofs.lemmas.Bool.Decides.{nat_tests}
use Rattle.cml_value.specs.Group.{PlainGroup, leaf_count, bases, scopes, nacks_of, group_fits}
use Rattle.cml_group.specs.LaidOut.{max_leaves}
use Rattle.cml_scan.specs.World.{PlainThread, running, PlainWorld}
use Rattle.cml_book.specs.declared.refusal.Refusal.{Refusal}
use Rattle.cml_book.specs.declared.refusal.Refusal.TheVariants as refusal
use Rattle.cml_book.specs.Entering.{is_far}
use Rattle.cml_book.specs.Outcomes.{first_if, first_of_both, thread_refusal}
use Rattle.cml_book.specs.Sync.{group_exists, can_enter, sync_refusal}

pub record Accepted (w : PlainWorld) (t : ℕ) (g : PlainGroup) : Type 0 where
  pub thread_runs : slice_get w.threads t ≡ Some running
  pub exists : group_exists w g ≡ true
  pub few : leaf_count g ≤ max_leaves
  pub fits : group_fits g ≡ true
  pub near : list_any (is_far w.tick) (bases g) ≡ false
  pub enters : can_enter w t (nacks_of (scopes g)) ≡ true

if_none : (b : Bool) (why : Refusal) (next : Option Refusal) → first_if b why next ≡ None → (b ≡ false) × (next ≡ None)
if_none true why next e = cc
if_none false why next e = (refl, e)

both_none : (why next : Option Refusal) → first_of_both why next ≡ None → (why ≡ None) × (next ≡ None)
both_none None next e = (refl, e)
both_none (Some why) next e = cc

is_not : (b : Bool) → not b ≡ false → b ≡ true
is_not true e = refl
is_not false e = sym e

pub runs_none : (thread : Option PlainThread) → thread_refusal thread ≡ None → thread ≡ Some running
runs_none (Some running) e = refl
runs_none _ e = cc

few_none : (n : ℕ) → nat_lt max_leaves n ≡ false → n ≤ max_leaves
few_none n e = grind (arith, nat_tests)

pub accepted : (w : PlainWorld) (t : ℕ) (g : PlainGroup) → sync_refusal w t g ≡ None → Accepted w t g
accepted w t g e =
    let thread = both_none _ _ e in
    let object = if_none _ _ _ thread.1 in
    let leaves = if_none _ _ _ object.1 in
    let deep = if_none _ _ _ leaves.1 in
    let far = if_none _ _ _ deep.1 in
    let spent = if_none _ _ _ far.1 in
    record {
      thread_runs = runs_none _ thread.0;
      exists = is_not _ object.0;
      few = few_none _ leaves.0;
      fits = is_not _ deep.0;
      near = far.0;
      enters = is_not _ spent.0;
    }

second : (a b : Bool) → a && b ≡ true → b ≡ true
second true b e = e
second false b e = cc

-- the last refusal of a wait for its shape, where the first four don't fit
pub past_four : (why : Option Refusal) (exists many fits far b : Bool) → why ≡ None → exists ≡ true → not many ≡ true → fits ≡ true → far ≡ b
    → first_of_both why (first_if (not exists) refusal.Object (first_if many refusal.Leaves (first_if (not fits) refusal.Deep (first_if far refusal.Far None)))) ≡ first_if b refusal.Far None
past_four why exists many fits far b e there few fit is =
    let small : many ≡ false = elim many as (λ m. not m ≡ true → m ≡ false) [ true ↦ λ h. sym h | false ↦ λ _. refl ] few in
    rw (e, there, small, fit, is) refl
