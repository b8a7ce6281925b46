-- The command by which a thread waits on a group.
use Rattle.std.specs.Prelude.{ℕ, ◌==◌, Bool, true, false, not, ◌&&◌, nat_lt, List, [], ◌∷◌, length, Option, Some, None, Ok, slice_get, slice_set, count_by}
use Rattle.std.specs.List.{list_all, list_any}
use Rattle.cml_value.specs.Value.{PlainBase, always, send, recv, swap, iget, mtake, mget, mswap, mail_recv, port_recv, join, at_tick, after_ticks, nack}
use Rattle.cml_value.specs.Group.{PlainGroup, bases, leaf_count, scopes, nacks_of, group_fits}
use Rattle.cml_group.specs.LaidOut.{max_leaves}
use Rattle.cml_scan.specs.World.{pending_on, PlainNack, live, PlainWorld}
use Rattle.cml_objects.specs.NackCell.{is_fresh_of}
use Rattle.cml_book.specs.declared.refusal.Refusal.{Refusal}
use Rattle.cml_book.specs.declared.refusal.Refusal.TheVariants as refusal
use Rattle.cml_book.specs.Entering.{entered, is_far}
use Rattle.cml_book.specs.Outcomes.{Outcome, refuse_by, first_if, first_of_both, thread_refusal}

-- the list after each of these places was set to this
abbrev pub with_each : {X : Type 0} → List ℕ → X → List X → List X
with_each [] so xs = xs
with_each (k ∷ ks) so xs = with_each ks so (slice_set xs k so)

-- the thread, object or nack that the base event names exists; what its value names is not looked at
abbrev pub base_exists : PlainWorld → PlainBase → Bool
base_exists w (always v) = true
base_exists w (send c v) = nat_lt c w.channels
base_exists w (recv c) = nat_lt c w.channels
base_exists w (swap s v) = nat_lt s w.swaps
base_exists w (iget i) = nat_lt i (length w.ivars)
base_exists w (mtake m) = nat_lt m (length w.mvars)
base_exists w (mget m) = nat_lt m (length w.mvars)
base_exists w (mswap m v) = nat_lt m (length w.mvars)
base_exists w (mail_recv b) = nat_lt b (length w.mailboxes)
base_exists w (port_recv p) = nat_lt p (length w.ports)
base_exists w (join t) = nat_lt t (length w.threads)
base_exists w (at_tick t) = true
base_exists w (after_ticks d) = true
base_exists w (nack k) = nat_lt k (length w.nacks)

-- all that the base events and the scopes of a group name exists
abbrev pub group_exists : PlainWorld → PlainGroup → Bool
group_exists w g = list_all (base_exists w) (bases g) && list_all (λ k. nat_lt k (length w.nacks)) (nacks_of (scopes g))

-- the nack is fresh, and this thread's
abbrev pub is_fresh_for : ℕ → Option PlainNack → Bool
is_fresh_for t None = false
is_fresh_for t (Some n) = is_fresh_of t n

-- how often the nack is named by these scopes
abbrev pub times_named : ℕ → List ℕ → ℕ
times_named k ks = count_by (λ j. j == k) ks

-- the scopes' nacks are each fresh and this thread's, and each is named once
abbrev pub can_enter : PlainWorld → ℕ → List ℕ → Bool
can_enter w t ks = list_all (λ k. is_fresh_for t (slice_get w.nacks k)) ks && list_all (λ k. times_named k ks == 1) ks

-- The first refusal of a wait on a group, if there is one.
abbrev pub sync_refusal : PlainWorld → ℕ → PlainGroup → Option Refusal
sync_refusal w t g =
    first_of_both (thread_refusal (slice_get w.threads t))
    (first_if (not (group_exists w g)) refusal.Object
    (first_if (nat_lt max_leaves (leaf_count g)) refusal.Leaves
    (first_if (not (group_fits g)) refusal.Deep
    (first_if (list_any (is_far w.tick) (bases g)) refusal.Far
    (first_if (not (can_enter w t (nacks_of (scopes g)))) refusal.Nack None)))))

-- the thread waits on a group that has entered, and the nacks of its scopes are live
abbrev pub waiting : PlainWorld → ℕ → PlainGroup → PlainWorld
waiting w t g = record w { threads = slice_set w.threads t (pending_on g); nacks = with_each (nacks_of (scopes g)) live w.nacks }

-- The thread waits on the group (Reppy's sync), in which each `after` counts from now; or that is refused.
abbrev pub sync : PlainWorld → ℕ → PlainGroup → Outcome (Unit {0})
sync w t g = refuse_by (sync_refusal w t g)
    (Ok (waiting w t (entered w.tick g), tt))
