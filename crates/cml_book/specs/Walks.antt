-- What is checked of a thread and its group before the thread waits.
use Rattle.std.specs.Prelude.{◌≡◌, ◌&&◌, ℕ, Bool, true, false, not, nat_lt, Option, None, Some, slice_get}
use Rattle.std.specs.List.{list_all, list_any}
use Rattle.std.specs.Option.{option_map_or}
use Rattle.cml_value.specs.Value.{PlainBase, at_tick, after_ticks}
use Rattle.cml_value.specs.Group.{PlainGroup, bases, leaf_count, scopes, nacks_of, group_fits}
use Rattle.cml_group.specs.LaidOut.{max_leaves}
use Rattle.cml_scan.specs.World.{PlainThread, running, PlainWorld}
use Rattle.cml_book.specs.declared.refusal.Refusal.{Refusal}
use Rattle.cml_book.specs.declared.refusal.Refusal.TheVariants as refusal
use Rattle.cml_book.specs.Entering.{is_far, max_tick}
use Rattle.cml_book.specs.Outcomes.{first_if, first_of_both, thread_refusal}
use Rattle.cml_book.specs.Sync.{base_exists, group_exists}
use Rattle.cml_book.specs.Keeping.{has_no_light}

-- the thread runs
abbrev pub runs : PlainThread → Bool
runs running = true
runs _ = false

-- there is a thread of this number, and it runs
abbrev pub is_running : PlainWorld → ℕ → Bool
is_running w t = option_map_or runs (slice_get w.threads t) false

-- the first refusal of a wait, without regard to the last one, which is about the nacks of the scopes
abbrev pub shape_refusal : PlainWorld → ℕ → PlainGroup → Option Refusal
shape_refusal w t g =
    first_of_both (thread_refusal (slice_get w.threads t))
    (first_if (not (group_exists w g)) refusal.Object
    (first_if (nat_lt max_leaves (leaf_count g)) refusal.Leaves
    (first_if (not (group_fits g)) refusal.Deep
    (first_if (list_any (is_far w.tick) (bases g)) refusal.Far None))))

-- the base event names what exists, and enters as it is: it waits for no number of ticks from now on, and for no tick above the greatest
abbrev pub enters_as_it_is : PlainWorld → PlainBase → Bool
enters_as_it_is w (after_ticks d) = false
enters_as_it_is w (at_tick t) = not (nat_lt max_tick t)
enters_as_it_is w b = base_exists w b

-- all base events of the group enter as they are
abbrev pub IsWhole : PlainWorld → PlainGroup → Type 0
IsWhole w g = list_all (enters_as_it_is w) (bases g) ≡ true

-- the base event looks at no light, names what exists, and enters as it is: it is over a channel, or always there
abbrev pub enters_quietly : PlainWorld → PlainBase → Bool
enters_quietly w b = has_no_light b && enters_as_it_is w b

-- all base events of the group do so
abbrev pub IsQuiet : PlainWorld → PlainGroup → Type 0
IsQuiet w g = list_all (enters_quietly w) (bases g) ≡ true

-- the group is whole, and no scope is in it
pub record IsPlain (w : PlainWorld) (g : PlainGroup) : Type 0 where
  pub enter : IsWhole w g
  pub no_scope : list_all (λ k. false) (nacks_of (scopes g)) ≡ true

-- what is known of the group: nothing, or that it is whole; and then perhaps that no scope is in it
abbrev pub IsStanding : PlainWorld → PlainGroup → Option Bool → Type 0
IsStanding w g None = Unit {0}
IsStanding w g (Some true) = IsWhole w g
IsStanding w g (Some false) = IsPlain w g
