-- How far a run has come, as properties see it.
use Rattle.std.specs.Prelude.{ℕ, Bool, true, false, ◌||◌, nat_lt, if◌then◌else◌, List, [], ◌∷◌, Option, Some, None}
use Rattle.std.specs.List.{list_any}
use Rattle.cml_value.specs.Value.{PlainValue}
use Rattle.cml_scan.specs.World.{PlainWorld}
use Rattle.cml_hub.specs.Courses.{run_of}
use Rattle.cml_hub.specs.Kept.{Kept}
use Rattle.cml_hub.specs.Runs.{ending}
use Rattle.cml_hub.specs.declared.fault.End.{End}
use Rattle.cml_hub.specs.declared.fault.End.TheVariants as end
use Rattle.cml_properties.specs.declared.property.Finish.{Finish}
use Rattle.cml_properties.specs.declared.property.Finish.TheVariants.{GoesOn, Emptied, HasItems}

-- it holds an item
abbrev pub has_an_item : List PlainValue → Bool
has_an_item [] = false
has_an_item (v ∷ vs) = true

-- some mailbox or port holds an item that nobody took
abbrev pub has_items_left : PlainWorld → Bool
has_items_left w = list_any has_an_item w.mailboxes || list_any has_an_item w.ports

-- A run has ended where nothing is left to do; where it was cut off, or something is left to do, it goes on.
abbrev pub finish_in : End → Bool → Finish
finish_in end.Quiet items = if items then HasItems else Emptied
finish_in end.Budget items = GoesOn
finish_in end.Partial items = GoesOn

abbrev pub finish_at : Kept → Finish
finish_at h = finish_in (ending h.budget (run_of h.course)) (has_items_left h.course.world)

-- ---- what private functions say

-- the number is known, and not nought
abbrev pub are_some : Option ℕ → Bool
are_some None = false
are_some (Some n) = nat_lt 0 n
