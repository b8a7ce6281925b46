-- What properties say of a run: of the lines that it printed, and of its end.
use Rattle.std.specs.Prelude.{Bool, true, false, not, ◌||◌, nat_le, List, count_by}
use Rattle.std.specs.List.{list_any, before_first}
use Rattle.cml_properties.specs.declared.kind.PropertyKind.{PropertyKind}
use Rattle.cml_properties.specs.declared.kind.PropertyKind.TheVariants as kind
use Rattle.cml_properties.specs.declared.property.Property.{Property}
use Rattle.cml_properties.specs.declared.property.Property.TheVariants.{Never, Always, Once, Before, SameLines, SameOrder, Empty}
use Rattle.cml_properties.specs.declared.property.Finish.{Finish}
use Rattle.cml_properties.specs.declared.property.Finish.TheVariants.{GoesOn, HasItems}
use Rattle.cml_properties.specs.Lines.{PlainLine}
use Rattle.cml_properties.specs.Patterns.{matches}

abbrev pub kind_of_property : Property → PropertyKind
kind_of_property (Never pattern) = kind.Never
kind_of_property (Always pattern) = kind.Always
kind_of_property (Once pattern) = kind.Once
kind_of_property (Before first later) = kind.Before
kind_of_property SameLines = kind.SameLines
kind_of_property SameOrder = kind.SameOrder
kind_of_property Empty = kind.Empty

abbrev pub is_finished : Finish → Bool
is_finished GoesOn = false
is_finished _ = true

abbrev pub has_items : Finish → Bool
has_items HasItems = true
has_items _ = false

-- Whether a run of these lines keeps the property: no line matches; a line matches, once the run has ended; one line at most matches; none of
-- the lines before the first that matches one pattern matches the other; no item is left at the end. The two that compare runs say nothing of
-- one run.
abbrev pub keeps : Property → List PlainLine → Finish → Bool
keeps (Never pattern) lines finish = not (list_any (matches pattern) lines)
keeps (Always pattern) lines finish = list_any (matches pattern) lines || not (is_finished finish)
keeps (Once pattern) lines finish = nat_le (count_by (matches pattern) lines) 1
keeps (Before first later) lines finish = not (list_any (matches later) (before_first (matches first) lines))
keeps SameLines lines finish = true
keeps SameOrder lines finish = true
keeps Empty lines finish = not (has_items finish)
