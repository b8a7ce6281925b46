-- Where a property breaks, and what is known of a run while its lines come.
use Rattle.std.specs.Prelude.{◌≡◌, ℕ, ◌+◌, ◌≤◌, ◌==◌, ◌&&◌, not, Bool, false, if◌then◌else◌, IsTrue, IsFalse, List, length, take}
use Rattle.std.specs.List.{list_any}
use Rattle.cml_properties.specs.declared.property.Property.{Property}
use Rattle.cml_properties.specs.declared.property.Property.TheVariants.{Never, Always, Once, Before, Empty}
use Rattle.cml_properties.specs.declared.property.Finish.{Finish}
use Rattle.cml_properties.specs.declared.property.Finish.TheVariants.{GoesOn}
use Rattle.cml_properties.specs.declared.watch.Watch.{Watch}
use Rattle.cml_properties.specs.Lines.{PlainLine}
use Rattle.cml_properties.specs.Patterns.{matches}
use Rattle.cml_properties.specs.Properties.{keeps, is_finished, has_items}

-- The lines before this one keep the property, and with it they do not. Behind the last line stands the end of the run: there the property
-- breaks where all lines keep it, and the end does not.
pub record BreaksAt (property : Property) (lines : List PlainLine) (finish : Finish) (at : ℕ) : Type 0 where
  pub within : at ≤ length lines
  pub kept : IsTrue (keeps property (take at lines) GoesOn)
  pub broken : IsFalse (keeps property (take (at + 1) lines) (if at == length lines then finish else GoesOn))

-- the line is one that the property remembers
abbrev pub marks : Property → PlainLine → Bool
marks (Always pattern) line = matches pattern line
marks (Once pattern) line = matches pattern line
marks (Before first later) line = matches first line
marks _ line = false

-- these lines were printed so far, and keep the property
pub record HasSeen (watch : Watch) (lines : List PlainLine) : Type 0 where
  pub marked : watch.marked ≡ list_any (marks watch.property.now) lines
  pub kept : IsTrue (keeps watch.property.now lines GoesOn)

-- whether a line breaks the property behind lines that keep it, where one of these was remembered or none was
abbrev pub is_broken_by : Property → Bool → PlainLine → Bool
is_broken_by (Never pattern) marked line = matches pattern line
is_broken_by (Once pattern) marked line = marked && matches pattern line
is_broken_by (Before first later) marked line = not marked && not (matches first line) && matches later line
is_broken_by _ marked line = false

-- and so the end of the run, behind lines that keep it
abbrev pub is_broken_at_end : Property → Bool → Finish → Bool
is_broken_at_end (Always pattern) marked finish = not marked && is_finished finish
is_broken_at_end Empty marked finish = has_items finish
is_broken_at_end _ marked finish = false
