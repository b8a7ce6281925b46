-- Lines between marks, in numbers.
use Rattle.std.specs.Prelude.{ℕ, ◌+◌, ◌==◌, true, false, if◌then◌else◌, List, [], ◌∷◌, ◌++◌, Option, Some, None, option_map, option_and_then}
use Rattle.std.specs.List.{flat_map}
use Rattle.std.specs.Option.{option_to_list}
use Rattle.cml_picture.specs.declared.layout.link.Link.{Link}
use Rattle.cml_picture.specs.declared.layout.mark.Mark.{Mark}
use Rattle.cml_picture.specs.declared.sheet.feed.Fed.{Fed}
use Rattle.cml_picture.specs.declared.sheet.hold.Held.{Held}
use Rattle.cml_picture.specs.Layouts.{level_of}
use Rattle.cml_picture.specs.Sheets.{PlainSheet}

-- the first mark of the item of this number
abbrev pub mark_of : ℕ → List Mark → Option Mark
mark_of item [] = None
mark_of item (m ∷ ms) = if m.item == item then Some m else mark_of item ms

-- from the mark of the item that fed it, to that of the item that took it
abbrev pub line_between : Mark → Mark → Link
line_between a b = record { is_held = false; thread = a.thread; at = level_of a; other = b.thread; below = level_of b }

abbrev pub fed_link : List Mark → Fed → Option Link
fed_link marks fed = option_and_then (λ a. option_map (line_between a) (mark_of fed.to marks)) (mark_of fed.from marks)

-- from the mark of the item that took it, along the line of its thread: down to the mark of the item that put it back, or to the bottom
abbrev pub line_along : Mark → ℕ → Link
line_along a below = record { is_held = true; thread = a.thread; at = level_of a; other = a.thread; below = below }

abbrev pub held_down : List Mark → ℕ → Option ℕ → Option ℕ
held_down marks bottom None = Some bottom
held_down marks bottom (Some item) = option_map level_of (mark_of item marks)

abbrev pub held_link : List Mark → ℕ → Held → Option Link
held_link marks bottom held = option_and_then (λ a. option_map (line_along a) (held_down marks bottom held.until)) (mark_of held.from marks)

abbrev pub fed_links : List Mark → List Fed → List Link
fed_links marks all = flat_map (λ fed. option_to_list (fed_link marks fed)) all

abbrev pub held_links : List Mark → ℕ → List Held → List Link
held_links marks bottom all = flat_map (λ held. option_to_list (held_link marks bottom held)) all

-- the lines between these marks of a sheet: those along which something is held, and then those from what was fed to what took it
abbrev pub links_of : List Mark → PlainSheet → List Link
links_of marks sheet = held_links marks sheet.stack.bottom sheet.held ++ fed_links marks sheet.stack.fed
