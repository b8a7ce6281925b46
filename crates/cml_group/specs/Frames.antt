-- How a forcing keeps the event: what stands around the place where it goes on, frame by frame, the innermost first. No rule
-- uses this.
use Rattle.std.specs.Prelude.{◌≡◌, ℕ, ◌+◌, ◌≤◌, max, List, [], ◌∷◌, ◌++◌, map, length, Option, Some, None, false}
use Rattle.cml_value.specs.Value.{PlainFunction, PlainEvent, choose, wrap, scope, events}
use Rattle.cml_value.specs.Group.{PlainGroup, groups, groups_depth, groups_nodes}
use Rattle.cml_value.specs.Limits.{events_depth, events_nodes, function_depth, function_nodes, event_fits, max_depth, max_nodes}
use Rattle.cml_group.specs.Force.{event_of}

-- a member of a choice, between those before it, which are forced, and those to come; an event under a wrap; one in a scope
pub data PlainFrame : Type 0 where
  in_choice : List PlainGroup → List PlainEvent → PlainFrame
  in_wrap : PlainFunction → PlainFrame
  in_scope : ℕ → PlainFrame

-- the choice of these forced events and, after them, these events
abbrev pub choice : List PlainGroup → List PlainEvent → PlainEvent
choice gs es = choose (events (map event_of gs ++ es))

-- the event in its frame
abbrev pub framed : PlainFrame → PlainEvent → PlainEvent
framed (in_choice gs es) e = choice gs (e ∷ es)
framed (in_wrap f) e = wrap e f
framed (in_scope k) e = scope k e

-- the event in all its frames
abbrev pub plug : List PlainFrame → PlainEvent → PlainEvent
plug [] e = e
plug (f ∷ fs) e = plug fs (framed f e)

-- the depth and the nodes of a frame without the event in it
abbrev pub side_depth : PlainFrame → ℕ
side_depth (in_choice gs es) = max (groups_depth (groups gs)) (events_depth (events es)) + 1
side_depth (in_wrap f) = function_depth f + 1
side_depth (in_scope k) = 0

abbrev pub side_nodes : PlainFrame → ℕ
side_nodes (in_choice gs es) = groups_nodes (groups gs) + events_nodes (events es) + 1
side_nodes (in_wrap f) = function_nodes f + 1
side_nodes (in_scope k) = 1

-- and of all frames
abbrev pub sides_depth : List PlainFrame → ℕ
sides_depth [] = 0
sides_depth (f ∷ fs) = max (side_depth f + length fs) (sides_depth fs)

abbrev pub sides_nodes : List PlainFrame → ℕ
sides_nodes [] = 0
sides_nodes (f ∷ fs) = side_nodes f + sides_nodes fs

-- how many nodes an event in these frames may have; `None` where no event may stand there
abbrev pub IsRoom : Option ℕ → List PlainFrame → Type 0
IsRoom (Some room) fs = (sides_depth fs ≤ max_depth) × (room + sides_nodes fs ≡ max_nodes)
IsRoom None fs = (e : PlainEvent) → event_fits (plug fs e) ≡ false
