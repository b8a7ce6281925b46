-- What a forcing asks for and how an answer is put in, by how it keeps the event.
use Rattle.std.proofs.Common.{◌≡◌, ℕ, Option, Some, None, List, refl, ap, sym, ◌∙◌}
use Rattle.cml_value.specs.Value.{PlainEvent, guard, scope, PlainFunction}
use Rattle.cml_group.specs.Force.{PlainNeed, calls, unforced, replaced, event_of}
use Rattle.cml_group.specs.Frames.{PlainFrame, plug}
use Rattle.cml_group.specs.FrameViews.{plain_hole, plain_part, hole_ask}
use Rattle.cml_group.specs.declared.force.part.Hole.{Hole}
use Rattle.cml_group.specs.declared.force.part.Hole.TheVariants as hole
use Rattle.cml_group.specs.declared.force.part.Part.{Part}
use Rattle.cml_group.specs.declared.force.part.Part.TheVariants as part
use Rattle.cml_group.proofs.Plugs.{none_in, unforced_plug, replaced_plug}

abbrev pub part_ask : Part → Option PlainNeed
part_ask (part.Whole g) = None
part_ask (part.Open frames h) = Some (hole_ask h)

pub at_hole : (h : Hole) → unforced (plain_hole h) ≡ Some (hole_ask h)
at_hole (hole.Guard f) = refl
at_hole (hole.WithNack f) = refl

in_hole : (h : Hole) (new : PlainEvent) → replaced new (plain_hole h) ≡ new
in_hole (hole.Guard f) new = refl
in_hole (hole.WithNack f) new = refl

pub asked : (p : Part) (e : PlainEvent) → plain_part p ≡ e → unforced e ≡ part_ask p
asked (part.Whole g) e h = ap unforced (sym h) ∙ none_in g
asked (part.Open frames a) e h = ap unforced (sym h) ∙ unforced_plug frames.items (plain_hole a) (hole_ask a) (at_hole a)

-- the event with the answer in its place
abbrev pub part_put : PlainEvent → Part → PlainEvent
part_put new (part.Whole g) = replaced new (event_of g)
part_put new (part.Open frames h) = plug frames.items new

pub put : (p : Part) (new e : PlainEvent) → plain_part p ≡ e → replaced new e ≡ part_put new p
put (part.Whole g) new e h = ap (replaced new) (sym h)
put (part.Open frames a) new e h =
    ap (replaced new) (sym h) ∙ replaced_plug frames.items new (plain_hole a) (hole_ask a) (at_hole a) ∙ ap (plug frames.items) (in_hole a new)

-- a guard in a scope, in its frames
pub in_scope_asks : (fs : List PlainFrame) (k : ℕ) (f : PlainFunction) → unforced (plug fs (scope k (guard f))) ≡ Some (calls f)
in_scope_asks fs k f = unforced_plug fs (scope k (guard f)) (calls f) refl

pub in_scope_put : (fs : List PlainFrame) (k : ℕ) (f : PlainFunction) (new : PlainEvent) → replaced new (plug fs (scope k (guard f))) ≡ plug fs (scope k new)
in_scope_put fs k f new = replaced_plug fs new (scope k (guard f)) (calls f) refl

pub same_need : (a b : PlainNeed) → Some a ≡ Some b → a ≡ b
same_need a b h = cc
