-- An event says how a forcing keeps it: what stands around the first of its guards and withNacks, frame by frame, and which one it
-- is; and where nothing is unforced, the group. So two forcings are the same event only where they keep the same.
use Rattle.std.proofs.Common.{◌≡◌, ◌↔◌, Some, List, [], ◌∷◌, ◌++◌, map, append_assoc, append-nil, refl, ap, sym, ◌∙◌}
use Rattle.cml_value.specs.Value.{PlainEvent, never, leaf, choose, wrap, guard, with_nack, scope, PlainEvents, no_events, events_and, events}
use Rattle.cml_value.specs.Group.{PlainGroup, PlainGroups, no_groups, groups_and}
use Rattle.cml_value.specs.Group.{never as never_group, leaf as leaf_group, choose as choose_group, wrap as wrap_group, scope as scope_group}
use Rattle.cml_group.specs.Force.{PlainNeed, unforced, where_found, event_of, events_of}
use Rattle.cml_group.specs.Frames.{PlainFrame, in_choice, in_wrap, in_scope, framed, plug}
use Rattle.cml_group.specs.FrameViews.{plain_hole, hole_ask}
use Rattle.cml_group.specs.declared.force.part.Hole.{Hole}
use Rattle.cml_group.specs.declared.force.part.Hole.TheVariants as hole
use Rattle.cml_group.proofs.Plugs.{none_in, unforced_framed, unforced_plug}
use Rattle.cml_group.proofs.Asked.{at_hole}

-- the group that a forced event is
abbrev mutual
  group_of : PlainEvent → PlainGroup
  group_of never = never_group
  group_of (leaf b) = leaf_group b
  group_of (choose es) = choose_group (groups_of es)
  group_of (wrap e f) = wrap_group (group_of e) f
  group_of (guard f) = never_group
  group_of (with_nack f) = never_group
  group_of (scope k e) = scope_group k (group_of e)

  groups_of : PlainEvents → PlainGroups
  groups_of no_events = no_groups
  groups_of (events_and e es) = groups_and (group_of e) (groups_of es)

mutual
  group_back : (g : PlainGroup) → group_of (event_of g) ≡ g
  group_back never_group = refl
  group_back (leaf_group b) = refl
  group_back (choose_group gs) = ap choose_group (groups_back gs)
  group_back (wrap_group g f) = ap (λ x. wrap_group x f) (group_back g)
  group_back (scope_group k g) = ap (scope_group k) (group_back g)

  groups_back : (gs : PlainGroups) → groups_of (events_of gs) ≡ gs
  groups_back no_groups = refl
  groups_back (groups_and g gs) = ap (λ x. groups_and x (groups_of (events_of gs))) (group_back g) ∙ ap (groups_and g) (groups_back gs)

abbrev listed : PlainEvents → List PlainEvent
listed no_events = []
listed (events_and e es) = e ∷ listed es

listed_back : (es : List PlainEvent) → listed (events es) ≡ es
listed_back [] = refl
listed_back (e ∷ es) = ap (λ l. e ∷ l) (listed_back es)

-- what stands around the first that is unforced, the innermost first
abbrev mutual
  frames_of : PlainEvent → List PlainFrame
  frames_of never = []
  frames_of (leaf b) = []
  frames_of (choose es) = frames_of_all [] es
  frames_of (wrap e f) = frames_of e ++ in_wrap f ∷ []
  frames_of (guard f) = []
  frames_of (with_nack f) = []
  frames_of (scope k e) = frames_of e ++ in_scope k ∷ []

  frames_of_all : List PlainGroup → PlainEvents → List PlainFrame
  frames_of_all gs no_events = []
  frames_of_all gs (events_and e es) = where_found (unforced e) (frames_of e ++ in_choice gs (listed es) ∷ []) (frames_of_all (gs ++ group_of e ∷ []) es)

frames_choice : (done gs : List PlainGroup) (e : PlainEvent) (es : List PlainEvent) (a : PlainNeed) → unforced e ≡ Some a →
    frames_of_all done (events (map event_of gs ++ e ∷ es)) ≡ frames_of e ++ in_choice (done ++ gs) es ∷ []
frames_choice done [] e es a h =
    ap (λ o. where_found o (frames_of e ++ in_choice done (listed (events es)) ∷ []) (frames_of_all (done ++ group_of e ∷ []) (events es))) h
    ∙ ap (λ l. frames_of e ++ in_choice done l ∷ []) (listed_back es)
    ∙ ap (λ l. frames_of e ++ in_choice l es ∷ []) (sym (append-nil done))
frames_choice done (g ∷ gs) e es a h =
    let rest = events (map event_of gs ++ e ∷ es) in
    ap (λ o. where_found o (frames_of (event_of g) ++ in_choice done (listed rest) ∷ []) (frames_of_all (done ++ group_of (event_of g) ∷ []) rest)) (none_in g)
    ∙ ap (λ x. frames_of_all (done ++ x ∷ []) rest) (group_back g)
    ∙ frames_choice (done ++ g ∷ []) gs e es a h
    ∙ ap (λ l. frames_of e ++ in_choice l es ∷ []) (append_assoc done (g ∷ []) gs)

frames_framed : (f : PlainFrame) (e : PlainEvent) (a : PlainNeed) → unforced e ≡ Some a → frames_of (framed f e) ≡ frames_of e ++ f ∷ []
frames_framed (in_choice gs es) e a h = frames_choice [] gs e es a h
frames_framed (in_wrap f) e a h = refl
frames_framed (in_scope k) e a h = refl

frames_plug : (fs : List PlainFrame) (e : PlainEvent) (a : PlainNeed) → unforced e ≡ Some a → frames_of (plug fs e) ≡ frames_of e ++ fs
frames_plug [] e a h = sym (append-nil (frames_of e))
frames_plug (f ∷ fs) e a h =
    frames_plug fs (framed f e) a (unforced_framed f e a h) ∙ ap (λ l. l ++ fs) (frames_framed f e a h) ∙ append_assoc (frames_of e) (f ∷ []) fs

no_frames : (h : Hole) → frames_of (plain_hole h) ≡ []
no_frames (hole.Guard f) = refl
no_frames (hole.WithNack f) = refl

-- what the event says of how a forcing keeps it, by how it is kept
pub kept_frames : (fs : List PlainFrame) (h : Hole) → frames_of (plug fs (plain_hole h)) ≡ fs
kept_frames fs h = frames_plug fs (plain_hole h) (hole_ask h) (at_hole h) ∙ ap (λ l. l ++ fs) (no_frames h)

same_ask : (h k : Hole) → Some (hole_ask h) ≡ Some (hole_ask k) → plain_hole h ≡ plain_hole k
same_ask (hole.Guard f) (hole.Guard g) p = cc
same_ask (hole.Guard f) (hole.WithNack g) p = cc
same_ask (hole.WithNack f) (hole.Guard g) p = cc
same_ask (hole.WithNack f) (hole.WithNack g) p = cc

-- two groups are the same event only where they are the same
pub same_whole : (g h : PlainGroup) → (g ≡ h) ↔ (event_of g ≡ event_of h)
same_whole g h = (ap event_of, λ p. sym (group_back g) ∙ ap group_of p ∙ group_back h)

-- in frames, two places are the same event only where they and the frames are the same
pub same_open : (fs gs : List PlainFrame) (h k : Hole) → plug fs (plain_hole h) ≡ plug gs (plain_hole k) → (plain_hole h ≡ plain_hole k) × (fs ≡ gs)
same_open fs gs h k p =
    let asks = sym (unforced_plug fs (plain_hole h) (hole_ask h) (at_hole h)) ∙ ap unforced p ∙ unforced_plug gs (plain_hole k) (hole_ask k) (at_hole k) in
    (same_ask h k asks, sym (kept_frames fs h) ∙ ap frames_of p ∙ kept_frames gs k)

-- an event that is forced is none in which something is unforced
pub forced_apart : (g : PlainGroup) (fs : List PlainFrame) (h : Hole) → event_of g ≡ plug fs (plain_hole h) → ⊥
forced_apart g fs h p =
    let asks = sym (none_in g) ∙ ap unforced p ∙ unforced_plug fs (plain_hole h) (hole_ask h) (at_hole h) in
    absurd (cc)

-- the same places in the same frames are the same event
pub framed_same : (fs gs : List PlainFrame) (d e : PlainEvent) → fs ≡ gs → d ≡ e → plug fs d ≡ plug gs e
framed_same fs gs d e p q = cc
