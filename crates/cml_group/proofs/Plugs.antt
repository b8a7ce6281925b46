-- An event in its frames: what is unforced in it, what replacing that gives, how deep it is and of how many nodes.
use Rattle.std.proofs.Common.{◌≡◌, ℕ, ◌+◌, max, Some, None, List, [], ◌∷◌, ◌++◌, map, length, drop, ◌≤◌, append-nil, refl, ap, sym, ◌∙◌, arith}
use Rattle.std.proofs.lemmas.List.{drop_all}
use Rattle.cml_value.specs.Value.{PlainFunction, function, func_of, args_of, event, nack, leaf, PlainEvent, choose, events_and, events, PlainValue, values, values_and}
use Rattle.cml_value.specs.Group.{PlainGroup, PlainGroups, no_groups, groups_and, groups, group_depth, groups_depth, group_nodes, groups_nodes}
use Rattle.cml_value.specs.Group.{never as never_group, leaf as leaf_group, choose as choose_group, wrap as wrap_group, scope as scope_group}
use Rattle.cml_value.specs.Limits.{event_depth, events_depth, event_nodes, events_nodes}
use Rattle.cml_group.specs.Force.{PlainNeed, or_else, unforced, unforced_of_all, where_found, replaced, replaced_in_all, with_last, given_nack, event_of, events_of}
use Rattle.cml_group.specs.Frames.{PlainFrame, in_choice, in_wrap, in_scope, choice, framed, plug, side_depth, side_nodes, sides_depth, sides_nodes}

-- nothing is unforced in a forced event
mutual
  pub none_in : (g : PlainGroup) → unforced (event_of g) ≡ None
  none_in never_group = refl
  none_in (leaf_group b) = refl
  none_in (choose_group gs) = none_in_all gs
  none_in (wrap_group g f) = none_in g
  none_in (scope_group k g) = none_in g

  pub none_in_all : (gs : PlainGroups) → unforced_of_all (events_of gs) ≡ None
  none_in_all no_groups = refl
  none_in_all (groups_and g gs) = ap (λ o. or_else o (unforced_of_all (events_of gs))) (none_in g) ∙ none_in_all gs

-- a forced event is as deep, and of as many nodes
mutual
  pub depth_of : (g : PlainGroup) → event_depth (event_of g) ≡ group_depth g
  depth_of never_group = refl
  depth_of (leaf_group b) = refl
  depth_of (choose_group gs) = omega (arith, depth_of_all gs)
  depth_of (wrap_group g f) = omega (arith, depth_of g)
  depth_of (scope_group k g) = omega (arith, depth_of g)

  pub depth_of_all : (gs : PlainGroups) → events_depth (events_of gs) ≡ groups_depth gs
  depth_of_all no_groups = refl
  depth_of_all (groups_and g gs) = omega (arith, depth_of g, depth_of_all gs)

mutual
  pub nodes_of : (g : PlainGroup) → event_nodes (event_of g) ≡ group_nodes g
  nodes_of never_group = refl
  nodes_of (leaf_group b) = refl
  nodes_of (choose_group gs) = omega (arith, nodes_of_all gs)
  nodes_of (wrap_group g f) = omega (arith, nodes_of g)
  nodes_of (scope_group k g) = omega (arith, nodes_of g)

  pub nodes_of_all : (gs : PlainGroups) → events_nodes (events_of gs) ≡ groups_nodes gs
  nodes_of_all no_groups = refl
  nodes_of_all (groups_and g gs) = omega (arith, nodes_of g, nodes_of_all gs)

-- one more forced member of a choice
pub choice_push : (gs : List PlainGroup) (g : PlainGroup) (es : List PlainEvent) → choice (gs ++ g ∷ []) es ≡ choice gs (event_of g ∷ es)
choice_push gs g es = ap choose (at gs)
  where
    at : (gs : List PlainGroup) → events (map event_of (gs ++ g ∷ []) ++ es) ≡ events (map event_of gs ++ event_of g ∷ es)
    at [] = refl
    at (h ∷ hs) = ap (λ t. events_and (event_of h) t) (at hs)

-- a choice whose members are all forced
pub choice_whole : (gs : List PlainGroup) → choice gs [] ≡ event_of (choose_group (groups gs))
choice_whole gs = ap choose (at gs)
  where
    at : (gs : List PlainGroup) → events (map event_of gs ++ []) ≡ events_of (groups gs)
    at [] = refl
    at (h ∷ hs) = ap (λ t. events_and (event_of h) t) (at hs)

-- one more frame, the outermost
pub plug_push : (fs : List PlainFrame) (f : PlainFrame) (e : PlainEvent) → plug (fs ++ f ∷ []) e ≡ framed f (plug fs e)
plug_push [] f e = refl
plug_push (g ∷ gs) f e = plug_push gs f (framed g e)

unforced_choice : (gs : List PlainGroup) (e : PlainEvent) (es : List PlainEvent) (a : PlainNeed) → unforced e ≡ Some a → unforced (choice gs (e ∷ es)) ≡ Some a
unforced_choice [] e es a h = ap (λ o. or_else o (unforced_of_all (events es))) h
unforced_choice (g ∷ gs) e es a h =
    ap (λ o. or_else o (unforced_of_all (events (map event_of gs ++ e ∷ es)))) (none_in g) ∙ unforced_choice gs e es a h

replaced_choice : (new : PlainEvent) (gs : List PlainGroup) (e : PlainEvent) (es : List PlainEvent) (a : PlainNeed) → unforced e ≡ Some a →
    replaced_in_all new (events (map event_of gs ++ e ∷ es)) ≡ events (map event_of gs ++ replaced new e ∷ es)
replaced_choice new [] e es a h = ap (λ o. where_found o (events_and (replaced new e) (events es)) (events_and e (replaced_in_all new (events es)))) h
replaced_choice new (g ∷ gs) e es a h =
    let rest = events (map event_of gs ++ e ∷ es) in
    ap (λ o. where_found o (events_and (replaced new (event_of g)) rest) (events_and (event_of g) (replaced_in_all new rest))) (none_in g)
    ∙ ap (λ t. events_and (event_of g) t) (replaced_choice new gs e es a h)

pub unforced_framed : (f : PlainFrame) (e : PlainEvent) (a : PlainNeed) → unforced e ≡ Some a → unforced (framed f e) ≡ Some a
unforced_framed (in_choice gs es) e a h = unforced_choice gs e es a h
unforced_framed (in_wrap f) e a h = h
unforced_framed (in_scope k) e a h = h

replaced_framed : (f : PlainFrame) (new e : PlainEvent) (a : PlainNeed) → unforced e ≡ Some a → replaced new (framed f e) ≡ framed f (replaced new e)
replaced_framed (in_choice gs es) new e a h = ap choose (replaced_choice new gs e es a h)
replaced_framed (in_wrap f) new e a h = refl
replaced_framed (in_scope k) new e a h = refl

-- what is unforced at the place is the first that is unforced in the whole
pub unforced_plug : (fs : List PlainFrame) (e : PlainEvent) (a : PlainNeed) → unforced e ≡ Some a → unforced (plug fs e) ≡ Some a
unforced_plug [] e a h = h
unforced_plug (f ∷ fs) e a h = unforced_plug fs (framed f e) a (unforced_framed f e a h)

-- and to replace it in the whole is to replace it at the place
pub replaced_plug : (fs : List PlainFrame) (new e : PlainEvent) (a : PlainNeed) → unforced e ≡ Some a → replaced new (plug fs e) ≡ plug fs (replaced new e)
replaced_plug [] new e a h = refl
replaced_plug (f ∷ fs) new e a h =
    replaced_plug fs new (framed f e) a (unforced_framed f e a h) ∙ ap (plug fs) (replaced_framed f new e a h)

depth_choice : (gs : List PlainGroup) (e : PlainEvent) (es : List PlainEvent) →
    events_depth (events (map event_of gs ++ e ∷ es)) ≡ max (max (groups_depth (groups gs)) (events_depth (events es))) (event_depth e)
depth_choice [] e es = omega arith
depth_choice (g ∷ gs) e es = omega (arith, depth_of g, depth_choice gs e es)

nodes_choice : (gs : List PlainGroup) (e : PlainEvent) (es : List PlainEvent) →
    events_nodes (events (map event_of gs ++ e ∷ es)) ≡ groups_nodes (groups gs) + events_nodes (events es) + event_nodes e
nodes_choice [] e es = omega arith
nodes_choice (g ∷ gs) e es = omega (arith, nodes_of g, nodes_choice gs e es)

depth_framed : (f : PlainFrame) (e : PlainEvent) → event_depth (framed f e) ≡ max (side_depth f) (event_depth e + 1)
depth_framed (in_choice gs es) e = omega (arith, depth_choice gs e es)
depth_framed (in_wrap f) e = omega arith
depth_framed (in_scope k) e = omega arith

nodes_framed : (f : PlainFrame) (e : PlainEvent) → event_nodes (framed f e) ≡ side_nodes f + event_nodes e
nodes_framed (in_choice gs es) e = omega (arith, nodes_choice gs e es)
nodes_framed (in_wrap f) e = omega arith
nodes_framed (in_scope k) e = omega arith

-- the depth and the nodes of the whole, by those of its frames and of what stands in them
pub depth_plug : (fs : List PlainFrame) (e : PlainEvent) → event_depth (plug fs e) ≡ max (sides_depth fs) (length fs + event_depth e)
depth_plug [] e = omega arith
depth_plug (f ∷ fs) e = omega (arith, depth_plug fs (framed f e), depth_framed f e)

pub nodes_plug : (fs : List PlainFrame) (e : PlainEvent) → event_nodes (plug fs e) ≡ sides_nodes fs + event_nodes e
nodes_plug [] e = omega arith
nodes_plug (f ∷ fs) e = omega (arith, nodes_plug fs (framed f e), nodes_framed f e)

-- the values of a list and one more
pub values_push : (vs : List PlainValue) (v : PlainValue) → values (vs ++ v ∷ []) ≡ with_last v (values vs)
values_push [] v = refl
values_push (w ∷ ws) v = ap (λ t. values_and w t) (values_push ws v)

pub ruleset pushed = (choice_push, choice_whole, plug_push)

pub ruleset measured = (depth_plug, nodes_plug)

-- a function given a nack's event, from its parts
pub given_by : (k n : ℕ) (f : PlainFunction) (vs ws : List PlainValue) (v : PlainValue) → v ≡ event (leaf (nack k)) → n ≡ func_of f → values vs ≡ args_of f → ws ≡ vs ++ v ∷ [] →
    function n (values ws) ≡ given_nack k f
given_by k n (function m us) vs ws v a b c d =
    let last = event (leaf (nack k)) in
    ap (function n) (ap values d ∙ values_push vs v ∙ ap (λ x. with_last x (values vs)) a ∙ ap (with_last last) c) ∙ ap (λ x. function x (with_last last us)) b

-- all of a list was taken over
pub all_taken : {A : Type 0} (xs ys : List A) (i : ℕ) → length ys ≤ i → xs ++ drop i ys ≡ ys → xs ≡ ys
all_taken xs ys i h w = sym (append-nil xs) ∙ ap (λ l. xs ++ l) (sym (drop_all i ys h)) ∙ w
