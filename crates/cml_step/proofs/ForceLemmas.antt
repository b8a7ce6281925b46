-- Events being forced, and the functions that are called for them, agree with the program.
use Rattle.std.proofs.Common.{◌≡◌, ℕ, ◌+◌, true, List, [], ◌∷◌, ◌++◌, refl, ap, sym, ◌∙◌, subst, arith, Option, Some, None}
use Rattle.std.proofs.lemmas.Bool.{and_parts, and_from}
use Rattle.cml_value.specs.Value.{PlainValue, event, PlainValues, no_values, values_and, PlainFunction, function}
use Rattle.cml_value.specs.Value.{func_of, args_of, values, PlainEvent, never, leaf, choose, wrap, guard, with_nack}
use Rattle.cml_value.specs.Value.{scope, PlainEvents, no_events, events_and, nack}
use Rattle.cml_value.specs.Group.{PlainGroup, PlainGroups, no_groups, groups_and}
use Rattle.cml_value.specs.Group as group
use Rattle.cml_check.specs.Heads.{takes}
use Rattle.cml_group.specs.Force.{PlainNeed, calls, needs_nack, unforced, unforced_of_all, or_else, where_found, replaced, replaced_in_all, with_last, given_nack}
use Rattle.cml_group.specs.Force as forced
use Rattle.cml_step.specs.Forced.{group_of, groups_of, with_argument}
use Rattle.cml_step.specs.Terms.{list_of}
use Rattle.cml_step.specs.Agrees.{value_agrees, values_agree, values_count, function_agrees, event_agrees, events_agree}

if_found : (fs : List ℕ) (a : Option PlainNeed) (x y : PlainEvents) → events_agree fs x ≡ true → events_agree fs y ≡ true → events_agree fs (where_found a x y) ≡ true
if_found fs (Some a) x y h g = h
if_found fs None x y h g = g

-- what takes a place agrees, and so does the whole
mutual
  pub replaced_agrees : (fs : List ℕ) (new e : PlainEvent) → event_agrees fs new ≡ true → event_agrees fs e ≡ true → event_agrees fs (replaced new e) ≡ true
  replaced_agrees fs new never h g = refl
  replaced_agrees fs new (leaf b) h g = g
  replaced_agrees fs new (choose es) h g = all_replaced fs new es h g
  replaced_agrees fs new (wrap e f) h g = and_from (event_agrees fs (replaced new e)) _ (replaced_agrees fs new e h (and_parts _ _ g).0) (and_parts (event_agrees fs e) _ g).1
  replaced_agrees fs new (guard f) h g = h
  replaced_agrees fs new (with_nack f) h g = h
  replaced_agrees fs new (scope k e) h g = replaced_agrees fs new e h g

  all_replaced : (fs : List ℕ) (new : PlainEvent) (es : PlainEvents) → event_agrees fs new ≡ true → events_agree fs es ≡ true → events_agree fs (replaced_in_all new es) ≡ true
  all_replaced fs new no_events h g = refl
  all_replaced fs new (events_and e es) h g =
      if_found fs (unforced e) (events_and (replaced new e) es) (events_and e (replaced_in_all new es))
      (and_from (event_agrees fs (replaced new e)) _ (replaced_agrees fs new e h (and_parts _ _ g).0) (and_parts (event_agrees fs e) _ g).1)
      (and_from (event_agrees fs e) _ (and_parts _ _ g).0 (all_replaced fs new es h (and_parts (event_agrees fs e) _ g).1))

-- a place that is found has a function that agrees
abbrev pub PlaceAgrees : List ℕ → Option PlainNeed → Type 0
PlaceAgrees fs (Some (calls f)) = function_agrees fs 0 f ≡ true
PlaceAgrees fs (Some (needs_nack f)) = function_agrees fs 1 f ≡ true
PlaceAgrees fs None = Unit {0}

either_agrees : (fs : List ℕ) (a b : Option PlainNeed) → PlaceAgrees fs a → PlaceAgrees fs b → PlaceAgrees fs (or_else a b)
either_agrees fs (Some a) b h g = h
either_agrees fs None b h g = g

mutual
  pub place_agrees : (fs : List ℕ) (e : PlainEvent) → event_agrees fs e ≡ true → PlaceAgrees fs (unforced e)
  place_agrees fs never g = tt
  place_agrees fs (leaf b) g = tt
  place_agrees fs (choose es) g = some_place_agrees fs es g
  place_agrees fs (wrap e f) g = place_agrees fs e (and_parts _ _ g).0
  place_agrees fs (guard f) g = g
  place_agrees fs (with_nack f) g = g
  place_agrees fs (scope k e) g = place_agrees fs e g

  some_place_agrees : (fs : List ℕ) (es : PlainEvents) → events_agree fs es ≡ true → PlaceAgrees fs (unforced_of_all es)
  some_place_agrees fs no_events g = tt
  some_place_agrees fs (events_and e es) g = either_agrees fs (unforced e) (unforced_of_all es) (place_agrees fs e (and_parts _ _ g).0) (some_place_agrees fs es (and_parts (event_agrees fs e) _ g).1)

last_count : (v : PlainValue) (vs : PlainValues) → values_count (with_last v vs) ≡ values_count vs + 1
last_count v no_values = refl
last_count v (values_and w ws) = omega (arith, last_count v ws)

last_agrees : (fs : List ℕ) (v : PlainValue) (vs : PlainValues) → value_agrees fs v ≡ true → values_agree fs vs ≡ true → values_agree fs (with_last v vs) ≡ true
last_agrees fs v no_values h g = and_from _ _ h refl
last_agrees fs v (values_and w ws) h g = and_from (value_agrees fs w) _ (and_parts _ _ g).0 (last_agrees fs v ws h (and_parts (value_agrees fs w) _ g).1)

-- a function that takes one value more, given one
pub given_agrees_last : (fs : List ℕ) (f : PlainFunction) (v : PlainValue) → function_agrees fs 1 f ≡ true → value_agrees fs v ≡ true → function_agrees fs 0 (with_argument f v) ≡ true
given_agrees_last fs (function f vs) v h g =
    let e : values_count (with_last v vs) + 0 ≡ values_count vs + 1 = omega (arith, last_count v vs) in
    and_from (takes fs f (values_count (with_last v vs) + 0)) _ (ap (takes fs f) e ∙ (and_parts _ _ h).0) (last_agrees fs v vs g (and_parts (takes fs f (values_count vs + 1)) _ h).1)

pub given_nack_agrees : (fs : List ℕ) (f : PlainFunction) (k : ℕ) → function_agrees fs 1 f ≡ true → function_agrees fs 0 (given_nack k f) ≡ true
given_nack_agrees fs (function f vs) k h = given_agrees_last fs (function f vs) (event (leaf (nack k))) h refl

-- a forced event is the group that it came from
mutual
  pub group_of_event : (g : PlainGroup) → group_of (forced.event_of g) ≡ g
  group_of_event group.never = refl
  group_of_event (group.leaf b) = refl
  group_of_event (group.choose gs) = ap group.choose (groups_of_events gs)
  group_of_event (group.wrap g f) = ap (λ h. group.wrap h f) (group_of_event g)
  group_of_event (group.scope k g) = ap (group.scope k) (group_of_event g)

  groups_of_events : (gs : PlainGroups) → groups_of (forced.events_of gs) ≡ gs
  groups_of_events no_groups = refl
  groups_of_events (groups_and g gs) = ap (λ h. groups_and h (groups_of (forced.events_of gs))) (group_of_event g) ∙ ap (groups_and g) (groups_of_events gs)

-- the captured values of a function, as a list
pub list_values : (vs : List PlainValue) → list_of (values vs) ≡ vs
list_values [] = refl
list_values (v ∷ vs) = ap (λ ws. v ∷ ws) (list_values vs)

pub values_last : (v : PlainValue) (vs : List PlainValue) → values (vs ++ v ∷ []) ≡ with_last v (values vs)
values_last v [] = refl
values_last v (w ∷ vs) = ap (values_and w) (values_last v vs)

-- a guard that is next has a function that agrees
pub guard_agrees : (fs : List ℕ) (e : PlainEvent) (f : PlainFunction) → event_agrees fs e ≡ true → unforced e ≡ Some (calls f) → function_agrees fs 0 f ≡ true
guard_agrees fs e f h g = subst (PlaceAgrees fs) g (place_agrees fs e h)

pub given_is : (f : PlainFunction) (n : ℕ) (vs ws : List PlainValue) (v : PlainValue) → n ≡ func_of f → values vs ≡ args_of f → ws ≡ vs ++ v ∷ [] → with_argument f v ≡ function n (values ws)
given_is (function g us) n vs ws v e a i =
    ap (function g) (ap (with_last v) (sym a) ∙ sym (values_last v vs) ∙ ap values (sym i)) ∙ ap (λ m. function m (values ws)) (sym e)

-- the same of a function that is called with its captured values alone
pub captured_is : (f : PlainFunction) (n : ℕ) (vs ws : List PlainValue) → n ≡ func_of f → values vs ≡ args_of f → ws ≡ vs → f ≡ function n (values ws)
captured_is (function g us) n vs ws e a i = ap (function g) (sym a ∙ ap values (sym i)) ∙ ap (λ m. function m (values ws)) (sym e)

pub guard_called : (fs : List ℕ) (e : PlainEvent) (f : PlainFunction) (n : ℕ) (vs ws : List PlainValue) → event_agrees fs e ≡ true → unforced e ≡ Some (calls f) →
    n ≡ func_of f → values vs ≡ args_of f → ws ≡ vs → function_agrees fs 0 (function n (values ws)) ≡ true
guard_called fs e f n vs ws h g m a i = ap (function_agrees fs 0) (sym (captured_is f n vs ws m a i)) ∙ guard_agrees fs e f h g
