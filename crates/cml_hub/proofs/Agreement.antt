-- What agrees with a program stays so where a row is taken.
use Rattle.std.proofs.Common.{◌≡◌, ℕ, zero, suc, Bool, true, ◌&&◌, List, [], ◌∷◌, ◌++◌, map, refl, ap, sym, ◌∙◌, Option, Some, None}
use Rattle.std.specs.Prelude.{slice_get, slice_set}
use Rattle.std.specs.Option.{option_map_or}
use Rattle.std.proofs.lemmas.Bool.{and_parts, and_from}
use Rattle.cml_value.specs.Value.{PlainValue, PlainFunction, PlainBase, always, send, swap, iget, mtake, mget, mswap, mail_recv, port_recv, after_ticks}
use Rattle.cml_value.specs.Group.{PlainGroup, never, leaf, choose, wrap, scope, PlainGroups, no_groups, groups_and, PlainLeaf, wrapped_by, leaves, leaves_of_all}
use Rattle.cml_group.specs.Force.{event_of, events_of}
use Rattle.cml_scan.specs.World.{PlainThread, running, pending_on, ended, PlainWorld}
use Rattle.cml_scan.specs.Order.{Every}
use Rattle.cml_scan.specs.declared.meet.Meet.{Meet}
use Rattle.cml_scan.specs.declared.meet.Meet.TheVariants.{Single, Pair}
use Rattle.cml_objects.specs.Queues.{added_at}
use Rattle.cml_objects.specs.Posts.{posted}
use Rattle.cml_step.specs.Agrees.{value_agrees, function_agrees, base_agrees, event_agrees, events_agree, functions_agree, all_agree, maybe_agrees, leaf_agrees}
use Rattle.cml_book.specs.Commit.{awaited, group_awaited, base_or_unit, wraps_or_none, base_awaited, variable_value, first_of, rest_of, given, taken, hands, released, after}
use Rattle.cml_objects.specs.Handed.{handed}
use Rattle.cml_book.specs.Entering.{entered, entered_all, entered_base}
use Rattle.cml_hub.specs.Agreeing.{thread_agrees, waits_soon, WorldAgrees, CommittedAgrees}

-- lists
pub every_set : {X : Type 0} (t : X → Bool) (xs : List X) (i : ℕ) (x : X) → Every t xs → t x ≡ true → Every t (slice_set xs i x)
every_set t [] i x h g = tt
every_set t (y ∷ ys) zero x h g = (g, h.1)
every_set t (y ∷ ys) (suc i) x h g = (h.0, every_set t ys i x h.1 g)

pub every_get : {X : Type 0} (t : X → Bool) (xs : List X) (i : ℕ) (x : X) → Every t xs → slice_get xs i ≡ Some x → t x ≡ true
every_get t [] i x h g = absurd (cc)
every_get t (y ∷ ys) zero x h g = let p : y ≡ x = cc in ap t (sym p) ∙ h.0
every_get t (y ∷ ys) (suc i) x h g = every_get t ys i x h.1 g

pub every_append : {X : Type 0} (t : X → Bool) (xs ys : List X) → Every t xs → Every t ys → Every t (xs ++ ys)
every_append t [] ys h g = g
every_append t (x ∷ xs) ys h g = (h.0, every_append t xs ys h.1 g)

functions_push : (fs : List ℕ) (gs : List PlainFunction) (f : PlainFunction) → functions_agree fs gs ≡ true → function_agrees fs 1 f ≡ true → functions_agree fs (gs ++ f ∷ []) ≡ true
functions_push fs [] f h g = and_from (function_agrees fs 1 f) true g refl
functions_push fs (x ∷ xs) f h g = let p = and_parts (function_agrees fs 1 x) (functions_agree fs xs) h in and_from _ _ p.0 (functions_push fs xs f p.1 g)

values_push : (fs : List ℕ) (vs : List PlainValue) (v : PlainValue) → all_agree fs vs ≡ true → value_agrees fs v ≡ true → all_agree fs (vs ++ v ∷ []) ≡ true
values_push fs [] v h g = and_from (value_agrees fs v) true g refl
values_push fs (x ∷ xs) v h g = let p = and_parts (value_agrees fs x) (all_agree fs xs) h in and_from _ _ p.0 (values_push fs xs v p.1 g)

-- groups
every_wrapped : (fs : List ℕ) (f : PlainFunction) (ls : List PlainLeaf) → Every (leaf_agrees fs) ls → function_agrees fs 1 f ≡ true → Every (leaf_agrees fs) (map (wrapped_by f) ls)
every_wrapped fs f [] h g = tt
every_wrapped fs f (l ∷ ls) h g =
    let p = and_parts (base_agrees fs l.base) (functions_agree fs l.wraps) h.0 in
    (and_from _ _ p.0 (functions_push fs l.wraps f p.1 g), every_wrapped fs f ls h.1 g)

mutual
  pub leaves_agree : (fs : List ℕ) (g : PlainGroup) → event_agrees fs (event_of g) ≡ true → Every (leaf_agrees fs) (leaves g)
  leaves_agree fs never h = tt
  leaves_agree fs (leaf b) h = (and_from (base_agrees fs b) true h refl, tt)
  leaves_agree fs (choose gs) h = all_leaves_agree fs gs h
  leaves_agree fs (wrap g f) h = let p = and_parts (event_agrees fs (event_of g)) (function_agrees fs 1 f) h in every_wrapped fs f (leaves g) (leaves_agree fs g p.0) p.1
  leaves_agree fs (scope k g) h = leaves_agree fs g h

  all_leaves_agree : (fs : List ℕ) (gs : PlainGroups) → events_agree fs (events_of gs) ≡ true → Every (leaf_agrees fs) (leaves_of_all gs)
  all_leaves_agree fs no_groups h = tt
  all_leaves_agree fs (groups_and g gs) h =
      let p = and_parts (event_agrees fs (event_of g)) (events_agree fs (events_of gs)) h in
      every_append (leaf_agrees fs) (leaves g) (leaves_of_all gs) (leaves_agree fs g p.0) (all_leaves_agree fs gs p.1)

base_entered : (fs : List ℕ) (tick : ℕ) (b : PlainBase) → base_agrees fs (entered_base tick b) ≡ base_agrees fs b
base_entered fs tick (after_ticks d) = refl
base_entered fs tick _ = refl

mutual
  pub entered_agrees : (fs : List ℕ) (tick : ℕ) (g : PlainGroup) → event_agrees fs (event_of (entered tick g)) ≡ event_agrees fs (event_of g)
  entered_agrees fs tick never = refl
  entered_agrees fs tick (leaf b) = base_entered fs tick b
  entered_agrees fs tick (choose gs) = all_entered_agree fs tick gs
  entered_agrees fs tick (wrap g f) = ap (λ t. t && function_agrees fs 1 f) (entered_agrees fs tick g)
  entered_agrees fs tick (scope k g) = entered_agrees fs tick g

  all_entered_agree : (fs : List ℕ) (tick : ℕ) (gs : PlainGroups) → events_agree fs (events_of (entered_all tick gs)) ≡ events_agree fs (events_of gs)
  all_entered_agree fs tick no_groups = refl
  all_entered_agree fs tick (groups_and g gs) = rw (entered_agrees fs tick g, all_entered_agree fs tick gs) refl

-- what a thread waits on
awaited_agrees : (fs : List ℕ) (ts : List PlainThread) (t : ℕ) → Every (thread_agrees fs) ts → event_agrees fs (event_of (awaited (slice_get ts t))) ≡ true
awaited_agrees fs ts t h = at (slice_get ts t) refl
  where
    at : (o : Option PlainThread) → slice_get ts t ≡ o → event_agrees fs (event_of (awaited o)) ≡ true
    at None e = refl
    at (Some running) e = refl
    at (Some (pending_on g)) e = every_get (thread_agrees fs) ts t (pending_on g) h e
    at (Some ended) e = refl

leaf_at : (fs : List ℕ) (ls : List PlainLeaf) (n : ℕ) → Every (leaf_agrees fs) ls
    → (base_agrees fs (base_or_unit (slice_get ls n)) ≡ true)
    × (functions_agree fs (wraps_or_none (slice_get ls n)) ≡ true)
leaf_at fs [] n h = (refl, refl)
leaf_at fs (l ∷ ls) zero h = and_parts (base_agrees fs l.base) (functions_agree fs l.wraps) h.0
leaf_at fs (l ∷ ls) (suc n) h = leaf_at fs ls n h.1

at_leaf : (fs : List ℕ) (w : PlainWorld) (t n : ℕ) → WorldAgrees fs w → (base_agrees fs (base_awaited w t n) ≡ true)
    × (functions_agree fs (wraps_or_none (slice_get (leaves (group_awaited w t)) n)) ≡ true)
at_leaf fs w t n h = leaf_at fs (leaves (group_awaited w t)) n (leaves_agree fs (group_awaited w t) (awaited_agrees fs w.threads t h.threads))

-- values of objects
variable_agrees : (fs : List ℕ) (xs : List (Option PlainValue)) (i : ℕ) → Every (maybe_agrees fs) xs → value_agrees fs (variable_value (slice_get xs i)) ≡ true
variable_agrees fs [] i h = refl
variable_agrees fs (None ∷ xs) zero h = refl
variable_agrees fs (Some v ∷ xs) zero h = h.0
variable_agrees fs (x ∷ xs) (suc i) h = variable_agrees fs xs i h.1

first_agrees : (fs : List ℕ) (qs : List (List PlainValue)) (i : ℕ) → Every (all_agree fs) qs → value_agrees fs (first_of (slice_get qs i)) ≡ true
first_agrees fs [] i h = refl
first_agrees fs ([] ∷ qs) zero h = refl
first_agrees fs ((v ∷ vs) ∷ qs) zero h = (and_parts (value_agrees fs v) (all_agree fs vs) h.0).0
first_agrees fs (q ∷ qs) (suc i) h = first_agrees fs qs i h.1

rest_agrees : (fs : List ℕ) (qs : List (List PlainValue)) (i : ℕ) → Every (all_agree fs) qs → all_agree fs (rest_of (slice_get qs i)) ≡ true
rest_agrees fs [] i h = refl
rest_agrees fs ([] ∷ qs) zero h = refl
rest_agrees fs ((v ∷ vs) ∷ qs) zero h = (and_parts (value_agrees fs v) (all_agree fs vs) h.0).1
rest_agrees fs (q ∷ qs) (suc i) h = rest_agrees fs qs i h.1

given_agrees : (fs : List ℕ) (w : PlainWorld) (b : PlainBase) → WorldAgrees fs w → base_agrees fs b ≡ true → value_agrees fs (given w b) ≡ true
given_agrees fs w (always v) h g = g
given_agrees fs w (iget i) h g = variable_agrees fs w.ivars i h.ivars
given_agrees fs w (mtake m) h g = variable_agrees fs w.mvars m h.mvars
given_agrees fs w (mget m) h g = variable_agrees fs w.mvars m h.mvars
given_agrees fs w (mswap m v) h g = variable_agrees fs w.mvars m h.mvars
given_agrees fs w (mail_recv b) h g = first_agrees fs w.mailboxes b h.mailboxes
given_agrees fs w (port_recv p) h g = first_agrees fs w.ports p h.ports
given_agrees fs w _ h g = refl

handed_agrees : (fs : List ℕ) (b : PlainBase) → base_agrees fs b ≡ true → value_agrees fs (handed b) ≡ true
handed_agrees fs (send c v) g = g
handed_agrees fs (swap s v) g = g
handed_agrees fs _ g = refl

taken_agrees : (fs : List ℕ) (w : PlainWorld) (b : PlainBase) → WorldAgrees fs w → base_agrees fs b ≡ true → WorldAgrees fs (taken w b)
taken_agrees fs w (mtake m) h g = record {
  threads = h.threads;
  soon = h.soon;
  ivars = h.ivars;
  mvars = every_set
      (maybe_agrees fs) w.mvars m None h.mvars refl;
  mailboxes = h.mailboxes;
  ports = h.ports;
}
taken_agrees fs w (mswap m v) h g = record {
  threads = h.threads;
  soon = h.soon;
  ivars = h.ivars;
  mvars = every_set (maybe_agrees fs) w.mvars m (Some v)
      h.mvars g;
  mailboxes = h.mailboxes;
  ports = h.ports;
}
taken_agrees fs w (mail_recv b) h g = record {
  threads = h.threads;
  soon = h.soon;
  ivars = h.ivars;
  mvars = h.mvars;
  mailboxes = every_set (all_agree fs)
      w.mailboxes b _ h.mailboxes (rest_agrees fs w.mailboxes b h.mailboxes);
  ports = h.ports;
}
taken_agrees fs w (port_recv p) h g = record {
  threads = h.threads;
  soon = h.soon;
  ivars = h.ivars;
  mvars = h.mvars;
  mailboxes = h.mailboxes;
  ports = every_set
      (all_agree fs) w.ports p _ h.ports (rest_agrees fs w.ports p h.ports);
}
taken_agrees fs w _ h g = h

released_agrees : (fs : List ℕ) (w : PlainWorld) (t n : ℕ) → WorldAgrees fs w → WorldAgrees fs (released w t n)
released_agrees fs w t n h = record {
  threads = every_set (thread_agrees fs) w.threads t running h.threads refl;
  soon =
      every_set waits_soon w.threads t running h.soon refl;
  ivars = h.ivars;
  mvars = h.mvars;
  mailboxes = h.mailboxes;
  ports = h.ports;
}

pub after_agrees : (fs : List ℕ) (w : PlainWorld) (row : Meet) → WorldAgrees fs w → WorldAgrees fs (after w row)
after_agrees fs w (Single t n) h = released_agrees fs (taken w (base_awaited w t.0 n)) t.0 n (taken_agrees fs w (base_awaited w t.0 n) h (at_leaf fs w t.0 n h).0)
after_agrees fs w (Pair a i o j) h = released_agrees fs (released w a.0 i) o.0 j (released_agrees fs w a.0 i h)

pub hands_agrees : (fs : List ℕ) (w : PlainWorld) (row : Meet) → WorldAgrees fs w → CommittedAgrees fs (hands w row)
hands_agrees fs w (Single t n) h = let l = at_leaf fs w t.0 n h in ((given_agrees fs w (base_awaited w t.0 n) h l.0, l.1), tt)
hands_agrees fs w (Pair a i o j) h =
    let l = at_leaf fs w a.0 i h in let m = at_leaf fs w o.0 j h in
    ((handed_agrees fs (base_awaited w o.0 j) m.0, l.1), (handed_agrees fs (base_awaited w a.0 i) l.0, m.1))

-- queues
pub added_agrees : (fs : List ℕ) (qs : List (List PlainValue)) (b : ℕ) (v : PlainValue) → Every (all_agree fs) qs → value_agrees fs v ≡ true → Every (all_agree fs) (added_at qs b v)
added_agrees fs qs b v h e = at (slice_get qs b) refl
  where
    at : (o : Option (List PlainValue)) → slice_get qs b ≡ o → Every (all_agree fs) (option_map_or (λ items. slice_set qs b (items ++ v ∷ [])) o qs)
    at None p = h
    at (Some items) p = every_set (all_agree fs) qs b (items ++ v ∷ []) h (values_push fs items v (every_get (all_agree fs) qs b items h p) e)

pub posted_agrees : (fs : List ℕ) (ps : List ℕ) (qs : List (List PlainValue)) (v : PlainValue) → Every (all_agree fs) qs → value_agrees fs v ≡ true → Every (all_agree fs) (posted v ps qs)
posted_agrees fs [] qs v h e = h
posted_agrees fs (p ∷ ps) qs v h e = posted_agrees fs ps (added_at qs p v) v (added_agrees fs qs p v h e) e
