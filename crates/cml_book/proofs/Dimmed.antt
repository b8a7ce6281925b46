-- What a table that was told which lights were turned off still knows.
use Rattle.std.proofs.Common.{◌≡◌, ◌≢◌, ℕ, ◌+◌, ◌<◌, ◌≤◌, Bool, true, false, ◌&&◌, ◌||◌, nat_eq, nat_lt, nat_le}
use Rattle.std.proofs.Common.{cond, List, [], ◌∷◌, ◌++◌, map, refl, ap, sym, ◌∙◌, arith, Option, Some, None}
use Rattle.std.proofs.Common.{slice_index_or, subst}
use Rattle.std.specs.Prelude.{All, Contains, slice_get, slice_set}
use Rattle.std.specs.List.{filter}
use Rattle.std.proofs.lemmas.Bool.Decides.{nat_tests}
use Rattle.std.proofs.lemmas.List.{map-append}
use Rattle.std.proofs.lemmas.List.Folds.{list_any-append}
use Rattle.std.proofs.lemmas.List.Elements.{All-nil, All-cons, All-head, All-tail, All-contains_itself, All-map}
use Rattle.cml_value.specs.Value.{PlainValue, PlainBase, always, iget, mtake, mget, mswap, mail_recv, port_recv, at_tick}
use Rattle.cml_value.specs.Group.{bases}
use Rattle.cml_scan.specs.World.{PlainWorld, PlainEntry, pending, pending_from}
use Rattle.cml_scan.specs.Light.{is_full, has_item, lit, light, light_of, is_told}
use Rattle.cml_scan.specs.Scan.{PlainOffer, leaves_from, offers_of}
use Rattle.cml_scan.specs.Table.{same_light, has_light, lit_after, AgreeFor, AreApart}
use Rattle.cml_scan.specs.declared.object.Light.{Light}
use Rattle.cml_scan.specs.declared.object.Light.TheVariants as of
use Rattle.cml_scan.proofs.Telling.{same_light_is}
use Rattle.cml_book.specs.Clock.{bases_awaited}
use Rattle.cml_book.specs.Commit.{taken, released, rest_of}
use Rattle.cml_book.specs.Keeping.{nack_light, lights_in, times_awaited, Room, Keeps}
use Rattle.cml_book.specs.Leaving.{comes, is_left, unless_item, turned_off, can_give}
use Rattle.cml_book.proofs.Awaited.{awaited_there}
use Rattle.cml_book.proofs.NackLemmas.{get-set_same, get-set_other}

-- a leaf among these waits for the light, where that is a tick
abbrev pub Waits : List PlainBase → Light → Type 0
Waits bs (of.Alarm t) = 1 ≤ times_awaited t bs
Waits bs _ = Unit {0}

map-leaves : (t n : ℕ) (bs : List PlainBase) → map (λ (o : PlainOffer). o.base) (leaves_from t n bs) ≡ bs
map-leaves t n [] = refl
map-leaves t n (b ∷ bs) = ap (λ xs. b ∷ xs) (map-leaves t (n + 1) bs)

map-offers : (es : List PlainEntry) → map (λ (o : PlainOffer). o.base) (offers_of es) ≡ bases_awaited es
map-offers [] = refl
map-offers (e ∷ es) =
    map-append (λ (o : PlainOffer). o.base) (leaves_from e.thread 0 (bases e.group)) (offers_of es)
    ∙ ap (λ xs. xs ++ map (λ (o : PlainOffer). o.base) (offers_of es)) (map-leaves e.thread 0 (bases e.group))
    ∙ ap (λ xs. bases e.group ++ xs) (map-offers es)

unmap : (P : PlainBase → Type 0) (os : List PlainOffer) → All P (map (λ (o : PlainOffer). o.base) os) → All (λ o. P o.base) os
unmap P [] all = All-nil (λ (o : PlainOffer). P o.base)
unmap P (o ∷ os) all =
    All-cons (λ (x : PlainOffer). P x.base) o os (All-head P o.base (map (λ (x : PlainOffer). x.base) os) all)
    (unmap P os (All-tail P o.base (map (λ (x : PlainOffer). x.base) os) all))

all_awaited : (es : List PlainEntry) → All (λ o. Contains (bases_awaited es) o.base) (offers_of es)
all_awaited es = unmap (Contains (bases_awaited es)) (offers_of es) (rw (map-offers es) (All-contains_itself (bases_awaited es)))

is_alarm : (b : PlainBase) (t : ℕ) → light b ≡ Some (of.Alarm t) → b ≡ at_tick t
is_alarm (at_tick u) t e = let same : u ≡ t = cc in ap at_tick same
is_alarm _ t e = cc

waits_for : (bs : List PlainBase) (b : PlainBase) (l : Light) → light b ≡ Some l → Contains bs b → Waits bs l
waits_for bs b (of.Alarm t) e c = awaited_there t bs (subst (Contains bs) (is_alarm b t e) c)
waits_for bs b _ e c = tt

-- what was told of the lights that are waited for is told truly, if each of them is told as it is
pub agree_waited : (es : List PlainEntry) (told told' lit lit' : Light → Bool)
    → ((l : Light) → Waits (bases_awaited es) l → told l ≡ lit l → told' l ≡ lit' l) → AgreeFor es told lit
    → AgreeFor es told' lit'
agree_waited es told told' lit lit' h agree = λ k d small.
    at (slice_index_or (offers_of es) k d) (light (slice_index_or (offers_of es) k d).base) refl (all_awaited es k d small) (agree k d small)
  where
    at : (o : PlainOffer) (l : Option Light) → light o.base ≡ l → Contains (bases_awaited es) o.base
        → is_told told (light o.base) ≡ is_told lit (light o.base) → is_told told' (light o.base)
        ≡ is_told lit' (light o.base)
    at o None e c was = rw e refl
    at o (Some l) e c was =
        let now : told' l ≡ lit' l = h l (waits_for (bases_awaited es) o.base l e c) (rw e at was) in
        rw e now

-- the lights of ticks that are left are those of ticks for which only these leaves wait
pub left_alarm : (all xs ys bs : List PlainBase) (l : Light) → has_light (lights_in (filter (is_left all xs ys) bs)) l ≡ true
    → (t : ℕ) × (l ≡ of.Alarm t) × (times_awaited t all ≡ times_awaited t xs + times_awaited t ys)
left_alarm all xs ys [] l h = cc
left_alarm all xs ys (at_tick u ∷ bs) l h = at (nat_eq (times_awaited u all) (times_awaited u xs + times_awaited u ys)) (same_light l (of.Alarm u)) refl refl h (left_alarm all xs ys bs l)
  where
    at : (s i : Bool) → nat_eq (times_awaited u all) (times_awaited u xs + times_awaited u ys) ≡ s → same_light l (of.Alarm u) ≡ i
        → has_light (lights_in (cond s (at_tick u ∷ filter (is_left all xs ys) bs) (filter (is_left all xs ys) bs))) l ≡ true
        → (has_light (lights_in (filter (is_left all xs ys) bs)) l ≡ true → (t : ℕ) × (l ≡ of.Alarm t) × (times_awaited t all ≡ times_awaited t xs + times_awaited t ys))
        → (t : ℕ) × (l ≡ of.Alarm t) × (times_awaited t all ≡ times_awaited t xs + times_awaited t ys)
    at true true e i f ih = (u, same_light_is l (of.Alarm u) i, grind (arith, nat_tests))
    at true false e i f ih = ih (rw i at f)
    at false i e j f ih = ih f
left_alarm all xs ys (_ ∷ bs) l h = left_alarm all xs ys bs l h

or_false : (b : Bool) → b || false ≡ b
or_false true = refl
or_false false = refl

full_some : (o : Option (Option PlainValue)) → is_full o ≡ true → (held : Option PlainValue) × (o ≡ Some held)
full_some None h = cc
full_some (Some held) h = (held, refl)

item_some : (o : Option (List PlainValue)) → has_item o ≡ true → (vs : List PlainValue) × (o ≡ Some vs)
item_some None h = cc
item_some (Some vs) h = (vs, refl)

alike : (a b : ℕ) → nat_eq a b ≡ true → a ≡ b
alike a b e = grind (arith, nat_tests)

unlike : (a b : ℕ) → nat_eq a b ≡ false → b ≢ a
unlike a b e = grind (arith, nat_tests)

-- a variable that is set, seen from any place
variable_right : (vs : List (Option PlainValue)) (m n : ℕ) (so : Option PlainValue) (s : Bool) → nat_eq n m ≡ s → is_full (slice_get vs m) ≡ true
    → is_full (slice_get (slice_set vs m so) n) ≡ cond s (is_full (Some so)) (is_full (slice_get vs n))
variable_right vs m n so true e h =
    let f = full_some (slice_get vs m) h in
    ap (λ k. is_full (slice_get (slice_set vs m so) k)) (alike n m e) ∙ ap is_full (get-set_same vs m so f.0 f.1)
variable_right vs m n so false e h = ap is_full (get-set_other vs m n so (unlike n m e))

queue_right : (qs : List (List PlainValue)) (b n : ℕ) (rest : List PlainValue) (s : Bool) → nat_eq n b ≡ s → has_item (slice_get qs b) ≡ true
    → has_item (slice_get (slice_set qs b rest) n) ≡ cond s (has_item (Some rest)) (has_item (slice_get qs n))
queue_right qs b n rest true e h =
    let f = item_some (slice_get qs b) h in
    ap (λ k. has_item (slice_get (slice_set qs b rest) k)) (alike n b e) ∙ ap has_item (get-set_same qs b rest f.0 f.1)
queue_right qs b n rest false e h = ap has_item (get-set_other qs b n rest (unlike n b e))

-- a full object that is looked at
full_at : (vs : List (Option PlainValue)) (m n : ℕ) → nat_eq n m ≡ true → is_full (slice_get vs m) ≡ true → is_full (slice_get vs n) ≡ true
full_at vs m n e h = ap (λ k. is_full (slice_get vs k)) (alike n m e) ∙ h

item_at : (qs : List (List PlainValue)) (b n : ℕ) → nat_eq n b ≡ true → has_item (slice_get qs b) ≡ true → has_item (slice_get qs n) ≡ true
item_at qs b n e h = ap (λ k. has_item (slice_get qs k)) (alike n b e) ∙ h

-- what is told of the queue from which something is taken
queue_told : (qs : List (List PlainValue)) (b n : ℕ) (rest : List PlainValue) (l m : Light) → same_light m l ≡ nat_eq n b → has_item (slice_get qs b) ≡ true
    → cond (has_light (unless_item (has_item (Some rest)) l) m) false (has_item (slice_get qs n)) ≡ has_item (slice_get (slice_set qs b rest) n)
queue_told qs b n rest l m same h = at (nat_eq n b) (has_item (Some rest)) refl refl
  where
    at : (s i : Bool) → nat_eq n b ≡ s → has_item (Some rest) ≡ i → cond (has_light (unless_item i l) m) false (has_item (slice_get qs n)) ≡ has_item (slice_get (slice_set qs b rest) n)
    at true true e f = item_at qs b n e h ∙ sym f ∙ sym (queue_right qs b n rest true e h)
    at true false e f = rw (same, e) (sym f ∙ sym (queue_right qs b n rest true e h))
    at false true e f = sym (queue_right qs b n rest false e h)
    at false false e f = rw (same, e) (sym (queue_right qs b n rest false e h))

-- the light that is turned off is told, and no other
pub put_out_right : (w : PlainWorld) (b : PlainBase) → can_give w b ≡ true → (l : Light) → cond (has_light (turned_off w b) l) false (light_of w l) ≡ light_of (taken w b) l
put_out_right w (mtake m) h (of.MVar x) = at (nat_eq x.0 m) refl
  where
    at : (s : Bool) → nat_eq x.0 m ≡ s → cond (s || false) false (is_full (slice_get w.mvars x.0)) ≡ is_full (slice_get (slice_set w.mvars m None) x.0)
    at true e = sym (variable_right w.mvars m x.0 None true e h)
    at false e = sym (variable_right w.mvars m x.0 None false e h)
put_out_right w (mtake m) h l = refl
put_out_right w (mswap m v) h (of.MVar x) = at (nat_eq x.0 m) refl
  where
    at : (s : Bool) → nat_eq x.0 m ≡ s → is_full (slice_get w.mvars x.0) ≡ is_full (slice_get (slice_set w.mvars m (Some v)) x.0)
    at true e = full_at w.mvars m x.0 e h ∙ sym (variable_right w.mvars m x.0 (Some v) true e h)
    at false e = sym (variable_right w.mvars m x.0 (Some v) false e h)
put_out_right w (mswap m v) h l = refl
put_out_right w (mail_recv b) h (of.Mbox x) = queue_told w.mailboxes b x.0 (rest_of (slice_get w.mailboxes b)) (of.Mbox (record { 0 = b })) (of.Mbox x) refl h
put_out_right w (mail_recv b) h l = at (has_item (Some (rest_of (slice_get w.mailboxes b))))
  where
    at : (i : Bool) → cond (has_light (unless_item i (of.Mbox (record { 0 = b }))) l) false (light_of w l) ≡ light_of w l
    at true = refl
    at false = refl
put_out_right w (port_recv p) h (of.Port x) = queue_told w.ports p x.0 (rest_of (slice_get w.ports p)) (of.Port (record { 0 = p })) (of.Port x) refl h
put_out_right w (port_recv p) h l = at (has_item (Some (rest_of (slice_get w.ports p))))
  where
    at : (i : Bool) → cond (has_light (unless_item i (of.Port (record { 0 = p }))) l) false (light_of w l) ≡ light_of w l
    at true = refl
    at false = refl
put_out_right w _ h l = refl

pub put_out_after : (w : PlainWorld) (t n : ℕ) (b : PlainBase) → turned_off (released w t n) b ≡ turned_off w b
put_out_after w t n (always v) = refl
put_out_after w t n _ = refl

pub can_give_after : (w : PlainWorld) (t n : ℕ) (b : PlainBase) → can_give (released w t n) b ≡ can_give w b
can_give_after w t n (always v) = refl
can_give_after w t n _ = refl

-- what can be taken alone is there
pub lit_gives : (w : PlainWorld) (b : PlainBase) → lit w b ≡ true → can_give w b ≡ true
lit_gives w (iget i) h = h
lit_gives w (mtake m) h = h
lit_gives w (mget m) h = h
lit_gives w (mswap m v) h = h
lit_gives w (mail_recv b) h = h
lit_gives w (port_recv p) h = h
lit_gives w _ h = refl

-- taking a base event touches no thread
pub taken-threads : (w : PlainWorld) (b : PlainBase) → (taken w b).threads ≡ w.threads
taken-threads w (always v) = refl
taken-threads w _ = refl

pub taken-nacks : (w : PlainWorld) (b : PlainBase) → (taken w b).nacks ≡ w.nacks
taken-nacks w (always v) = refl
taken-nacks w _ = refl

-- no nack's light is turned off
no_nack_put_out : (w : PlainWorld) (b : PlainBase) (k : ℕ) → has_light (turned_off w b) (nack_light k) ≡ false
no_nack_put_out w (mtake m) k = refl
no_nack_put_out w (mail_recv b) k = at (has_item (Some (rest_of (slice_get w.mailboxes b))))
  where
    at : (i : Bool) → has_light (unless_item i (of.Mbox (record { 0 = b }))) (nack_light k) ≡ false
    at true = refl
    at false = refl
no_nack_put_out w (port_recv p) k = at (has_item (Some (rest_of (slice_get w.ports p))))
  where
    at : (i : Bool) → has_light (unless_item i (of.Port (record { 0 = p }))) (nack_light k) ≡ false
    at true = refl
    at false = refl
no_nack_put_out w _ k = refl

no_nack_left : (all xs ys : List PlainBase) (k : ℕ) → has_light (lights_in (filter (is_left all xs ys) xs)) (nack_light k) ≡ false
no_nack_left all xs ys k = at (has_light (lights_in (filter (is_left all xs ys) xs)) (nack_light k)) refl
  where
    at : (s : Bool) → has_light (lights_in (filter (is_left all xs ys) xs)) (nack_light k) ≡ s → s ≡ false
    at true e = let f = left_alarm all xs ys xs (nack_light k) e in let same : nack_light k ≡ of.Alarm f.0 = f.1 in cc
    at false e = refl

-- the lights that are turned off when these leaves are left, one after the other
abbrev pub left_lights : List PlainBase → List PlainBase → List PlainBase → List Light
left_lights all xs ys = lights_in (filter (is_left all xs ys) xs)

pub single_apart : (w : PlainWorld) (b : PlainBase) (all xs ys : List PlainBase) (k : ℕ) → has_light (turned_off w b ++ left_lights all xs ys) (nack_light k) ≡ false
single_apart w b all xs ys k = list_any-append (same_light (nack_light k)) (turned_off w b) (left_lights all xs ys) ∙ rw (no_nack_put_out w b k, no_nack_left all xs ys k) refl

pub pair_apart : (all xs ys us vs : List PlainBase) (k : ℕ) → has_light (left_lights all xs ys ++ left_lights all us vs) (nack_light k) ≡ false
pair_apart all xs ys us vs k = list_any-append (same_light (nack_light k)) (left_lights all xs ys) (left_lights all us vs) ∙ rw (no_nack_left all xs ys k, no_nack_left all us vs k) refl

pub apart_from : (ks : List ℕ) (lit unlit : List Light) → lit ≡ map nack_light ks → ((k : ℕ) → has_light unlit (nack_light k) ≡ false) → AreApart lit unlit
apart_from ks lit unlit is h = rw is (All-map (λ l. has_light unlit l ≡ false) nack_light ks (λ i d small. h (slice_index_or ks i d)))

nack_apart : (ks : List ℕ) (unlit : List Light) → ((k : ℕ) → has_light unlit (nack_light k) ≡ false) → (l : Light) → has_light (map nack_light ks) l ≡ true → has_light unlit l ≡ false
nack_apart [] unlit h l e = cc
nack_apart (k ∷ ks) unlit h l e = at (same_light l (nack_light k)) refl e (nack_apart ks unlit h l)
  where
    at : (s : Bool) → same_light l (nack_light k) ≡ s → s || has_light (map nack_light ks) l ≡ true → (has_light (map nack_light ks) l ≡ true → has_light unlit l ≡ false) → has_light unlit l ≡ false
    at true f g ih = ap (has_light unlit) (same_light_is l (nack_light k) f) ∙ h k
    at false f g ih = ih g

-- which lights are turned off is told after which are turned on
pub told_dimmed : (ks : List ℕ) (unlit : List Light) → ((k : ℕ) → has_light unlit (nack_light k) ≡ false) → (l : Light) (was : Bool)
    → lit_after (map nack_light ks) unlit l was ≡ cond (has_light unlit l) false (lit_after (map nack_light ks) [] l was)
told_dimmed ks unlit h l was = at (has_light (map nack_light ks) l) (has_light unlit l) (nack_apart ks unlit h l)
  where
    at : (a u : Bool) → (a ≡ true → u ≡ false) → cond a true (cond u false was) ≡ cond u false (cond a true was)
    at true true f = absurd (let no : true ≡ false = f refl in cc)
    at true false f = refl
    at false true f = refl
    at false false f = refl

-- a tick that is left is waited for no more
gone_tick : (bs all xs ys : List PlainBase) → ((t : ℕ) → times_awaited t all ≡ times_awaited t bs + (times_awaited t xs + times_awaited t ys))
    → (l : Light) → Waits bs l → has_light (left_lights all xs ys) l ≡ true → ⊥
gone_tick bs all xs ys h l waits e =
    let f = left_alarm all xs ys xs l e in
    let one : Waits bs (of.Alarm f.0) = subst (Waits bs) f.1 waits in
    let both = f.2 in
    let parts = h f.0 in
    absurd (omega arith)

not_gone : (bs all xs ys : List PlainBase) → ((t : ℕ) → times_awaited t all ≡ times_awaited t bs + (times_awaited t xs + times_awaited t ys))
    → (l : Light) → Waits bs l → has_light (left_lights all xs ys) l ≡ false
not_gone bs all xs ys h l waits = at (has_light (left_lights all xs ys) l) refl
  where
    at : (s : Bool) → has_light (left_lights all xs ys) l ≡ s → s ≡ false
    at true e = absurd (gone_tick bs all xs ys h l waits e)
    at false e = refl

-- what a book keeps when some lights were turned off
pub keeps_dim : (w w' : PlainWorld) (es : List PlainEntry) (told told' : Light → Bool) (room : Room) (unlit : List Light)
    → Keeps w es told room → w'.threads ≡ w.threads → w'.nacks ≡ w.nacks
    → ((l : Light) → told' l ≡ cond (has_light unlit l) false (told l))
    → ((l : Light) → Waits (bases_awaited (pending w)) l → cond (has_light unlit l) false (light_of w l) ≡ light_of w' l)
    → Keeps w' es told' room
keeps_dim w w' es told told' room unlit k threads nacks tells right = record {
  told_groups = k.told_groups ∙ ap (pending_from 0) (sym threads);
  told_lights = subst (λ ts. AgreeFor (pending_from 0 ts) told' (light_of w')) (sym threads)
      (agree_waited (pending w) told told' (light_of w) (light_of w')
      (λ l h e. tells l ∙ ap (cond (has_light unlit l) false) e ∙ right l h) k.told_lights);
  nacks_live = λ j. rw (threads, nacks) (k.nacks_live j);
  roomy = k.roomy;
}

-- one thread has gone on, and its base was taken
pub right_single : (w : PlainWorld) (b : PlainBase) (all xs ys : List PlainBase) → can_give w b ≡ true
    → ((t : ℕ) → times_awaited t all ≡ times_awaited t (bases_awaited (pending w)) + (times_awaited t xs + times_awaited t ys))
    → (l : Light) → Waits (bases_awaited (pending w)) l → cond (has_light (turned_off w b ++ left_lights all xs ys) l) false (light_of w l) ≡ light_of (taken w b) l
right_single w b all xs ys gives h l waits =
    let none = not_gone (bases_awaited (pending w)) all xs ys h l waits in
    let split : has_light (turned_off w b ++ left_lights all xs ys) l
    ≡ has_light (turned_off w b) l = list_any-append (same_light l) (turned_off w b) (left_lights all xs ys)
    ∙ rw none (or_false (has_light (turned_off w b) l)) in
    rw split (put_out_right w b gives l)

-- two threads have gone on
pub right_pair : (w : PlainWorld) (all xs ys : List PlainBase)
    → ((t : ℕ) → times_awaited t all ≡ times_awaited t (bases_awaited (pending w)) + (times_awaited t xs + times_awaited t ys))
    → (l : Light) → Waits (bases_awaited (pending w)) l → cond (has_light (left_lights all xs ys ++ left_lights all ys xs) l) false (light_of w l) ≡ light_of w l
right_pair w all xs ys h l waits =
    let first = not_gone (bases_awaited (pending w)) all xs ys h l waits in
    let second = not_gone (bases_awaited (pending w)) all ys xs (λ t. (let e = h t in omega arith)) l waits in
    let split : has_light (left_lights all xs ys ++ left_lights all ys xs) l ≡ false = list_any-append (same_light l) (left_lights all xs ys) (left_lights all ys xs) ∙ rw (first, second) refl in
    rw split refl

-- what a book keeps when the clock has moved
pub keeps_clock : (w : PlainWorld) (es es' : List PlainEntry) (told told' : Light → Bool) (room : Room) (to : ℕ) (lights : List Light)
    → Keeps w es told room → w.tick ≤ to → es' ≡ es
    → ((l : Light) → told' l ≡ lit_after lights [] l (told l))
    → ((l : Light) → has_light lights l ≡ true → comes w.tick to l ≡ true)
    → ((t : ℕ) → 1 ≤ times_awaited t (bases_awaited (pending w)) → w.tick < t → t ≤ to → has_light lights (of.Alarm t) ≡ true)
    → Keeps (record w { tick = to }) es' told' room
keeps_clock w es es' told told' room to lights k later same tells only all = record {
  told_groups = same ∙ k.told_groups;
  told_lights = agree_waited (pending w) told told' (light_of w) (light_of (record w { tick = to })) right k.told_lights;
  nacks_live = k.nacks_live;
  roomy = rw same k.roomy;
}
  where
    tick : (t : ℕ) (a : Bool) → has_light lights (of.Alarm t) ≡ a → (a ≡ true → nat_lt w.tick t && nat_le t to ≡ true) → (w.tick < t → t ≤ to → a ≡ true) → cond a true (nat_le t w.tick) ≡ nat_le t to
    tick t true e h g = at (nat_lt w.tick t) (nat_le t to) refl refl (h refl)
      where
        at : (x y : Bool) → nat_lt w.tick t ≡ x → nat_le t to ≡ y → x && y ≡ true → true ≡ y
        at true true p q f = refl
        at true false p q f = cc
        at false y p q f = cc
    tick t false e h g = at (nat_le t w.tick) (nat_le t to) refl refl
      where
        at : (x y : Bool) → nat_le t w.tick ≡ x → nat_le t to ≡ y → x ≡ y
        at true true p q = refl
        at false false p q = refl
        at true false p q = absurd (let early : t ≤ w.tick = grind (arith, nat_tests) in let late : to < t = grind (arith, nat_tests) in omega arith)
        at false true p q = absurd (let after : w.tick < t = grind (arith, nat_tests) in let before : t ≤ to = grind (arith, nat_tests) in let no : false ≡ true = g after before in cc)

    none : (l : Light) (a : Bool) → has_light lights l ≡ a → (a ≡ true → false ≡ true) → a ≡ false
    none l true e h = absurd (let no : false ≡ true = h refl in cc)
    none l false e h = refl

    right : (l : Light) → Waits (bases_awaited (pending w)) l → told l ≡ light_of w l → told' l ≡ light_of (record w { tick = to }) l
    right (of.Alarm t) waits e = tells (of.Alarm t) ∙ ap (λ (was : Bool). lit_after lights [] (of.Alarm t) was) e ∙ tick t (has_light lights (of.Alarm t)) refl (only (of.Alarm t)) (all t waits)
    right l waits e = tells l ∙ rw (none l (has_light lights l) refl (only l)) e
