-- How many leaves can be taken alone, when a light is told.
use Rattle.std.proofs.Common.{◌≡◌, ℕ, zero, suc, ◌<◌, take, get_or, ◌+◌, Bool, true, false, not, ◌||◌, cond, List, [], ◌∷◌, length, Option, Some, None, refl, ap, sym, subst, ◌∙◌, arith}
use Rattle.std.specs.List.{filter}
use Rattle.std.specs.Prelude.{OnOk, Result, Ok, Err, option_map}
use Rattle.std.proofs.lemmas.List.{length-map, take_more}
use Rattle.std.proofs.lemmas.List.Folds.{list_any-append}
use Rattle.cml_value.specs.Value.{PlainBase, always, send, recv, swap}
use Rattle.cml_scan.specs.Light.{light, is_always, is_told, lit_by}
use Rattle.cml_scan.specs.Scan.{PlainOffer, offers_of}
use Rattle.cml_scan.specs.Order.{place, Every}
use Rattle.cml_scan.specs.Table.{same_light, has_light}
use Rattle.cml_scan.specs.declared.object.Light.{Light}
use Rattle.cml_scan.proofs.Telling.{same_light_is, same_light_self, light_eq}
use Rattle.cml_index.specs.Slot.{slot_by}
use Rattle.cml_index.specs.Live.{may_meet, is_in, count_at}
use Rattle.cml_index.specs.declared.slot.Slot.TheVariants.{Side, Waiters}
use Rattle.cml_objects.specs.Pairings.{one_lane, side_place}
use Rattle.cml_objects.specs.declared.pairing.PairedId.{PairedId}
use Rattle.cml_objects.specs.declared.pairing.SidePlace.{SidePlace}
use Rattle.cml_index.specs.Slots.{is_slot, lane_of, lane_at, going_at}
use Rattle.cml_index.specs.Posts.{slot_of, told, is_named, slot_of_nack, nacks_in, lit_offers, KeepsPlaces, OnlyReserves, AreIndexed}
use Rattle.cml_index.specs.declared.slot.Slot.{Slot}
use Rattle.cml_index.specs.declared.lanes.Lanes.{Lanes}
use Rattle.cml_index.specs.declared.live.Live.{Live}
use Rattle.cml_scan.specs.World.{PlainEntry}
use Rattle.cml_scan.proofs.Ordered.{Every-weaker}

-- the light is the one that is there
abbrev pub light_is : Light → Option Light → Bool
light_is l None = false
light_is l (Some m) = same_light l m

-- a side over which threads meet has no light
side_dark : (b : PlainBase) (s : SidePlace) → side_place b ≡ Some s → light b ≡ None
side_dark (send c v) s e = refl
side_dark (recv c) s e = refl
side_dark (swap c v) s e = refl
side_dark _ s e = cc

-- a base event stands in the lane of the light that it looks at
slot_light : (l : Light) (b : PlainBase) → is_slot (Waiters l) (slot_of b) ≡ light_is l (light b)
slot_light l b = at (side_place b) refl (light b) refl
  where
    at : (s : Option SidePlace) → side_place b ≡ s → (m : Option Light) → light b ≡ m → is_slot (Waiters l) (slot_by s b) ≡ light_is l m
    at (Some s) e None f = refl
    at (Some s) e (Some m) f = let none : light b ≡ None = side_dark b s e in cc
    at None e None f = ap (λ o. is_slot (Waiters l) (option_map Waiters o)) f
    at None e (Some m) f = ap (λ o. is_slot (Waiters l) (option_map Waiters o)) f ∙ light_eq l m

-- what is always enabled has no light
always_dark : (b : PlainBase) → is_always b ≡ true → light b ≡ None
always_dark (always v) e = refl
always_dark _ e = cc

-- of one base event: where the light is turned on, it can be taken in addition if it waits for that light
pub record IsFlipped (off_ on_ waits : Bool) : Type 0 where
  pub both : on_ ≡ off_ || waits
  pub apart : waits ≡ true → off_ ≡ false

flipped : (l : Light) (off_ on_ : Light → Bool) → off_ l ≡ false
    → ((m : Light) → on_ m ≡ cond (same_light l m) true (off_ m)) → (b : PlainBase)
    → IsFlipped (lit_by off_ b) (lit_by on_ b) (light_is l (light b))
flipped l off_ on_ dark agree b = at (is_always b) refl (light b) refl
  where
    here : (m : Light) → (s : Bool) → same_light l m ≡ s → IsFlipped (off_ m) (on_ m) s
    here m true e =
        let same : l ≡ m = same_light_is l m e in
        let out_ : off_ m ≡ false = sym (ap off_ same) ∙ dark in
        let in_ : on_ m ≡ true = agree m ∙ ap (λ s. cond s true (off_ m)) e in
        record { both = rw (in_, out_) refl; apart = λ _. out_ }
    here m false e =
        let same : on_ m ≡ off_ m = agree m ∙ ap (λ s. cond s true (off_ m)) e in
        record { both = same ∙ or_false (off_ m); apart = λ h. cc }
      where
        or_false : (x : Bool) → x ≡ x || false
        or_false true = refl
        or_false false = refl

    at : (a : Bool) → is_always b ≡ a → (m : Option Light) → light b ≡ m → IsFlipped (a || is_told off_ m) (a || is_told on_ m) (light_is l m)
    at true e None f = record { both = refl; apart = λ h. cc }
    at true e (Some m) f = let none : light b ≡ None = always_dark b e in cc
    at false e None f = record { both = refl; apart = λ h. cc }
    at false e (Some m) f = here m (same_light l m) refl

-- the leaves that can be taken alone where the light is on are those where it is off, and those who wait for it
pub flip_count : (l : Light) (off_ on_ : Light → Bool) → off_ l ≡ false → ((m : Light) → on_ m ≡ cond (same_light l m) true (off_ m)) → (os : List PlainOffer)
    → length (filter (λ o. lit_by on_ o.base) os) ≡ length (filter (λ o. lit_by off_ o.base) os) + length (lane_of slot_of (Waiters l) os)
flip_count l off_ on_ dark agree os = all os ∙ ap (λ n. length (filter (λ o. lit_by off_ o.base) os) + n) (sym (length-map (filter (λ o. is_slot (Waiters l) (slot_of o.base)) os) place))
  where
    step : (a b w : Bool) (o : PlainOffer) (xs ys zs : List PlainOffer) → IsFlipped a b w → length ys
        ≡ length xs + length zs → length (cond b (o ∷ ys) ys)
        ≡ length (cond a (o ∷ xs) xs) + length (cond w (o ∷ zs) zs)
    step true true true o xs ys zs f e = let no_ : true ≡ false = f.apart refl in cc
    step true true false o xs ys zs f e = omega (arith, e)
    step true false w o xs ys zs f e = let no_ : false ≡ true = f.both in cc
    step false true true o xs ys zs f e = omega (arith, e)
    step false true false o xs ys zs f e = let no_ : true ≡ false = f.both in cc
    step false false true o xs ys zs f e = let no_ : false ≡ true = f.both in cc
    step false false false o xs ys zs f e = e

    all : (os : List PlainOffer) → length (filter (λ o. lit_by on_ o.base) os) ≡ length (filter (λ o. lit_by off_ o.base) os) + length (filter (λ o. is_slot (Waiters l) (slot_of o.base)) os)
    all [] = refl
    all (o ∷ os) =
        step (lit_by off_ o.base) (lit_by on_ o.base) (is_slot (Waiters l) (slot_of o.base)) o
        (filter (λ x. lit_by off_ x.base) os) (filter (λ x. lit_by on_ x.base) os)
        (filter (λ x. is_slot (Waiters l) (slot_of x.base)) os)
        (subst (IsFlipped (lit_by off_ o.base) (lit_by on_ o.base)) (sym (slot_light l o.base)) (flipped l off_ on_ dark agree o.base)) (all os)

-- where the same is told of each light, the same leaves can be taken alone
pub told_same : (old new : Light → Bool) → ((m : Light) → new m ≡ old m) → (os : List PlainOffer) → filter (λ o. lit_by new o.base) os ≡ filter (λ o. lit_by old o.base) os
told_same old new same os = let whole : new ≡ old = λ i m. same m i in ap (λ t. filter (λ o. lit_by t o.base) os) whole

pub not_true : (b : Bool) → not b ≡ true → b ≡ false
not_true true e = cc
not_true false e = refl

-- a light that was unlit is told to be lit
pub retold_lit : (l : Light) (lit : Bool) (old new : Light → Bool) (changed : Bool) → lit ≡ true → changed ≡ true
    → changed ≡ cond lit (not (old l)) (old l) → ((m : Light) → new m ≡ cond (same_light l m) lit (old m))
    → (os : List PlainOffer)
    → length (filter (λ o. lit_by new o.base) os) ≡ length (filter (λ o. lit_by old o.base) os) + length (lane_of slot_of (Waiters l) os)
retold_lit l true old new changed e is was told os = flip_count l old new (not_true (old l) (sym was ∙ is)) told os
retold_lit l false old new changed e is was told os = cc

-- a light that was lit is told to be unlit
pub retold_unlit : (l : Light) (lit : Bool) (old new : Light → Bool) (changed : Bool) → lit ≡ false → changed ≡ true
    → changed ≡ cond lit (not (old l)) (old l) → ((m : Light) → new m ≡ cond (same_light l m) lit (old m))
    → (os : List PlainOffer)
    → length (filter (λ o. lit_by old o.base) os) ≡ length (filter (λ o. lit_by new o.base) os) + length (lane_of slot_of (Waiters l) os)
retold_unlit l true old new changed e is was told os = cc
retold_unlit l false old new changed e is was told os =
    flip_count l new old (told l ∙ ap (λ s. cond s false (old l)) (same_light_self l)) (λ m. at m (same_light l m) refl) os
  where
    at : (m : Light) (s : Bool) → same_light l m ≡ s → old m ≡ cond s true (new m)
    at m true h = sym (ap old (same_light_is l m h)) ∙ sym was ∙ is
    at m false h = sym (told m ∙ ap (λ s. cond s false (old m)) h)

-- a light is told what is so already
pub retold_same : (l : Light) (lit : Bool) (old new : Light → Bool) (changed : Bool) → changed ≡ false → changed
    ≡ cond lit (not (old l)) (old l) → ((m : Light) → new m ≡ cond (same_light l m) lit (old m)) → (m : Light) → new m
    ≡ old m
retold_same l lit old new changed is was told m = at (same_light l m) refl
  where
    so : (b : Bool) → changed ≡ cond b (not (old l)) (old l) → old l ≡ b
    so true w = flip_ (old l) (sym w ∙ is)
      where
        flip_ : (x : Bool) → not x ≡ false → x ≡ true
        flip_ true e = refl
        flip_ false e = cc
    so false w = sym w ∙ is

    at : (s : Bool) → same_light l m ≡ s → new m ≡ old m
    at true h = told m ∙ ap (λ s. cond s lit (old m)) h ∙ sym (so lit was) ∙ ap old (same_light_is l m h)
    at false h = told m ∙ ap (λ s. cond s lit (old m)) h

-- nothing was told of any light, and no nack's place is lost
pub still_named : (es : List PlainEntry) (lanes after : Lanes) (live live_after : Live) (old new : List (Slot × Bool)) (leaves crossing lit : ℕ)
    → AreIndexed es lanes live old leaves crossing lit → ((k : Slot) → lane_at after k ≡ lane_at lanes k)
    → ((k : Slot) → going_at after k ≡ going_at lanes k) → ((n : PairedId) → is_in live_after n ≡ is_in live n)
    → ((n : PairedId) → count_at live_after n ≡ count_at live n) → ((m : Light) → told new m ≡ told old m)
    → ((k : ℕ) → is_named old (slot_of_nack k) ≡ true → is_named new (slot_of_nack k) ≡ true)
    → AreIndexed es after live_after new leaves crossing lit
still_named es lanes after live live_after old new leaves crossing lit x same still same_live same_counts told_ kept =
    record {
      sorted = x.sorted;
      placed = λ k. same k ∙ x.placed k;
      sides = λ n. same_live n ∙ x.sides n
          ∙ ap (λ ps. may_meet (one_lane n.kind) (length ps) (length (lane_at lanes (Side false n))))
          (sym (same (Side true n))) ∙ ap
          (λ ps. may_meet (one_lane n.kind) (length (lane_at after (Side true n))) (length ps))
          (sym (same (Side false n)));
      counted = λ n on two. same_counts n ∙ x.counted n (sym (same_live n) ∙ on) two ∙ sym (ap length (same (Side true n)));
      still = λ k. still k ∙ x.still k;
      all = x.all;
      cross = x.cross;
      alone = x.alone ∙ sym (ap length (told_same (told old) (told new) told_ (offers_of es)));
      named = Every-weaker (λ k. is_named old (slot_of_nack k)) (λ k. is_named new (slot_of_nack k)) (nacks_in es) kept x.named;
    }

-- places were reserved, and nothing else was done
pub still_indexed : (es : List PlainEntry) (lanes after : Lanes) (live live_after : Live) (old new : List (Slot × Bool)) (leaves crossing lit : ℕ)
    → AreIndexed es lanes live old leaves crossing lit → ((k : Slot) → lane_at after k ≡ lane_at lanes k)
    → ((k : Slot) → going_at after k ≡ going_at lanes k) → ((n : PairedId) → is_in live_after n ≡ is_in live n)
    → ((n : PairedId) → count_at live_after n ≡ count_at live n) → OnlyReserves old new
    → AreIndexed es after live_after new leaves crossing lit
still_indexed es lanes after live live_after old new leaves crossing lit x same still same_live same_counts kept =
    still_named es lanes after live live_after old new leaves crossing lit x same still same_live same_counts kept.same (λ k. kept.named (slot_of_nack k))

-- the same, where lanes and objects stay
pub reserved_indexed : (es : List PlainEntry) (lanes : Lanes) (live : Live) (old new : List (Slot × Bool))
    (leaves crossing lit : ℕ) → AreIndexed es lanes live old leaves crossing lit → OnlyReserves old new
    → AreIndexed es lanes live new leaves crossing lit
reserved_indexed es lanes live old new leaves crossing lit x kept = still_indexed es lanes lanes live live old new leaves crossing lit x (λ k. refl) (λ k. refl) (λ n. refl) (λ n. refl) kept

-- a light was told, and no place is lost
pub told_indexed : (es : List PlainEntry) (lanes : Lanes) (live : Live) (old new : List (Slot × Bool)) (leaves crossing was lit : ℕ)
    → AreIndexed es lanes live old leaves crossing was → lit ≡ length (lit_offers new es) → KeepsPlaces old new → AreIndexed es lanes live new leaves crossing lit
told_indexed es lanes live old new leaves crossing was lit x alone kept =
    record {
      sorted = x.sorted;
      placed = x.placed;
      sides = x.sides;
      counted = x.counted;
      still = x.still;
      all = x.all;
      cross = x.cross;
      alone = alone;
      named = Every-weaker (λ k. is_named old (slot_of_nack k)) (λ k. is_named new (slot_of_nack k)) (nacks_in es) (λ k. kept (slot_of_nack k)) x.named;
    }

same_light-turned : (l m : Light) → same_light l m ≡ same_light m l
same_light-turned l m = at (same_light l m) (same_light m l) refl refl
  where
    at : (s t : Bool) → same_light l m ≡ s → same_light m l ≡ t → s ≡ t
    at true t e f = let same : l ≡ m = same_light_is l m e in sym (subst (λ x. same_light m x ≡ true) (sym same) (same_light_self m)) ∙ f
    at false true e f = let same : m ≡ l = same_light_is m l f in sym e ∙ subst (λ x. same_light l x ≡ true) (sym same) (same_light_self l)
    at false false e f = refl

-- one more light is told
pub told_more : (xs : List Light) (i : ℕ) (d m : Light) (lit old now new : Bool) → i < length xs → new
    ≡ cond (same_light (get_or xs i d) m) lit now → now ≡ cond (has_light (take i xs) m) lit old → new
    ≡ cond (has_light (take (i + 1) xs) m) lit old
told_more xs i d m lit old now new within one before =
    rw (take_more xs i d within, list_any-append (same_light m) (take i xs) (get_or xs i d ∷ []))
    (one ∙ ap (λ b. cond (same_light (get_or xs i d) m) lit b) before
    ∙ ap (λ s. cond s lit (cond (has_light (take i xs) m) lit old)) (same_light-turned (get_or xs i d) m)
    ∙ at (same_light m (get_or xs i d)) (has_light (take i xs) m))
  where
    at : (s h : Bool) → cond s lit (cond h lit old) ≡ cond (h || (s || false)) lit old
    at true true = refl
    at true false = refl
    at false true = refl
    at false false = refl

pub at_place : {X : Type 0} (p : X → Bool) (xs : List X) (i : ℕ) (d : X) → i < length xs → Every p xs → p (get_or xs i d) ≡ true
at_place p [] i d within each = absurd (omega arith)
at_place p (x ∷ xs) zero d within each = each.0
at_place p (x ∷ xs) (suc i) d within each = at_place p xs i d (omega arith) each.1

pub on_ok_both : {A E X Y Z : Type 0} (r : Result A E) → OnOk r X → OnOk r Y → (X → Y → Z) → OnOk r Z
on_ok_both (Ok a) x y f = f x y
on_ok_both (Err e) x y f = tt
