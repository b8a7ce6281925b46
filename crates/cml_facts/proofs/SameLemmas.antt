-- It does not matter who took from M-variables for which nobody waits.
use Rattle.std.proofs.Common.{◌≡◌, ℕ, suc, Bool, true, false, List, [], ◌∷◌, ◌++◌, map, take, Some, refl, sym, ap, ◌∙◌, ◌⊎◌, inl, inr}
use Rattle.std.specs.Prelude.{◌||◌, if◌then◌else◌, Option, None, option_map, slice_get}
use Rattle.std.specs.List.{list_any}
use Rattle.std.specs.Option.{option_to_list}
use Rattle.std.proofs.lemmas.List.{take-map}
use Rattle.cml_value.specs.Value.{PlainFunction, PlainBase, always, send, recv, swap, iget, mtake, mget, mswap, mail_recv, port_recv, join, at_tick, after_ticks, nack}
use Rattle.cml_value.specs.Group.{bases, leaf_count}
use Rattle.cml_scan.specs.World.{PlainThread, running, pending_on, ended, PlainWorld}
use Rattle.cml_scan.specs.Light.{is_full}
use Rattle.cml_hub.specs.Runs.{terminal}
use Rattle.cml_hub.specs.Courses.{PlainCourse}
use Rattle.cml_phrase.specs.declared.place.Place.{Place}
use Rattle.cml_facts.specs.declared.ending.left.Left.{Left}
use Rattle.cml_facts.specs.declared.ending.left.Stands.TheVariants.{Waits}
use Rattle.cml_facts.specs.declared.ending.standing.Spot.{Spot}
use Rattle.cml_phrase.specs.Events.{event_limit}
use Rattle.cml_facts.specs.Waits.{thread_behind, who_is, object_state, awaited_event, is_on_mvar, waits_on_mvar}
use Rattle.cml_facts.specs.Rings.{blocked_by, blocked_only, next_thread, next_threads, ring_among, told_ring}
use Rattle.cml_facts.specs.Lefts.{stands_of, left_with, left_thread, all_left}
use Rattle.cml_facts.specs.Ends.{scene_of, AreLeft, taker_of}
use Rattle.cml_facts.proofs.OrLemmas.{or_false}

-- the two know the same takers, or it does not matter
abbrev pub SameWhere : (ℕ → Option ℕ) → (ℕ → Option ℕ) → Bool → Type 0
SameWhere f g asked = ((m : ℕ) → f m ≡ g m) ⊎ (asked ≡ false)

same_first : (f g : ℕ → Option ℕ) (a b : Bool) → SameWhere f g (a || b) → SameWhere f g a
same_first f g a b (inl h) = inl h
same_first f g a b (inr h) = inr (or_false a b h).0

same_rest : (f g : ℕ → Option ℕ) (a b : Bool) → SameWhere f g (a || b) → SameWhere f g b
same_rest f g a b (inl h) = inl h
same_rest f g a b (inr h) = inr (or_false a b h).1

same_taker : (f g : ℕ → Option ℕ) (m : ℕ) → SameWhere f g true → f m ≡ g m
same_taker f g m (inl h) = h m
same_taker f g m (inr h) = cc

same_behind : (f g : ℕ → Option ℕ) (b : PlainBase) → SameWhere f g (is_on_mvar b) → thread_behind f b ≡ thread_behind g b
same_behind f g (mtake m) h = same_taker f g m h
same_behind f g (mget m) h = same_taker f g m h
same_behind f g (mswap m v) h = same_taker f g m h
same_behind f g (always v) h = refl
same_behind f g (send c v) h = refl
same_behind f g (recv c) h = refl
same_behind f g (swap s v) h = refl
same_behind f g (iget i) h = refl
same_behind f g (mail_recv b) h = refl
same_behind f g (port_recv p) h = refl
same_behind f g (join t) h = refl
same_behind f g (at_tick t) h = refl
same_behind f g (after_ticks d) h = refl
same_behind f g (nack k) h = refl

same_events : (w : PlainWorld) (began : List PlainFunction) (f g : ℕ → Option ℕ) (bs : List PlainBase)
    → SameWhere f g (list_any is_on_mvar bs) → map (awaited_event w began f) bs ≡ map (awaited_event w began g) bs
same_events w began f g [] h = refl
same_events w began f g (b ∷ bs) h =
    let rest = same_events w began f g bs (same_rest f g (is_on_mvar b) (list_any is_on_mvar bs) h) in
    let e = same_behind f g b (same_first f g (is_on_mvar b) (list_any is_on_mvar bs) h) in
    ap (λ who. record { base = b; state = object_state w b; behind = option_map (who_is began) who } ∷ map (awaited_event w began f) bs) e
    ∙ ap (λ events. awaited_event w began g b ∷ events) rest

same_first_events : (w : PlainWorld) (began : List PlainFunction) (f g : ℕ → Option ℕ) (bs : List PlainBase) (n : ℕ)
    → SameWhere f g (list_any is_on_mvar bs) → map (awaited_event w began f) (take n bs) ≡ map (awaited_event w began g) (take n bs)
same_first_events w began f g bs n h =
    sym (take-map (awaited_event w began f) n bs) ∙ (ap (take n) (same_events w began f g bs h) ∙ take-map (awaited_event w began g) n bs)

same_stands : (w : PlainWorld) (began : List PlainFunction) (f g : ℕ → Option ℕ) (t : PlainThread) → SameWhere f g (waits_on_mvar t) → stands_of w began f t ≡ stands_of w began g t
same_stands w began f g running h = refl
same_stands w began f g (pending_on group) h =
    ap (λ events. Some (Waits (record { events = events; count = leaf_count group }))) (same_first_events w began f g (bases group) event_limit h)
same_stands w began f g ended h = refl

same_lefts : (places : List (List Place)) (c : PlainCourse) (spots : List (Option Spot)) (f g : ℕ → Option ℕ) (k : ℕ) (ts : List PlainThread) → SameWhere f g (list_any waits_on_mvar ts)
    → all_left (scene_of places c f spots) k ts ≡ all_left (scene_of places c g spots) k ts
same_lefts places c spots f g k [] h = refl
same_lefts places c spots f g k (t ∷ ts) h =
    let s = scene_of places c f spots in
    let e = same_stands s.world s.began f g t (same_first f g (waits_on_mvar t) (list_any waits_on_mvar ts) h) in
    ap (λ stands. option_to_list (option_map (left_with s k) stands) ++ all_left s (suc k) ts) e
    ∙ ap (λ lefts. option_to_list (left_thread (scene_of places c g spots) k t) ++ lefts) (same_lefts places c spots f g (suc k) ts (same_rest f g (waits_on_mvar t) (list_any waits_on_mvar ts) h))

same_blocked : (w : PlainWorld) (f g : ℕ → Option ℕ) (b : PlainBase) → SameWhere f g (is_on_mvar b) → blocked_by w f b ≡ blocked_by w g b
same_blocked w f g (mtake m) h = ap (λ taker. if is_full (slice_get w.mvars m) then None else taker) (same_taker f g m h)
same_blocked w f g (mget m) h = ap (λ taker. if is_full (slice_get w.mvars m) then None else taker) (same_taker f g m h)
same_blocked w f g (mswap m v) h = ap (λ taker. if is_full (slice_get w.mvars m) then None else taker) (same_taker f g m h)
same_blocked w f g (always v) h = refl
same_blocked w f g (send c v) h = refl
same_blocked w f g (recv c) h = refl
same_blocked w f g (swap s v) h = refl
same_blocked w f g (iget i) h = refl
same_blocked w f g (mail_recv b) h = refl
same_blocked w f g (port_recv p) h = refl
same_blocked w f g (join t) h = refl
same_blocked w f g (at_tick t) h = refl
same_blocked w f g (after_ticks d) h = refl
same_blocked w f g (nack k) h = refl

same_only : (w : PlainWorld) (f g : ℕ → Option ℕ) (bs : List PlainBase) → SameWhere f g (list_any is_on_mvar bs) → blocked_only w f bs ≡ blocked_only w g bs
same_only w f g [] h = refl
same_only w f g (b ∷ []) h = same_blocked w f g b (same_first f g (is_on_mvar b) false h)
same_only w f g (b ∷ c ∷ bs) h = refl

same_next : (w : PlainWorld) (f g : ℕ → Option ℕ) (t : PlainThread) → SameWhere f g (waits_on_mvar t) → next_thread w f t ≡ next_thread w g t
same_next w f g running h = refl
same_next w f g (pending_on group) h = same_only w f g (bases group) h
same_next w f g ended h = refl

pub same_nexts : (w : PlainWorld) (f g : ℕ → Option ℕ) (ts : List PlainThread) → SameWhere f g (list_any waits_on_mvar ts) → next_threads w f ts ≡ next_threads w g ts
same_nexts w f g [] h = refl
same_nexts w f g (t ∷ ts) h =
    ap (λ n. n ∷ next_threads w f ts) (same_next w f g t (same_first f g (waits_on_mvar t) (list_any waits_on_mvar ts) h))
    ∙ ap (λ ns. next_thread w g t ∷ ns) (same_nexts w f g ts (same_rest f g (waits_on_mvar t) (list_any waits_on_mvar ts) h))

-- and so is the ring that is told
pub same_told : (w : PlainWorld) (f g : ℕ → Option ℕ) → SameWhere f g (list_any waits_on_mvar w.threads) → told_ring w f ≡ told_ring w g
same_told w f g h = ap (λ nexts. if terminal w then ring_among nexts else None) (same_nexts w f g w.threads h)

-- those that are left are the same, whoever of the two took
pub are_left_by : (places : List (List Place)) (c : PlainCourse) (f : ℕ → Option ℕ) (left : List Left)
    → SameWhere f (taker_of c) (list_any waits_on_mvar c.world.threads) → AreLeft places c f left → AreLeft places c (taker_of c) left
are_left_by places c f left h are = record {
  spots = are.spots;
  stand = are.stand;
  left_are = are.left_are ∙ same_lefts places c are.spots f (taker_of c) 0 c.world.threads h;
}
