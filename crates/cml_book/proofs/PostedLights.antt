-- The lights of ports that get a message, or are made.
use Rattle.std.proofs.Common.{◌≡◌, ℕ, ◌<◌, Bool, true, false, not, nat_eq, cond, ◌||◌, ◌&&◌, List, [], ◌∷◌, ◌++◌, length, map, filter, refl, ap, sym, ◌∙◌, arith, Some}
use Rattle.std.specs.Prelude.{slice_get}
use Rattle.std.proofs.lemmas.Bool.Decides.{nat_tests}
use Rattle.cml_value.specs.Value.{PlainValue}
use Rattle.cml_value.specs.declared.number.PortId.{PortId}
use Rattle.cml_scan.specs.World.{PlainWorld}
use Rattle.cml_scan.specs.Light.{has_item, light_of}
use Rattle.cml_scan.specs.Table.{lit_after, has_light, same_light}
use Rattle.cml_scan.specs.declared.object.Light.{Light}
use Rattle.cml_scan.specs.declared.object.Light.TheVariants as of
use Rattle.cml_objects.specs.Queues.{added_at}
use Rattle.cml_objects.specs.Posts.{posted}
use Rattle.cml_book.specs.MakePort.{has_port}
use Rattle.cml_book.specs.Homes.{port_light, first_lights}
use Rattle.cml_book.specs.Telling.{newly_lit, StaysTrue}
use Rattle.cml_book.proofs.ObjectLemmas.{test_push, quiet_push, added_fills, length_added}

symmetric : (a b : ℕ) → nat_eq a b ≡ nat_eq b a
symmetric a b = grind (arith, nat_tests)

-- which ports have a message once some got one
pub posted_fills : (v : PlainValue) (ids : List ℕ) (queues : List (List PlainValue)) (q : ℕ) → ((p : ℕ) → has_port ids p ≡ true → p < length queues)
    → has_item (slice_get (posted v ids queues) q) ≡ has_port ids q || has_item (slice_get queues q)
posted_fills v [] queues q h = refl
posted_fills v (p ∷ ps) queues q h =
    let here : p < length queues = h p (ap (λ (b : Bool). b || has_port ps p) (eq_self p)) in
    let rest : (r : ℕ) → has_port ps r ≡ true → r < length (added_at queues p v) = λ r k. rw (length_added queues p v) (h r (or_right (nat_eq p r) (has_port ps r) k)) in
    posted_fills v ps (added_at queues p v) q rest ∙ ap (λ (b : Bool). has_port ps q || b)
    (added_fills queues p q v here) ∙ join (has_port ps q) (nat_eq q p) (nat_eq p q) (has_item (slice_get queues q))
    (symmetric q p)
  where
    eq_self : (n : ℕ) → nat_eq n n ≡ true
    eq_self n = grind (arith, nat_tests)

    or_right : (a b : Bool) → b ≡ true → a || b ≡ true
    or_right true b e = refl
    or_right false b e = e

    join : (a b c d : Bool) → b ≡ c → a || cond (b || false) true d ≡ (c || a) || d
    join true true c d e = rw (← e) refl
    join true false c d e = rw (← e) refl
    join false true c d e = rw (← e) refl
    join false false c d e = rw (← e) refl

-- the lights of the ports for which the message is the first
first_has : (ids : List ℕ) (queues : List (List PlainValue)) (q : PortId) → has_light (first_lights ids queues) (of.Port q) ≡ has_port ids q.0 && not (has_item (slice_get queues q.0))
first_has [] queues q = refl
first_has (p ∷ ps) queues q = at (has_item (slice_get queues p)) (nat_eq q.0 p) refl refl (first_has ps queues q)
  where
    at : (full same : Bool) → has_item (slice_get queues p) ≡ full → nat_eq q.0 p ≡ same → has_light (first_lights ps queues) (of.Port q) ≡ has_port ps q.0 && not (has_item (slice_get queues q.0))
        → has_light (map port_light (cond (not full) (p ∷ filter (λ r. not (has_item (slice_get queues r))) ps) (filter (λ r. not (has_item (slice_get queues r))) ps))) (of.Port q)
        ≡ (nat_eq p q.0 || has_port ps q.0) && not (has_item (slice_get queues q.0))
    at true true e f ih =
        let same : q.0 ≡ p = grind (arith, nat_tests) in
        let full : has_item (slice_get queues q.0) ≡ true = ap (λ (n : ℕ). has_item (slice_get queues n)) same ∙ e in
        ih ∙ (rw full (both (has_port ps q.0) (nat_eq p q.0 || has_port ps q.0)))
      where
        both : (a b : Bool) → a && false ≡ b && false
        both true true = refl
        both true false = refl
        both false true = refl
        both false false = refl
    at true false e f ih = rw (symmetric p q.0, f) ih
    at false true e f ih =
        let same : q.0 ≡ p = grind (arith, nat_tests) in
        let empty : has_item (slice_get queues q.0) ≡ false = ap (λ (n : ℕ). has_item (slice_get queues n)) same ∙ e in
        rw (symmetric p q.0, f, empty) refl
    at false false e f ih = rw (symmetric p q.0, f) ih

no_port_light : (ids : List ℕ) (l : Light) → ((k : ℕ) → same_light l (port_light k) ≡ false) → has_light (map port_light ids) l ≡ false
no_port_light [] l h = refl
no_port_light (p ∷ ps) l h = rw (h p) (no_port_light ps l h)

module _ (w : PlainWorld) (told told' : Light → Bool) where
  pub multicast_true : (ids : List ℕ) (v : PlainValue) → ((p : ℕ) → has_port ids p ≡ true → p < length w.ports)
      → ((l : Light) → told' l ≡ lit_after (first_lights ids w.ports) [] l (told l))
      → StaysTrue w told (record w { ports = posted v ids w.ports }) told'
  multicast_true ids v h lit l t = lit l ∙ at l t
    where
      none : List ℕ
      none = filter (λ r. not (has_item (slice_get w.ports r))) ids

      joined : (a b : Bool) → cond (a && not b) true b ≡ a || b
      joined true true = refl
      joined true false = refl
      joined false true = refl
      joined false false = refl

      at : (l : Light) → told l ≡ light_of w l → lit_after (first_lights ids w.ports) [] l (told l) ≡ light_of (record w { ports = posted v ids w.ports }) l
      at (of.Port q) t = rw (first_has ids w.ports q, t) (joined (has_port ids q.0) (has_item (slice_get w.ports q.0)) ∙ sym (posted_fills v ids w.ports q.0 h))
      at l t = rw (no_port_light none l (λ k. refl)) t

  pub make_port_true : (channels : List (List ℕ)) (items : List PlainValue) (n : ℕ) → n ≡ length w.ports
      → ((l : Light) → told' l ≡ lit_after (newly_lit (not (has_item (Some items))) (port_light n)) [] l (told l))
      → StaysTrue w told (record w { mchans = channels; ports = w.ports ++ items ∷ [] }) told'
  make_port_true channels [] n e lit l t = lit l ∙ at l t
    where
      at : (l : Light) → told l ≡ light_of w l → told l ≡ light_of (record w { mchans = channels; ports = w.ports ++ [] ∷ [] }) l
      at (of.Port q) t = t ∙ sym (quiet_push has_item w.ports q.0 [] refl)
      at l t = t
  make_port_true channels (v ∷ vs) n e lit l t = lit l ∙ (rw e (at l t))
    where
      at : (l : Light) → told l ≡ light_of w l → lit_after (port_light (length w.ports) ∷ []) [] l (told l) ≡ light_of (record w { mchans = channels; ports = w.ports ++ (v ∷ vs) ∷ [] }) l
      at (of.Port q) t = rw t (sym (test_push has_item w.ports q.0 (v ∷ vs) refl))
      at l t = t

-- a new channel lights nothing
pub make_mchan_true : (w : PlainWorld) (told : Light → Bool) (channels : List (List ℕ)) → StaysTrue w told (record w { mchans = channels }) told
make_mchan_true w told channels (of.Port q) t = t
make_mchan_true w told channels l t = t
