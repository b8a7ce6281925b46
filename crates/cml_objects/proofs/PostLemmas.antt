-- A message comes to each of some ports.
use Rattle.std.proofs.Common.{◌≡◌, ◌<◌, ◌++◌, ℕ, zero, suc, List, [], ◌∷◌, Bool, true, false, length, get_or, refl, arith, replicate, ap, sym, ◌∙◌, ◌-◌, add-one}
use Rattle.std.proofs.lemmas.List.{length_push, replicate_more, same_from_push}
use Rattle.std.proofs.lemmas.Option.{slice_get-map}
use Rattle.std.specs.Prelude.{slice_get, if◌then◌else◌, ◌||◌}
use Rattle.cml_value.specs.Value.{PlainValue}
use Rattle.cml_value.specs.declared.number.PortId.{PortId}
use Rattle.cml_objects.specs.PlainQueue.{PlainQueue}
use Rattle.cml_objects.specs.Queues.{is_full_at}
use Rattle.cml_objects.specs.Posts.{port_numbers, unread, any_is_full}

or_false : (a b : Bool) → (a || b) ≡ false → (a ≡ false) × (b ≡ false)
or_false true b h = cc
or_false false b h = (refl, h)

pub open_each : (ports : List PortId) (queues : List (List PlainValue)) → any_is_full (port_numbers ports) queues
    ≡ false → (k : ℕ) (d : PortId) → k < length ports → is_full_at queues (get_or ports k d).0 ≡ false
open_each [] queues h k d l = absurd (omega arith)
open_each (port ∷ ports) queues h zero d l = (or_false (is_full_at queues port.0) (any_is_full (port_numbers ports) queues) h).0
open_each (port ∷ ports) queues h (suc k) d l = open_each ports queues (or_false (is_full_at queues port.0) (any_is_full (port_numbers ports) queues) h).1 k d (omega arith)

pub pop_replicate : (n : ℕ) (v : PlainValue) (xs : List PlainValue) (y : PlainValue) → replicate n v ≡ xs ++ y ∷ [] → (xs ≡ replicate (n - 1) v) × (y ≡ v)
pop_replicate zero v xs y h = absurd (let e : length (replicate 0 v) ≡ length (xs ++ y ∷ []) = ap length h in omega (arith, length_push xs y))
pop_replicate (suc m) v xs y h =
    let e : replicate m v ++ v ∷ [] ≡ xs ++ y ∷ [] = replicate_more m v ∙ (rw add-one h) in
    let p = same_from_push (replicate m v) xs v y e in
    let q : suc m - 1 ≡ m = omega arith in
    (rw q (sym p.0), sym p.1)

pub full_same : (old new : List PlainQueue) (port : ℕ) → slice_get new port ≡ slice_get old port → is_full_at (unread new) port ≡ is_full_at (unread old) port
full_same old new port h =
    let f : PlainQueue → List PlainValue = λ x. x.items in
    rw (slice_get-map f new port, slice_get-map f old port, h) refl
