-- What the commands on multicast channels do where they are accepted.
use Rattle.std.proofs.Common.{◌≡◌, ℕ, ◌<◌, true, false, nat_lt, nat_le, List, [], ◌∷◌, ◌++◌, length, map, refl, sym, arith, zero, suc, Some, Ok, Err}
use Rattle.std.specs.Prelude.{slice_get}
use Rattle.std.proofs.lemmas.Bool.Decides.{nat_tests}
use Rattle.std.proofs.lemmas.List.{length-map}
use Rattle.cml_value.specs.Value.{PlainValue}
use Rattle.cml_value.specs.Limits.{value_fits}
use Rattle.cml_value.specs.declared.number.PortId.{PortId}
use Rattle.cml_value.specs.declared.number.McastId.{McastId}
use Rattle.cml_scan.specs.World.{PlainWorld}
use Rattle.cml_objects.specs.PlainQueue.{PlainQueue}
use Rattle.cml_objects.specs.PlainMulticast.{PlainMulticast}
use Rattle.cml_objects.specs.Posts.{any_is_full, posted, says_full}
use Rattle.cml_objects.specs.declared.delivery.PostFault.{PostFault}
use Rattle.cml_objects.specs.declared.delivery.PostFault.TheVariants as post
use Rattle.cml_book.specs.Outcomes.{Does, max_objects}
use Rattle.cml_book.specs.MakePort.{ports_at, with_port, copy_port}
use Rattle.cml_book.specs.Multicast.{multicast, fault_of_post}
use Rattle.cml_book.specs.Homes.{HaveHomes, channel_numbers}
use Rattle.cml_book.specs.Views.{queues_of, ports_of}
use Rattle.cml_book.proofs.PortLemmas.{copy_heard}

-- as many as there are
pub queue_count : (qs : List PlainQueue) → length (queues_of qs) ≡ length qs
queue_count qs = length-map qs (λ (q : PlainQueue). q.items)

pub channel_count : (cs : List PlainMulticast) → length (ports_of cs) ≡ length cs
channel_count cs = length-map cs (λ (c : PlainMulticast). map (λ (p : PortId). p.0) c.ports)

pub queue_get : (qs : List PlainQueue) (i : ℕ) (q : PlainQueue) → slice_get qs i ≡ Some q → slice_get (queues_of qs) i ≡ Some q.items
queue_get [] i q e = cc
queue_get (x ∷ qs) zero q e = cc
queue_get (x ∷ qs) (suc i) q e = queue_get qs i q e

pub home_get : (hs : List McastId) (i : ℕ) (h : McastId) → slice_get hs i ≡ Some h → slice_get (channel_numbers hs) i ≡ Some h.0
home_get [] i h e = cc
home_get (x ∷ hs) zero h e = cc
home_get (x ∷ hs) (suc i) h e = home_get hs i h e

pub copy_port_does : (w : PlainWorld) (hs : List ℕ) (p home : ℕ) (items : List PlainValue) → p < length w.ports → length w.ports < max_objects
    → HaveHomes w.mchans hs → slice_get hs p ≡ Some home → slice_get w.ports p ≡ Some items
    → copy_port w p ≡ Ok (record w { mchans = with_port w.mchans home (length w.ports); ports = w.ports ++ items ∷ [] }, record { 0 = length w.ports })
copy_port_does w hs p home items there few housed e f =
    let here : nat_lt p (length w.ports) ≡ true = grind (arith, nat_tests) in
    let room : nat_le max_objects (length w.ports) ≡ false = grind (arith, nat_tests) in
    rw (here, room, f, copy_heard w.mchans hs (length w.ports) p home housed e) refl

pub multicast_does : (w : PlainWorld) (x : ℕ) (v : PlainValue) → x < length w.mchans → value_fits v ≡ true → any_is_full (ports_at w.mchans x) w.ports ≡ false
    → multicast w x v ≡ Ok (record w { ports = posted v (ports_at w.mchans x) w.ports }, tt)
multicast_does w x v there fits free = let here : nat_lt x (length w.mchans) ≡ true = grind (arith, nat_tests) in rw (here, fits, free) refl

pub multicast_not : (X : Type 0) (w w' : PlainWorld) (x : ℕ) (v : PlainValue) (fault : PostFault) → x < length w.mchans → value_fits v ≡ true
    → says_full {X = X} (Err fault) ≡ any_is_full (ports_at w.mchans x) w.ports → w' ≡ w → Does {R = Unit {0}} (Err (fault_of_post fault)) (multicast w x v) w w'
multicast_not X w w' x v post.Full there fits full same =
    let here : nat_lt x (length w.mchans) ≡ true = grind (arith, nat_tests) in
    (rw (here, fits, ← full) refl, same)
multicast_not X w w' x v post.Memory there fits free same = (rw (multicast_does w x v there fits (sym free)) refl, same)
