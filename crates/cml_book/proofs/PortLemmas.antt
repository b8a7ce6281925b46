-- Multicast channels, their ports, and the channel of each port.
use Rattle.std.proofs.Common.{◌≡◌, ◌≢◌, ℕ, ◌<◌, Bool, true, false, nat_eq, nat_lt, ◌||◌, List, [], ◌∷◌, ◌++◌}
use Rattle.std.proofs.Common.{length, map, refl, ap, sym, ◌∙◌, arith, zero, suc, Option, Some, Result, Ok, Err}
use Rattle.std.proofs.Common.{slice_set, slice_index_or}
use Rattle.std.specs.Prelude.{OnOk, IsTrue, slice_get, unwrap_or}
use Rattle.std.proofs.lemmas.List.{length-map}
use Rattle.std.proofs.lemmas.Bool.Decides.{nat_tests}
use Rattle.cml_value.specs.declared.number.PortId.{PortId}
use Rattle.cml_value.specs.declared.number.McastId.{McastId}
use Rattle.cml_objects.specs.Registered.{HasRoomAt}
use Rattle.cml_objects.specs.PlainMulticast.{PlainMulticast}
use Rattle.cml_objects.specs.Posts.{port_numbers}
use Rattle.cml_book.specs.MakePort.{ports_at, has_port, with_port, heard_by}
use Rattle.cml_book.specs.Homes.{is_home, channel_numbers, HaveHomes, ArePorts, AreBelow, has_room}
use Rattle.cml_book.specs.Views.{ports_of}
use Rattle.cml_book.proofs.NackLemmas.{get-set_other}
use Rattle.cml_book.proofs.ObjectLemmas.{there_set, there_push, other_push, quiet_push}

pub found_there : {X : Type 0} (xs : List X) (i : ℕ) (x : X) → i < length xs → x ≡ slice_index_or xs i x → slice_get xs i ≡ Some x
found_there [] i x h e = absurd (omega arith)
found_there (y ∷ ys) zero x h e = cc
found_there (y ∷ ys) (suc i) x h e = found_there ys i x (omega arith) e

set_same : {X : Type 0} (xs : List X) (i : ℕ) (x : X) → slice_get xs i ≡ Some x → slice_set xs i x ≡ xs
set_same [] i x e = refl
set_same (y ∷ ys) zero x e = cc
set_same (y ∷ ys) (suc i) x e = ap (λ (r : List _). y ∷ r) (set_same ys i x e)

ports_set : (cs : List PlainMulticast) (i : ℕ) (c : PlainMulticast) → ports_of (slice_set cs i c) ≡ slice_set (ports_of cs) i (port_numbers c.ports)
ports_set [] i c = refl
ports_set (d ∷ cs) zero c = refl
ports_set (d ∷ cs) (suc i) c = ap (λ (r : List (List ℕ)). port_numbers d.ports ∷ r) (ports_set cs i c)

ports_get : (cs : List PlainMulticast) (i : ℕ) (c : PlainMulticast) → slice_get cs i ≡ Some c → slice_get (ports_of cs) i ≡ Some (port_numbers c.ports)
ports_get [] i c e = cc
ports_get (d ∷ cs) zero c e = cc
ports_get (d ∷ cs) (suc i) c e = ports_get cs i c e

pub ports_found : (cs : List PlainMulticast) (i : ℕ) (c : PlainMulticast) → slice_get cs i ≡ Some c → ports_at (ports_of cs) i ≡ port_numbers c.ports
ports_found cs i c e = ap (λ (o : Option (List ℕ)). unwrap_or o []) (ports_get cs i c e)

numbers_push : (ps : List PortId) (p : PortId) → port_numbers (ps ++ p ∷ []) ≡ port_numbers ps ++ p.0 ∷ []
numbers_push [] p = refl
numbers_push (q ∷ ps) p = ap (λ (r : List ℕ). q.0 ∷ r) (numbers_push ps p)

-- room in a channel changes no port
pub room_made : (cs : List PlainMulticast) (i : ℕ) (c d : PlainMulticast) → slice_get cs i ≡ Some c → d.ports ≡ c.ports → ports_of (slice_set cs i d) ≡ ports_of cs
room_made cs i c d e same = ports_set cs i d ∙ ap (λ (ps : List PortId). slice_set (ports_of cs) i (port_numbers ps)) same ∙ set_same (ports_of cs) i (port_numbers c.ports) (ports_get cs i c e)

pub room_there : {E : Type 0} (cs : List PlainMulticast) (i : ℕ) (d : PlainMulticast) (r : Result (Unit {0}) E) → i < length cs → OnOk r (0 < d.room) → OnOk r (HasRoomAt has_room (slice_set cs i d) i)
room_there cs i d (Ok x) h k = let e = there_set cs i d h in rw e (grind (arith, nat_tests))
room_there cs i d (Err x) h k = tt

pub room_found : (cs : List PlainMulticast) (i : ℕ) (c : PlainMulticast) → slice_get cs i ≡ Some c → HasRoomAt has_room cs i → 0 < c.room
room_found cs i c e h = let t : IsTrue (nat_lt 0 c.room) = rw e at h in grind (arith, nat_tests)

-- one more port of a channel
pub port_added : (cs : List PlainMulticast) (i : ℕ) (c d : PlainMulticast) (p : PortId) → slice_get cs i ≡ Some c
    → d.ports ≡ c.ports ++ p ∷ [] → ports_of (slice_set cs i d) ≡ with_port (ports_of cs) i p.0
port_added cs i c d p e more =
    ports_set cs i d ∙ ap (λ (ps : List ℕ). slice_set (ports_of cs) i ps)
    (ap port_numbers more ∙ numbers_push c.ports p ∙ ap (λ (ps : List ℕ). ps ++ p.0 ∷ []) (sym (ports_found cs i c e)))

eq_self : (n : ℕ) → nat_eq n n ≡ true
eq_self n = grind (arith, nat_tests)

has_there : (ps : List PortId) (k : ℕ) (d : PortId) → k < length ps → has_port (port_numbers ps) (slice_index_or ps k d).0 ≡ true
has_there [] k d h = absurd (omega arith)
has_there (p ∷ ps) zero d h = rw (eq_self p.0) refl
has_there (p ∷ ps) (suc k) d h = or_right (nat_eq p.0 (slice_index_or ps k d).0) _ (has_there ps k d (omega arith))
  where
    or_right : (a b : Bool) → b ≡ true → a || b ≡ true
    or_right true b e = refl
    or_right false b e = e

-- the ports of a channel have numbers below a limit
pub each_below : (cs : List PlainMulticast) (i limit : ℕ) (c : PlainMulticast) → slice_get cs i ≡ Some c
    → AreBelow (ports_of cs) i limit → (k : ℕ) (d : PortId) → k < length c.ports
    → (slice_index_or c.ports k d).0 < limit
each_below cs i limit c e below k d h = below (slice_index_or c.ports k d).0 (rw (ports_found cs i c e) (has_there c.ports k d h))

home_bound : (hs : List ℕ) (x p : ℕ) → is_home x (slice_get hs p) ≡ true → p < length hs
home_bound [] x p e = cc
home_bound (h ∷ hs) x zero e = omega arith
home_bound (h ∷ hs) x (suc p) e = let i = home_bound hs x p e in omega (arith, i)

-- so do those that have homes
pub housed_below : (cs : List (List ℕ)) (hs : List ℕ) (x limit : ℕ) → HaveHomes cs hs → length hs ≡ limit → AreBelow cs x limit
housed_below cs hs x limit housed e p h = let i = home_bound hs x p (sym (housed x p) ∙ h) in omega (arith, i, e)

has_push : (ps : List ℕ) (n q : ℕ) → has_port (ps ++ n ∷ []) q ≡ has_port ps q || nat_eq n q
has_push [] n q = or_false (nat_eq n q)
  where
    or_false : (b : Bool) → b || false ≡ b
    or_false true = refl
    or_false false = refl
has_push (p ∷ ps) n q = rw (has_push ps n q) (assoc (nat_eq p q) (has_port ps q) (nat_eq n q))
  where
    assoc : (a b c : Bool) → a || (b || c) ≡ (a || b) || c
    assoc true b c = refl
    assoc false b c = refl

beyond : (hs : List ℕ) (y : ℕ) → is_home y (slice_get hs (length hs)) ≡ false
beyond [] y = refl
beyond (h ∷ hs) y = beyond hs y

-- one more port has its home
pub housed_more : (cs : List (List ℕ)) (hs : List ℕ) (x : ℕ) → x < length cs → HaveHomes cs hs → HaveHomes (with_port cs x (length hs)) (hs ++ x ∷ [])
housed_more cs hs x h housed y q = at (nat_eq y x) (nat_eq (length hs) q) refl refl
  where
    new : List (List ℕ)
    new = with_port cs x (length hs)

    at : (a b : Bool) → nat_eq y x ≡ a → nat_eq (length hs) q ≡ b → has_port (ports_at new y) q ≡ is_home y (slice_get (hs ++ x ∷ []) q)
    at true b e f =
        let same : y ≡ x = grind (arith, nat_tests) in
        let here : ports_at new x ≡ ports_at cs x ++ length hs ∷ [] = ap (λ (o : Option (List ℕ)). unwrap_or o []) (there_set cs x (ports_at cs x ++ length hs ∷ []) h) in
        rw (same, here, has_push (ports_at cs x) (length hs) q, housed x q) (home b f)
      where
        home : (b : Bool) → nat_eq (length hs) q ≡ b → is_home x (slice_get hs q) || nat_eq (length hs) q ≡ is_home x (slice_get (hs ++ x ∷ []) q)
        home true f = let last : q ≡ length hs = grind (arith, nat_tests) in rw (last, there_push hs x, beyond hs x, eq_self (length hs), eq_self x) refl
        home false f = let differ : q ≢ length hs = grind (arith, nat_tests) in rw (f, other_push hs q x differ) (or_false (is_home x (slice_get hs q)))
          where
            or_false : (b : Bool) → b || false ≡ b
            or_false true = refl
            or_false false = refl
    at false b e f =
        let differ : x ≢ y = grind (arith, nat_tests) in
        let here : ports_at new y ≡ ports_at cs y = ap (λ (o : Option (List ℕ)). unwrap_or o []) (get-set_other cs x y (ports_at cs x ++ length hs ∷ []) differ) in
        rw (here, housed y q) (home b f)
      where
        home : (b : Bool) → nat_eq (length hs) q ≡ b → is_home y (slice_get hs q) ≡ is_home y (slice_get (hs ++ x ∷ []) q)
        home true f = let last : q ≡ length hs = grind (arith, nat_tests) in let other : nat_eq x y ≡ false = grind (arith, nat_tests) in rw (last, there_push hs x, beyond hs y, other) refl
        home false f = let differ : q ≢ length hs = grind (arith, nat_tests) in rw (other_push hs q x differ) refl

numbers_of-push : (hs : List McastId) (x : McastId) → channel_numbers (hs ++ x ∷ []) ≡ channel_numbers hs ++ x.0 ∷ []
numbers_of-push [] x = refl
numbers_of-push (h ∷ hs) x = ap (λ (r : List ℕ). h.0 ∷ r) (numbers_of-push hs x)

pub ports_more : (cs ds : List PlainMulticast) (hs : List McastId) (x : McastId) (n : ℕ) → x.0 < length cs
    → ArePorts cs hs n → ports_of ds ≡ with_port (ports_of cs) x.0 n → ArePorts ds (hs ++ x ∷ []) (suc n)
ports_more cs ds hs x n h are e =
    let count : length (channel_numbers hs) ≡ n = length-map hs (λ (m : McastId). m.0) ∙ are.each in
    let long : x.0 < length (ports_of cs) = (let l = length-map cs (λ (c : PlainMulticast). port_numbers c.ports) in omega (arith, l)) in
    record {
      housed = rw (e, numbers_of-push hs x, ← count) (housed_more (ports_of cs) (channel_numbers hs) x.0 long are.housed);
      each = (let l = length-push hs x in omega (arith, l, are.each));
    }
  where
    length-push : (hs : List McastId) (x : McastId) → length (hs ++ x ∷ []) ≡ suc (length hs)
    length-push [] x = refl
    length-push (h ∷ hs) x = ap suc (length-push hs x)

-- a new channel without ports
pub channel_push : (cs : List PlainMulticast) (c : PlainMulticast) → c.ports ≡ [] → ports_of (cs ++ c ∷ []) ≡ ports_of cs ++ [] ∷ []
channel_push [] c e = ap (λ (ps : List PortId). port_numbers ps ∷ []) e
channel_push (d ∷ cs) c e = ap (λ (r : List (List ℕ)). port_numbers d.ports ∷ r) (channel_push cs c e)

pub ports_stay : (cs ds : List PlainMulticast) (hs : List McastId) (n : ℕ) → ArePorts cs hs n → ports_of ds ≡ ports_of cs ++ [] ∷ [] → ArePorts ds hs n
ports_stay cs ds hs n are e = record {
  housed = λ x p. rw e (ap (λ (ps : List ℕ). has_port ps p) (quiet_push (λ (o : Option (List ℕ)). unwrap_or o []) (ports_of cs) x [] refl) ∙ are.housed x p);
  each = are.each;
}

-- the channels in which the copy of a port stands: the home of the port
map_unheard : (n p : ℕ) (cs : List (List ℕ)) → ((x : ℕ) → has_port (ports_at cs x) p ≡ false) → map (heard_by n p) cs ≡ cs
map_unheard n p [] h = refl
map_unheard n p (c ∷ cs) h = rw (h 0) (ap (λ (r : List (List ℕ)). c ∷ r) (map_unheard n p cs (λ x. h (suc x))))

map_heard : (n p h : ℕ) (cs : List (List ℕ)) → ((x : ℕ) → has_port (ports_at cs x) p ≡ nat_eq h x) → map (heard_by n p) cs ≡ with_port cs h n
map_heard n p h [] only = refl
map_heard n p zero (c ∷ cs) only =
    let here : has_port c p ≡ true = only 0 ∙ eq_self 0 in
    let rest : (x : ℕ) → has_port (ports_at cs x) p ≡ false = λ x. only (suc x) ∙ zero_not x in
    rw here (ap (λ (r : List (List ℕ)). (c ++ n ∷ []) ∷ r) (map_unheard n p cs rest))
  where
    zero_not : (x : ℕ) → nat_eq 0 (suc x) ≡ false
    zero_not x = grind (arith, nat_tests)
map_heard n p (suc h) (c ∷ cs) only =
    let here : has_port c p ≡ false = only 0 ∙ not_zero h in
    let rest : (x : ℕ) → has_port (ports_at cs x) p ≡ nat_eq h x = λ x. only (suc x) ∙ same_suc h x in
    rw here (ap (λ (r : List (List ℕ)). c ∷ r) (map_heard n p h cs rest))
  where
    not_zero : (h : ℕ) → nat_eq (suc h) 0 ≡ false
    not_zero h = grind (arith, nat_tests)

    same_suc : (h x : ℕ) → nat_eq (suc h) (suc x) ≡ nat_eq h x
    same_suc h x = grind (arith, nat_tests)

pub copy_heard : (cs : List (List ℕ)) (hs : List ℕ) (n p home : ℕ) → HaveHomes cs hs → slice_get hs p ≡ Some home → map (heard_by n p) cs ≡ with_port cs home n
copy_heard cs hs n p home housed e = map_heard n p home cs (λ x. housed x p ∙ ap (is_home x) e)

-- the home of a port exists
pub home_there : (cs : List (List ℕ)) (hs : List ℕ) (p home : ℕ) → HaveHomes cs hs → slice_get hs p ≡ Some home → home < length cs
home_there cs hs p home housed e = within cs home (housed home p ∙ ap (is_home home) e ∙ eq_self home)
  where
    within : (cs : List (List ℕ)) (x : ℕ) → has_port (ports_at cs x) p ≡ true → x < length cs
    within [] x k = cc
    within (c ∷ cs) zero k = omega arith
    within (c ∷ cs) (suc x) k = let i = within cs x k in omega (arith, i)

pub ports_below : (cs : List PlainMulticast) (hs : List McastId) (n x : ℕ) → ArePorts cs hs n → AreBelow (ports_of cs) x n
ports_below cs hs n x are = housed_below (ports_of cs) (channel_numbers hs) x n are.housed (length-map hs (λ (m : McastId). m.0) ∙ are.each)
