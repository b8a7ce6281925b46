-- The places that begin a row: the lit leaves, and then the leaves that have a partner.
use Rattle.std.proofs.Common.{◌≡◌, Bool, true, false, not, ◌&&◌, ◌||◌, cond, List, [], ◌∷◌, ◌++◌, map, Option, Some, None, refl, ap, sym, subst, ◌∙◌, append_assoc}
use Rattle.std.specs.List.{filter, flat_map, list_any}
use Rattle.std.proofs.lemmas.List.{append-nil, map-append}
use Rattle.std.proofs.lemmas.List.Folds.{list_any-append}
use Rattle.cml_value.specs.Value.{PlainBase}
use Rattle.cml_scan.specs.Scan.{PlainOffer, meets, can_meet, single, pair, pairs_with, rows_of, place_of, same_place, firsts_after, heads_of}
use Rattle.cml_scan.specs.Order.{Every, Ascends, place, before, base_at, has_partner}
use Rattle.cml_scan.specs.declared.meet.Place.{Place}
use Rattle.cml_scan.proofs.Ordered.{same_is, same_self, earlier_away, Every-filter, Every-map, Every-unmap}
use Rattle.cml_scan.proofs.Found.{offer, not_later}

-- these places come new one after another
abbrev pub AreFresh : List Place → List Place → Type 0
AreFresh seen [] = Unit {0}
AreFresh seen (p ∷ ps) = (list_any (same_place p) seen ≡ false) × AreFresh (seen ++ p ∷ []) ps

fresh_split : (seen ps qs : List Place) → AreFresh seen (ps ++ qs) → AreFresh seen ps × AreFresh (seen ++ ps) qs
fresh_split seen [] qs h = (tt, rw (append-nil seen) h)
fresh_split seen (p ∷ ps) qs h =
    let r = fresh_split (seen ++ p ∷ []) ps qs h.1 in
    ((h.0, r.0), rw (← append_assoc seen (p ∷ []) ps) r.1)

firsts_fresh : (seen ps : List Place) → AreFresh seen ps → firsts_after seen ps ≡ ps
firsts_fresh seen [] h = refl
firsts_fresh seen (p ∷ ps) h = rw (h.0) (ap (λ qs. p ∷ qs) (firsts_fresh (seen ++ p ∷ []) ps h.1))

firsts-append_at : (seen ps qs : List Place) (p : Place) (b : Bool) → list_any (same_place p) seen ≡ b
    → firsts_after seen (ps ++ qs) ≡ firsts_after seen ps ++ firsts_after (seen ++ firsts_after seen ps) qs
    → firsts_after (seen ++ p ∷ []) (ps ++ qs) ≡ firsts_after (seen ++ p ∷ []) ps ++ firsts_after ((seen ++ p ∷ []) ++ firsts_after (seen ++ p ∷ []) ps) qs
    → firsts_after seen ((p ∷ ps) ++ qs) ≡ firsts_after seen (p ∷ ps) ++ firsts_after (seen ++ firsts_after seen (p ∷ ps)) qs
firsts-append_at seen ps qs p true e skip take = rw e skip
firsts-append_at seen ps qs p false e skip take = rw e
    (ap (λ rs. p ∷ rs) (take ∙ ap (λ s. firsts_after (seen ++ p ∷ []) ps ++ firsts_after s qs)
    (append_assoc seen (p ∷ []) (firsts_after (seen ++ p ∷ []) ps))))

pub firsts-append : (seen ps qs : List Place) → firsts_after seen (ps ++ qs) ≡ firsts_after seen ps ++ firsts_after (seen ++ firsts_after seen ps) qs
firsts-append seen [] qs = rw (append-nil seen) refl
firsts-append seen (p ∷ ps) qs = firsts-append_at seen ps qs p (list_any (same_place p) seen) refl (firsts-append seen ps qs) (firsts-append (seen ++ p ∷ []) ps qs)

-- more rows of a head that was seen
firsts_again : (seen : List Place) (h : PlainOffer) (ys : List PlainOffer) → list_any (same_place (place h)) seen ≡ true → firsts_after seen (map place_of (map (pair h) ys)) ≡ []
firsts_again seen h [] e = refl
firsts_again seen h (y ∷ ys) e = rw e (firsts_again seen h ys e)

seen_now : (seen : List Place) (p : Place) → list_any (same_place p) (seen ++ p ∷ []) ≡ true
seen_now seen p = list_any-append (same_place p) seen (p ∷ []) ∙ rw (same_self p) (last (list_any (same_place p) seen))
  where
    last : (b : Bool) → b || (true || false) ≡ true
    last true = refl
    last false = refl

-- whether there are any
abbrev some : List PlainOffer → Bool
some [] = false
some (y ∷ ys) = true

some_passes : (p : PlainOffer → Bool) (xs : List PlainOffer) → list_any p xs ≡ some (filter p xs)
some_passes p [] = refl
some_passes p (x ∷ xs) = at (p x) (some_passes p xs)
  where
    at : (b : Bool) → list_any p xs ≡ some (filter p xs) → b || list_any p xs ≡ some (cond b (x ∷ filter p xs) (filter p xs))
    at true h = refl
    at false h = h

-- the rows of a new head begin at one place, if there are any
firsts_run : (seen : List Place) (h : PlainOffer) (ys : List PlainOffer) (b : Bool) → b ≡ some ys → (b ≡ true → list_any (same_place (place h)) seen ≡ false)
    → firsts_after seen (map place_of (map (pair h) ys)) ≡ map place (cond b (h ∷ []) [])
firsts_run seen h [] true e new = cc
firsts_run seen h [] false e new = refl
firsts_run seen h (y ∷ ys) true e new = rw (new refl) (ap (λ ps. place h ∷ ps) (firsts_again (seen ++ place h ∷ []) h ys (seen_now seen (place h))))
firsts_run seen h (y ∷ ys) false e new = cc

pair_heads_at : (xs rest : List PlainOffer) (seen : List Place) (h : PlainOffer) (b : Bool) → has_partner xs h ≡ b
    → ((seen : List Place) → AreFresh seen (map place (filter (has_partner xs) rest)) → firsts_after seen (map place_of (flat_map (pairs_with xs) rest)) ≡ map place (filter (has_partner xs) rest))
    → AreFresh seen (map place (cond b (h ∷ filter (has_partner xs) rest) (filter (has_partner xs) rest)))
    → firsts_after seen (map place_of (pairs_with xs h)) ++ firsts_after (seen ++ firsts_after seen (map place_of (pairs_with xs h))) (map place_of (flat_map (pairs_with xs) rest))
    ≡ map place (cond b (h ∷ filter (has_partner xs) rest) (filter (has_partner xs) rest))
pair_heads_at xs rest seen h true e ih fresh =
    let one : firsts_after seen (map place_of (pairs_with xs h)) ≡ place h ∷ [] = firsts_run seen h (filter (can_meet h) xs) true (sym e ∙ some_passes (can_meet h) xs) (λ _. fresh.0) in
    rw (one) (ap (λ ps. place h ∷ ps) (ih (seen ++ place h ∷ []) fresh.1))
pair_heads_at xs rest seen h false e ih fresh =
    let none : firsts_after seen (map place_of (pairs_with xs h)) ≡ [] = firsts_run seen h (filter (can_meet h) xs) false (sym e ∙ some_passes (can_meet h) xs) (λ no. cc) in
    rw (none, append-nil seen) (ih seen fresh)

pair_heads : (xs rest : List PlainOffer) (seen : List Place) → AreFresh seen (map place (filter (has_partner xs) rest))
    → firsts_after seen (map place_of (flat_map (pairs_with xs) rest)) ≡ map place (filter (has_partner xs) rest)
pair_heads xs [] seen fresh = refl
pair_heads xs (h ∷ rest) seen fresh =
    ap (firsts_after seen) (map-append place_of (pairs_with xs h) (flat_map (pairs_with xs) rest))
    ∙ firsts-append seen (map place_of (pairs_with xs h)) (map place_of (flat_map (pairs_with xs) rest))
    ∙ pair_heads_at xs rest seen h (has_partner xs h) refl (pair_heads xs rest) fresh

single_places : (ys : List PlainOffer) → map place_of (map single ys) ≡ map place ys
single_places [] = refl
single_places (y ∷ ys) = ap (λ ps. place y ∷ ps) (single_places ys)

-- the heads, where the places of the lit leaves and of the leaves with a partner differ
heads-fresh : (is_lit : PlainBase → Bool) (xs : List PlainOffer) → AreFresh [] (map place (filter (λ o. is_lit o.base) xs) ++ map place (filter (has_partner xs) xs))
    → heads_of (rows_of is_lit xs) ≡ map place (filter (λ o. is_lit o.base) xs) ++ map place (filter (has_partner xs) xs)
heads-fresh is_lit xs fresh =
    let lit : List Place = map place (filter (λ o. is_lit o.base) xs) in
    let two = fresh_split [] lit (map place (filter (has_partner xs) xs)) fresh in
    ap (firsts_after []) (map-append place_of (map single (filter (λ o. is_lit o.base) xs))
    (flat_map (pairs_with xs) xs) ∙ ap (λ ps. ps ++ map place_of (flat_map (pairs_with xs) xs))
    (single_places (filter (λ o. is_lit o.base) xs)))
    ∙ firsts-append [] lit (map place_of (flat_map (pairs_with xs) xs))
    ∙ rw (firsts_fresh [] lit two.0) (ap (λ ps. lit ++ ps) (pair_heads xs xs lit two.1))

not_true : (b : Bool) → not b ≡ true → b ≡ false
not_true true e = cc
not_true false e = refl

one_more : (seen : List Place) (p : Place) (ps : List Place) → Every (before p) ps → Every (λ q. not (list_any (same_place q) seen)) ps → Every (λ q. not (list_any (same_place q) (seen ++ p ∷ []))) ps
one_more seen p [] later new = tt
one_more seen p (q ∷ ps) later new =
    (rw (list_any-append (same_place q) seen (p ∷ []), earlier_away p q later.0) (off (list_any (same_place q) seen) new.0), one_more seen p ps later.1 new.1)
  where
    off : (b : Bool) → not b ≡ true → not (b || (false || false)) ≡ true
    off true e = e
    off false e = e

fresh_up : (seen ps : List Place) → Ascends before ps → Every (λ p. not (list_any (same_place p) seen)) ps → AreFresh seen ps
fresh_up seen [] up new = tt
fresh_up seen (p ∷ ps) up new = (not_true (list_any (same_place p) seen) new.0, fresh_up (seen ++ p ∷ []) ps up.1 (one_more seen p ps up.0 new.1))

fresh_join : (seen ps qs : List Place) → AreFresh seen ps → AreFresh (seen ++ ps) qs → AreFresh seen (ps ++ qs)
fresh_join seen [] qs h k = subst (λ s. AreFresh s qs) (append-nil seen) k
fresh_join seen (p ∷ ps) qs h k = (h.0, fresh_join (seen ++ p ∷ []) ps qs h.1 (subst (λ s. AreFresh s qs) (sym (append_assoc seen (p ∷ []) ps)) k))

abbrev passes : (PlainOffer → Bool) → Place → Option PlainBase → Bool
passes f p None = false
passes f p (Some b) = f (offer p b)

none_kept : (p : Place) (f : PlainOffer → Bool) (ys : List PlainOffer) → base_at p ys ≡ None → list_any (same_place p) (map place (filter f ys)) ≡ false
none_kept p f [] none = refl
none_kept p f (y ∷ ys) none = at (same_place p (place y)) (f y) refl none (none_kept p f ys)
  where
    at : (s b : Bool) → same_place p (place y) ≡ s → cond s (Some y.base) (base_at p ys) ≡ None
        → (base_at p ys ≡ None → list_any (same_place p) (map place (filter f ys)) ≡ false)
        → list_any (same_place p) (map place (cond b (y ∷ filter f ys) (filter f ys))) ≡ false
    at true b e none k = cc
    at false true e none k = rw e (k none)
    at false false e none k = k none

any_at : (p : Place) (f : PlainOffer → Bool) (ys : List PlainOffer) → Ascends before (map place ys) → list_any (same_place p) (map place (filter f ys)) ≡ passes f p (base_at p ys)
any_at p f [] up = refl
any_at p f (y ∷ ys) up = at (same_place p (place y)) (f y) refl refl (any_at p f ys up.1)
  where
    at : (s b : Bool) → same_place p (place y) ≡ s → f y ≡ b → list_any (same_place p) (map place (filter f ys))
        ≡ passes f p (base_at p ys) → list_any (same_place p) (map place (cond b (y ∷ filter f ys) (filter f ys)))
        ≡ passes f p (cond s (Some y.base) (base_at p ys))
    at true true e g k =
        let whole : offer p y.base ≡ y = ap (λ (q : Place). offer q y.base) (same_is p (place y) e) in
        rw e (sym (ap f whole ∙ g))
    at true false e g k =
        let same : p ≡ place y = same_is p (place y) e in
        let none : base_at p ys ≡ None = rw same (not_later (place y) ys up.0) in
        let whole : offer p y.base ≡ y = ap (λ (q : Place). offer q y.base) same in
        none_kept p f ys none ∙ sym (ap f whole ∙ g)
    at false true e g k = rw e k
    at false false e g k = k

-- each of these is what stands at its place
abbrev pub AreAt : List PlainOffer → List PlainOffer → Type 0
AreAt xs [] = Unit {0}
AreAt xs (o ∷ os) = (base_at (place o) xs ≡ Some o.base) × AreAt xs os

-- what stands after one that comes before each of them
at_behind : (x : PlainOffer) (xs os : List PlainOffer) → Every (before (place x)) (map place os) → AreAt xs os → AreAt (x ∷ xs) os
at_behind x xs [] later here = tt
at_behind x xs (o ∷ os) later here = (rw (earlier_away (place x) (place o) later.0) here.0, at_behind x xs os later.1 here.1)

pub at_self : (xs : List PlainOffer) → Ascends before (map place xs) → AreAt xs xs
at_self [] up = tt
at_self (x ∷ xs) up = (ap (λ s. cond s (Some x.base) (base_at (place x) xs)) (same_self (place x)), at_behind x xs xs up.0 (at_self xs up.1))

-- a lit leaf has no partner
lit_no_partner : (is_lit : PlainBase → Bool) → ((b c : PlainBase) → is_lit b ≡ true → meets b c ≡ false)
    → (h : PlainOffer) (ys : List PlainOffer) → is_lit h.base ≡ true → list_any (can_meet h) ys ≡ false
lit_no_partner is_lit alone h [] e = refl
lit_no_partner is_lit alone h (y ∷ ys) e = rw (alone h.base y.base e, lit_no_partner is_lit alone h ys e) (off _)
  where
    off : (b : Bool) → (b && false) || false ≡ false
    off true = refl
    off false = refl

heads_new : (is_lit : PlainBase → Bool) → ((b c : PlainBase) → is_lit b ≡ true → meets b c ≡ false) → (xs ys : List PlainOffer) → Ascends before (map place xs) → AreAt xs ys
    → Every (λ p. not (list_any (same_place p) (map place (filter (λ o. is_lit o.base) xs)))) (map place (filter (has_partner xs) ys))
heads_new is_lit alone xs [] up here = tt
heads_new is_lit alone xs (y ∷ ys) up here = at (has_partner xs y) refl (heads_new is_lit alone xs ys up here.1)
  where
    no_lit : (l : Bool) → is_lit y.base ≡ l → has_partner xs y ≡ true → not l ≡ true
    no_lit true e g = let none : has_partner xs y ≡ false = lit_no_partner is_lit alone y xs e in cc
    no_lit false e g = refl

    at : (b : Bool) → has_partner xs y ≡ b → Every (λ p. not (list_any (same_place p) (map place (filter (λ o. is_lit o.base) xs)))) (map place (filter (has_partner xs) ys))
        → Every (λ p. not (list_any (same_place p) (map place (filter (λ o. is_lit o.base) xs)))) (map place (cond b (y ∷ filter (has_partner xs) ys) (filter (has_partner xs) ys)))
    at true g k = (ap not (any_at (place y) (λ o. is_lit o.base) xs up ∙ ap (passes (λ o. is_lit o.base) (place y)) here.0) ∙ no_lit (is_lit y.base) refl g, k)
    at false g k = k

places_up : (f : PlainOffer → Bool) (xs : List PlainOffer) → Ascends before (map place xs) → Ascends before (map place (filter f xs))
places_up f [] up = tt
places_up f (x ∷ xs) up = at (f x) (places_up f xs up.1)
  where
    at : (b : Bool) → Ascends before (map place (filter f xs)) → Ascends before (map place (cond b (x ∷ filter f xs) (filter f xs)))
    at true k = (Every-map (before (place x)) place (filter f xs) (Every-filter (λ o. before (place x) (place o)) f xs (Every-unmap (before (place x)) place xs up.0)), k)
    at false k = k

none_seen : (ps : List Place) → Every (λ p. not (list_any (same_place p) [])) ps
none_seen [] = tt
none_seen (p ∷ ps) = (refl, none_seen ps)

-- The heads are the lit leaves and then the leaves that have a partner, where no lit leaf sends.
pub heads_found : (is_lit : PlainBase → Bool) → ((b c : PlainBase) → is_lit b ≡ true → meets b c ≡ false) → (xs : List PlainOffer) → Ascends before (map place xs)
    → heads_of (rows_of is_lit xs) ≡ map place (filter (λ o. is_lit o.base) xs) ++ map place (filter (has_partner xs) xs)
heads_found is_lit alone xs up =
    heads-fresh is_lit xs (fresh_join [] (map place (filter (λ o. is_lit o.base) xs)) (map place (filter (has_partner xs) xs))
    (fresh_up [] (map place (filter (λ o. is_lit o.base) xs)) (places_up (λ o. is_lit o.base) xs up) (none_seen (map place (filter (λ o. is_lit o.base) xs))))
    (fresh_up (map place (filter (λ o. is_lit o.base) xs)) (map place (filter (has_partner xs) xs)) (places_up (has_partner xs) xs up) (heads_new is_lit alone xs xs up (at_self xs up))))
