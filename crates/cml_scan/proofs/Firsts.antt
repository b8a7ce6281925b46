-- The heads: each place that begins a row, once, in order of first appearance.
use Rattle.std.proofs.Common.{◌≡◌, ℕ, ◌+◌, ◌<◌, Bool, true, false, not, ◌&&◌, ◌||◌, nat_lt, cond, List, [], ◌∷◌, ◌++◌, map, length, slice_index_or, Some, refl, ap, sym, ◌∙◌, arith}
use Rattle.std.specs.Prelude.{AllPairs, Any, Contains, ◌↔◌, slice_get}
use Rattle.std.specs.List.{list_any}
use Rattle.std.proofs.lemmas.Bool.Decides.{nat_tests}
use Rattle.std.proofs.lemmas.Option.{slice_get_within, get_or_from_slice_get}
use Rattle.std.proofs.lemmas.List.Folds.{list_any-append, Any-from_list_any, list_any-from_Any}
use Rattle.cml_scan.specs.World.{PlainWorld}
use Rattle.cml_scan.specs.Scan.{scan, place_of, same_place, firsts_after, heads_of, heads, partners_of, partners, same_row, has_row}
use Rattle.cml_scan.specs.Order.{Every, Ascends, first_row}
use Rattle.cml_scan.specs.declared.meet.Meet.{Meet}
use Rattle.cml_scan.specs.declared.meet.Place.{Place}
use Rattle.cml_scan.proofs.Ordered.{same_is, same_self, Every-weaker}
use Rattle.cml_scan.proofs.Ordering.{AllPairs-Ascends}
use Rattle.cml_scan.proofs.Enabling.{same_row_is, Contains-has_row, has_row-Contains, both_true}

-- the places that are new are not among those that were seen
firsts_unseen : (seen : List Place) (ps : List Place) → Every (λ p. not (list_any (same_place p) seen)) (firsts_after seen ps)
firsts_unseen seen [] = tt
firsts_unseen seen (p ∷ ps) = at (list_any (same_place p) seen) refl (λ more. firsts_unseen more ps)
  where
    less : (q : Place) → not (list_any (same_place q) (seen ++ p ∷ [])) ≡ true → not (list_any (same_place q) seen) ≡ true
    less q e = or (list_any (same_place q) seen) (list_any (same_place q) (p ∷ [])) (sym (ap not (list_any-append (same_place q) seen (p ∷ []))) ∙ e)
      where
        or : (a b : Bool) → not (a || b) ≡ true → not a ≡ true
        or true b e = cc
        or false b e = refl

    at : (b : Bool) → list_any (same_place p) seen ≡ b → ((more : List Place) → Every (λ q. not (list_any (same_place q) more)) (firsts_after more ps))
        → Every (λ q. not (list_any (same_place q) seen)) (cond b (firsts_after seen ps) (p ∷ firsts_after (seen ++ p ∷ []) ps))
    at true e ih = ih seen
    at false e ih = (
      ap not e,
      Every-weaker (λ q. not (list_any (same_place q) (seen ++ p ∷ [])))
          (λ q. not (list_any (same_place q) seen)) (firsts_after (seen ++ p ∷ []) ps) less (ih (seen ++ p ∷ [])),
    )

-- one that was seen is none that was not
seen_differs : (seen : List Place) (p q : Place) → list_any (same_place p) seen ≡ true → not (list_any (same_place q) seen) ≡ true → same_place q p ≡ false
seen_differs seen p q e f = at (same_place q p) refl
  where
    at : (b : Bool) → same_place q p ≡ b → same_place q p ≡ false
    at true g = let same : q ≡ p = same_is q p g in let h : not (list_any (same_place q) seen) ≡ false = rw (same, e) refl in cc
    at false g = g

last_seen : (seen : List Place) (p : Place) → list_any (same_place p) (seen ++ p ∷ []) ≡ true
last_seen seen p = list_any-append (same_place p) seen (p ∷ []) ∙ rw (same_self p) (or (list_any (same_place p) seen))
  where
    or : (b : Bool) → b || (true || false) ≡ true
    or true = refl
    or false = refl

-- the first places at which these stand ascend
abbrev in_turn : List Meet → Place → Place → Bool
in_turn rows p q = nat_lt (first_row p rows) (first_row q rows)

-- one more row in front, at which none of these begins
push_every : (row : Meet) (rows : List Meet) (p : Place) (qs : List Place) → same_place p (place_of row) ≡ false
    → Every (λ q. not (same_place q (place_of row))) qs → Every (in_turn rows p) qs → Every (in_turn (row ∷ rows) p) qs
push_every row rows p [] e away up = tt
push_every row rows p (q ∷ qs) e away up = (rw (e, not_false (same_place q (place_of row)) away.0) (more (first_row p rows) (first_row q rows) up.0), push_every row rows p qs e away.1 up.1)
  where
    not_false : (b : Bool) → not b ≡ true → b ≡ false
    not_false true e = cc
    not_false false e = refl

    more : (a b : ℕ) → nat_lt a b ≡ true → nat_lt (a + 1) (b + 1) ≡ true
    more a b e = grind (arith, nat_tests)

push_turn : (row : Meet) (rows : List Meet) (ps : List Place) → Every (λ p. not (same_place p (place_of row))) ps → Ascends (in_turn rows) ps → Ascends (in_turn (row ∷ rows)) ps
push_turn row rows [] away up = tt
push_turn row rows (p ∷ ps) away up = (push_every row rows p ps (not_false (same_place p (place_of row)) away.0) away.1 up.0, push_turn row rows ps away.1 up.1)
  where
    not_false : (b : Bool) → not b ≡ true → b ≡ false
    not_false true e = cc
    not_false false e = refl

-- the row itself comes before all that begin elsewhere
own_first : (row : Meet) (rows : List Meet) (qs : List Place) → Every (λ q. not (same_place q (place_of row))) qs → Every (in_turn (row ∷ rows) (place_of row)) qs
own_first row rows [] away = tt
own_first row rows (q ∷ qs) away = (rw (same_self (place_of row), not_false (same_place q (place_of row)) away.0) (above (first_row q rows)), own_first row rows qs away.1)
  where
    not_false : (b : Bool) → not b ≡ true → b ≡ false
    not_false true e = cc
    not_false false e = refl

    above : (n : ℕ) → nat_lt 0 (n + 1) ≡ true
    above n = grind (arith, nat_tests)

unseen_away : (seen : List Place) (p : Place) (qs : List Place) → list_any (same_place p) seen ≡ true → Every (λ q. not (list_any (same_place q) seen)) qs → Every (λ q. not (same_place q p)) qs
unseen_away seen p [] e new = tt
unseen_away seen p (q ∷ qs) e new = (ap not (seen_differs seen p q e new.0), unseen_away seen p qs e new.1)

firsts_turn : (seen : List Place) (rows : List Meet) → Ascends (in_turn rows) (firsts_after seen (map place_of rows))
firsts_turn seen [] = tt
firsts_turn seen (row ∷ rows) = at (list_any (same_place (place_of row)) seen) refl (λ more. firsts_turn more rows)
  where
    at : (b : Bool) → list_any (same_place (place_of row)) seen ≡ b → ((more : List Place) → Ascends (in_turn rows) (firsts_after more (map place_of rows)))
        → Ascends (in_turn (row ∷ rows)) (cond b (firsts_after seen (map place_of rows)) (place_of row ∷ firsts_after (seen ++ place_of row ∷ []) (map place_of rows)))
    at true e ih = push_turn row rows (firsts_after seen (map place_of rows))
        (unseen_away seen (place_of row) (firsts_after seen (map place_of rows)) e
        (firsts_unseen seen (map place_of rows))) (ih seen)
    at false e ih =
        let more : List Place = seen ++ place_of row ∷ [] in
        let away : Every (λ q. not (same_place q (place_of row))) (firsts_after more (map place_of rows)) = unseen_away
        more (place_of row) (firsts_after more (map place_of rows)) (last_seen seen (place_of row))
        (firsts_unseen more (map place_of rows)) in
        (own_first row rows (firsts_after more (map place_of rows)) away, push_turn row rows (firsts_after more (map place_of rows)) away (ih more))

-- the heads stand in order of their first rows, so each stands once
pub heads-ordered : (w : PlainWorld) → AllPairs (λ p q. first_row p (scan w) < first_row q (scan w)) (heads w)
heads-ordered w = λ i j d less within.
    is_less (first_row (slice_index_or (heads w) i d) (scan w)) (first_row (slice_index_or (heads w) j d) (scan w))
    (AllPairs-Ascends (in_turn (scan w)) (heads w) (firsts_turn [] (scan w)) i j d less within)
  where
    is_less : (a b : ℕ) → nat_lt a b ≡ true → a < b
    is_less a b e = grind (arith, nat_tests)

-- what is new, and what was seen, is what is there or was seen
firsts_all : (q : Place) (seen ps : List Place) → list_any (same_place q) seen || list_any (same_place q) (firsts_after seen ps) ≡ list_any (same_place q) seen || list_any (same_place q) ps
firsts_all q seen [] = refl
firsts_all q seen (p ∷ ps) =
    at (list_any (same_place p) seen) refl (λ more. firsts_all q more ps)
  where
    skip : (b s : Bool) → same_place q p ≡ b → list_any (same_place q) seen ≡ s → list_any (same_place p) seen ≡ true → s || list_any (same_place q) ps ≡ s || (b || list_any (same_place q) ps)
    skip true true e f g = refl
    skip false s e f g = refl
    skip true false e f g = let same : q ≡ p = same_is q p e in let h : list_any (same_place q) seen ≡ true = rw (same) g in cc

    move : (s b t : Bool) → (s || (b || false)) || t ≡ s || (b || t)
    move true b t = refl
    move false true t = refl
    move false false t = refl

    at : (b : Bool) → list_any (same_place p) seen ≡ b
        → ((more : List Place) → list_any (same_place q) more || list_any (same_place q) (firsts_after more ps) ≡ list_any (same_place q) more || list_any (same_place q) ps)
        → list_any (same_place q) seen || list_any (same_place q)
        (cond b (firsts_after seen ps) (p ∷ firsts_after (seen ++ p ∷ []) ps))
        ≡ list_any (same_place q) seen || (same_place q p || list_any (same_place q) ps)
    at true e ih = ih seen ∙ skip (same_place q p) (list_any (same_place q) seen) refl refl e
    at false e ih =
        let next = ih (seen ++ p ∷ []) in
        let one = list_any-append (same_place q) seen (p ∷ []) in
        sym (move (list_any (same_place q) seen) (same_place q p) (list_any (same_place q) (firsts_after (seen ++ p ∷ []) ps)))
        ∙ ap (λ b. b || list_any (same_place q) (firsts_after (seen ++ p ∷ []) ps)) (sym one)
        ∙ next
        ∙ ap (λ b. b || list_any (same_place q) ps) one
        ∙ move (list_any (same_place q) seen) (same_place q p) (list_any (same_place q) ps)

any_mapped : (q : Place) (rows : List Meet) → list_any (same_place q) (map place_of rows) ≡ list_any (λ row. same_place q (place_of row)) rows
any_mapped q [] = refl
any_mapped q (row ∷ rows) = ap (λ b. same_place q (place_of row) || b) (any_mapped q rows)

there_any : (p : Place) (ps : List Place) → Contains ps p → list_any (same_place p) ps ≡ true
there_any p ps h = list_any-from_Any (same_place p) ps (h.0, p, h.1, h.2, same_self p)

any_there : (p : Place) (ps : List Place) → list_any (same_place p) ps ≡ true → Contains ps p
any_there p ps e = let any = Any-from_list_any (same_place p) ps e in let same : p ≡ any.1 = same_is p any.1 any.4 in rw same (any.0, any.2, any.3)

-- the heads are the places that begin a row
pub heads-members : (w : PlainWorld) (p : Place) → Contains (heads w) p ↔ Any (λ row. place_of row ≡ p) (scan w)
heads-members w p = (begins, begun)
  where
    same_list : list_any (same_place p) (heads w) ≡ list_any (λ row. same_place p (place_of row)) (scan w)
    same_list = firsts_all p [] (map place_of (scan w)) ∙ any_mapped p (scan w)

    begins : Contains (heads w) p → Any (λ row. place_of row ≡ p) (scan w)
    begins h =
        let any = Any-from_list_any (λ row. same_place p (place_of row)) (scan w) (sym same_list ∙ there_any p (heads w) h) in
        (any.0, any.1, any.2, any.3, sym (same_is p (place_of any.1) any.4))

    begun : Any (λ row. place_of row ≡ p) (scan w) → Contains (heads w) p
    begun h = any_there p (heads w) (same_list ∙ list_any-from_Any (λ row. same_place p (place_of row)) (scan w) (h.0, h.1, h.2, h.3, rw (h.4) (same_self p)))

-- whether a row is among those that a place begins
has_row-partners : (p : Place) (row : Meet) (rows : List Meet) → has_row (partners_of rows p) row ≡ has_row rows row && same_place p (place_of row)
has_row-partners p row [] = refl
has_row-partners p row (r ∷ rows) =
    at (same_place p (place_of r)) (same_row row r) (same_place p (place_of row)) refl
    (λ e. ap (λ x. same_place p (place_of x)) (sym (same_row_is row r e))) (has_row rows row)
    (has_row-partners p row rows)
  where
    none : (x : Bool) → x && false ≡ false
    none true = refl
    none false = refl

    at : (b m s : Bool) → same_row row r ≡ m → (m ≡ true → b ≡ s) → (x : Bool) → has_row (partners_of rows p) row ≡ x && s
        → has_row (cond b (r ∷ partners_of rows p) (partners_of rows p)) row ≡ (m || x) && s
    at true true s is same x ih = rw is (same refl)
    at true false s is same x ih = rw is ih
    at false true s is same x ih = let dark : false ≡ s = same refl in rw (ih, ← dark) (none x)
    at false false s is same x ih = ih

-- the rows of a head are the rows of the scan that it begins
pub partners-members : (w : PlainWorld) (p : Place) (row : Meet) → Contains (partners w p) row ↔ (Contains (scan w) row × (place_of row ≡ p))
partners-members w p row = (has, λ h. kept h.0 h.1)
  where
    has : Contains (partners w p) row → Contains (scan w) row × (place_of row ≡ p)
    has h = let two = both_true (has_row (scan w) row) (same_place p (place_of row)) (sym (has_row-partners p row (scan w)) ∙ has_row-Contains (partners w p) row h) in
        (Contains-has_row (scan w) row two.0, sym (same_is p (place_of row) two.1))

    kept : Contains (scan w) row → place_of row ≡ p → Contains (partners w p) row
    kept h is = Contains-has_row (partners w p) row (has_row-partners p row (scan w) ∙ rw (has_row-Contains (scan w) row h, is) (same_self p))

-- no place begins a row where no row is there, and only there
pub heads-none : (rows : List Meet) → (heads_of rows ≡ []) ↔ (rows ≡ [])
heads-none [] = (λ e. refl, λ e. refl)
heads-none (row ∷ rows) = (λ e. cc, λ e. cc)

-- a row that is there gives its place a partner
some_partner : (p : Place) (rows : List Meet) → list_any (λ row. same_place p (place_of row)) rows ≡ true → 0 < length (partners_of rows p)
some_partner p [] e = cc
some_partner p (row ∷ rows) e = at (same_place p (place_of row)) e (some_partner p rows)
  where
    at : (b : Bool) → b || list_any (λ r. same_place p (place_of r)) rows ≡ true → (list_any (λ r. same_place p (place_of r)) rows ≡ true → 0 < length (partners_of rows p))
        → 0 < length (cond b (row ∷ partners_of rows p) (partners_of rows p))
    at true e more = omega arith
    at false e more = more e

-- each place that begins a row has a partner
pub heads-partners : (rows : List Meet) (k : ℕ) (p : Place) → slice_get (heads_of rows) k ≡ Some p → 0 < length (partners_of rows p)
heads-partners rows k p e =
    let there : Contains (heads_of rows) p = (k, slice_get_within (heads_of rows) k p e, get_or_from_slice_get (heads_of rows) k p p e) in
    some_partner p rows (sym (firsts_all p [] (map place_of rows) ∙ any_mapped p rows) ∙ there_any p (heads_of rows) there)

-- a partner of a place is a row that it begins
pub partners-rows : (rows : List Meet) (p : Place) (j : ℕ) (row : Meet) → slice_get (partners_of rows p) j ≡ Some row → Contains rows row × (place_of row ≡ p)
partners-rows rows p j row e =
    let within : j < length (partners_of rows p) = slice_get_within (partners_of rows p) j row e in
    let is : slice_index_or (partners_of rows p) j row ≡ row = get_or_from_slice_get (partners_of rows p) j row row e in
    let two = both_true (has_row rows row) (same_place p (place_of row)) (sym (has_row-partners p row rows) ∙ has_row-Contains (partners_of rows p) row (j, within, is)) in
    (Contains-has_row rows row two.0, sym (same_is p (place_of row) two.1))
