-- What is told as a ring is one.
use Rattle.std.proofs.Common.{◌≡◌, ◌≢◌, ℕ, zero, suc, ◌+◌, ◌-◌, ◌<◌, Bool, true, false, List, [], ◌∷◌, ◌++◌}
use Rattle.std.proofs.Common.{length, drop, get_or, Option, Some, None, refl, sym, ap, subst, ◌∙◌, arith, length-drop, eqb-true}
use Rattle.std.specs.Prelude.{◌==◌, if◌then◌else◌, option_map, AllPairs}
use Rattle.std.specs.Option.{option_or}
use Rattle.std.proofs.lemmas.Bool.{eqb-false}
use Rattle.std.proofs.lemmas.List.{get_or-drop}
use Rattle.cml_facts.specs.Rings.{next_of, way_to, ring_from, first_ring, ring_among, EachWaits, IsRing}

-- A way to `end`: from each thread to the next one, and it is come to once, at last.
abbrev pub IsWay : List (Option ℕ) → ℕ → List ℕ → Type 0
IsWay nexts end [] = ⊥
IsWay nexts end (t ∷ []) = t ≡ end
IsWay nexts end (t ∷ u ∷ way) = (t ≢ end) × ((next_of nexts t ≡ Some u) × IsWay nexts end (u ∷ way))

-- the same, of a way that begins with this thread
abbrev pub IsWayFrom : List (Option ℕ) → ℕ → ℕ → List ℕ → Type 0
IsWayFrom nexts end t way = (rest : List ℕ) × (way ≡ t ∷ rest) × IsWay nexts end (t ∷ rest)

way_none : (nexts : List (Option ℕ)) (end n : ℕ) → way_to nexts end n None ≡ None
way_none nexts end zero = refl
way_none nexts end (suc n) = refl

way_on : (nexts : List (Option ℕ)) (end t u : ℕ) (way : List ℕ) (rest : Option (List ℕ)) → t ≢ end → next_of nexts t ≡ Some u
    → ((w : List ℕ) → rest ≡ Some w → IsWayFrom nexts end u w) → option_map (λ w. t ∷ w) rest ≡ Some way → IsWayFrom nexts end t way
way_on nexts end t u way None differs next goes e = absurd (let h : None ≡ Some way = e in cc)
way_on nexts end t u way (Some w) differs next goes e =
    let h = goes w refl in
    let same : t ∷ w ≡ way = cc in
    (w, sym same, subst (λ (v : List ℕ). IsWay nexts end (t ∷ v)) (sym h.1) (differs, (next, h.2)))

way_by : (nexts : List (Option ℕ)) (end n t : ℕ) (way : List ℕ) (b : Bool) (next : Option ℕ) → (t == end) ≡ b → next_of nexts t ≡ next
    → ((u : ℕ) (w : List ℕ) → way_to nexts end n (Some u) ≡ Some w → IsWayFrom nexts end u w)
    → (if b then Some (t ∷ []) else option_map (λ w. t ∷ w) (way_to nexts end n next)) ≡ Some way → IsWayFrom nexts end t way
way_by nexts end n t way true next is at goes e = let same : t ∷ [] ≡ way = cc in ([], sym same, eqb-true t end is)
way_by nexts end n t way false None is at goes e =
    let h : None ≡ Some way = sym (ap (option_map (λ w. t ∷ w)) (way_none nexts end n)) ∙ e in absurd cc
way_by nexts end n t way false (Some u) is at goes e =
    way_on nexts end t u way (way_to nexts end n (Some u)) (eqb-false t end is) at (λ w h. goes u w h) e

way_is : (nexts : List (Option ℕ)) (end n t : ℕ) (way : List ℕ) → way_to nexts end n (Some t) ≡ Some way → IsWayFrom nexts end t way
way_is nexts end zero t way e = absurd (let h : None ≡ Some way = e in cc)
way_is nexts end (suc n) t way e = way_by nexts end n t way (t == end) (next_of nexts t) refl refl (λ u w h. way_is nexts end n u w h) e

-- there is one way from a thread
one_way : (nexts : List (Option ℕ)) (end t : ℕ) (v w : List ℕ) → IsWay nexts end (t ∷ v) → IsWay nexts end (t ∷ w) → v ≡ w
one_way nexts end t [] [] h k = refl
one_way nexts end t [] (u ∷ w) h k = absurd (k.0 h)
one_way nexts end t (u ∷ v) [] h k = absurd (h.0 k)
one_way nexts end t (u ∷ v) (x ∷ w) h k =
    let both : Some u ≡ Some x = sym h.1.0 ∙ k.1.0 in
    let e : u ≡ x = cc in
    ap (λ y. y ∷ v) e ∙ ap (λ rest. x ∷ rest) (one_way nexts end x v w (subst (λ y. IsWay nexts end (y ∷ v)) e h.1.1) k.1.1)

-- from each of its threads on it is a way
way_behind : (nexts : List (Option ℕ)) (end : ℕ) (v : List ℕ) (i d : ℕ) → i < length v → IsWay nexts end v → IsWay nexts end (get_or v i d ∷ drop (i + 1) v)
way_behind nexts end [] i d lt h = absurd (omega arith)
way_behind nexts end (t ∷ v) zero d lt h = h
way_behind nexts end (t ∷ []) (suc i) d lt h = absurd (omega arith)
way_behind nexts end (t ∷ u ∷ v) (suc i) d lt h =
    let e : suc (i + 1) ≡ suc i + 1 = omega arith in
    subst (λ k. IsWay nexts end (get_or (u ∷ v) i d ∷ drop k (t ∷ u ∷ v))) e (way_behind nexts end (u ∷ v) i d (omega arith) h.1.1)

-- no thread of it comes again
not_again : (nexts : List (Option ℕ)) (end t : ℕ) (v : List ℕ) (i d : ℕ) → i < length v → IsWay nexts end (t ∷ v) → get_or v i d ≢ t
not_again nexts end t [] i d lt h same = absurd (omega arith)
not_again nexts end t (u ∷ v) i d lt h same =
    let behind = subst (λ x. IsWay nexts end (x ∷ drop (i + 1) (u ∷ v))) same (way_behind nexts end (u ∷ v) i d lt h.1.1) in
    let e : u ∷ v ≡ drop (i + 1) (u ∷ v) = one_way nexts end t (u ∷ v) (drop (i + 1) (u ∷ v)) h behind in
    omega (arith, ap length e, length-drop (i + 1) (u ∷ v), lt)

told_apart : (nexts : List (Option ℕ)) (end : ℕ) (v : List ℕ) → IsWay nexts end v → AllPairs (λ t u. t ≢ u) v
told_apart nexts end v h i j d lt within same =
    let k = j - (i + 1) in
    let at : get_or (drop (i + 1) v) k d ≡ get_or v j d = get_or-drop (i + 1) v k d ∙ ap (λ n. get_or v n d) (omega arith) in
    not_again nexts end (get_or v i d) (drop (i + 1) v) k d (omega (arith, length-drop (i + 1) v)) (way_behind nexts end v i d (omega arith) h) (at ∙ sym same)

each_on : (nexts : List (Option ℕ)) (end : ℕ) (v : List ℕ) → IsWay nexts end v → EachWaits nexts v
each_on nexts end [] h = absurd h
each_on nexts end (t ∷ []) h = tt
each_on nexts end (t ∷ u ∷ v) h = (h.1.0, each_on nexts end (u ∷ v) h.1.1)

ends_there : (nexts : List (Option ℕ)) (end : ℕ) (v : List ℕ) → IsWay nexts end v → (between : List ℕ) × (v ≡ between ++ end ∷ [])
ends_there nexts end [] h = absurd h
ends_there nexts end (t ∷ []) h = ([], ap (λ x. x ∷ []) h)
ends_there nexts end (t ∷ u ∷ v) h = let more = ends_there nexts end (u ∷ v) h.1.1 in (t ∷ more.0, ap (λ rest. t ∷ rest) more.1)

ring_by : (nexts : List (Option ℕ)) (t : ℕ) (ring way : List ℕ) (next : Option ℕ) → next_of nexts t ≡ next → way_to nexts t (length nexts) next ≡ Some way → ring ≡ t ∷ way → IsRing nexts ring
ring_by nexts t ring way None at e is = let h : None ≡ Some way = sym (way_none nexts t (length nexts)) ∙ e in absurd cc
ring_by nexts t ring way (Some u) at e is =
    let goes = way_is nexts t (length nexts) u way e in
    let there = ends_there nexts t (u ∷ goes.0) goes.2 in
    let whole : ring ≡ t ∷ u ∷ goes.0 = is ∙ ap (λ rest. t ∷ rest) goes.1 in
    record {
      first = t;
      others = there.0;
      goes_round = whole ∙ ap (λ rest. t ∷ rest) there.1;
      once = subst (AllPairs (λ t u. t ≢ u)) there.1 (told_apart nexts t (u ∷ goes.0) goes.2);
      each_waits = subst (EachWaits nexts) (sym whole) (at, each_on nexts t (u ∷ goes.0) goes.2);
    }

ring_if : (nexts : List (Option ℕ)) (t : ℕ) (ring : List ℕ) (way : Option (List ℕ)) → way_to nexts t (length nexts) (next_of nexts t) ≡ way → option_map (λ w. t ∷ w) way ≡ Some ring
    → IsRing nexts ring
ring_if nexts t ring None is e = absurd (let h : None ≡ Some ring = e in cc)
ring_if nexts t ring (Some way) is e = let same : t ∷ way ≡ ring = cc in ring_by nexts t ring way (next_of nexts t) refl is (sym same)

first_is : (nexts : List (Option ℕ)) (t : ℕ) (ring : List ℕ) (here rest : Option (List ℕ)) → (here ≡ Some ring → IsRing nexts ring) → (rest ≡ Some ring → IsRing nexts ring)
    → option_or here rest ≡ Some ring → IsRing nexts ring
first_is nexts t ring None rest f g e = g e
first_is nexts t ring (Some x) rest f g e = f e

ring_of : (nexts : List (Option ℕ)) (ring : List ℕ) (t n : ℕ) → first_ring nexts t n ≡ Some ring → IsRing nexts ring
ring_of nexts ring t zero e = absurd (let h : None ≡ Some ring = e in cc)
ring_of nexts ring t (suc n) e =
    first_is nexts t ring (ring_from nexts t) (first_ring nexts (suc t) n) (ring_if nexts t ring (way_to nexts t (length nexts) (next_of nexts t)) refl) (ring_of nexts ring (suc t) n) e

pub is_ring : (nexts : List (Option ℕ)) (ring : List ℕ) → ring_among nexts ≡ Some ring → IsRing nexts ring
is_ring nexts ring e = ring_of nexts ring 0 (length nexts) e
