-- The walk along a ring.
use Rattle.std.proofs.Common.{◌≡◌, ◌≢◌, ℕ, suc, ◌+◌, ◌-◌, ◌<◌, ◌≤◌, List, [], ◌∷◌, ◌++◌, length, Option, Some, None, refl, sym, ap, ◌∙◌, arith, append_assoc}
use Rattle.std.specs.Prelude.{option_map}
use Rattle.std.specs.Option.{option_or}
use Rattle.std.proofs.lemmas.Bool.Decides.{nat_tests}
use Rattle.cml_facts.specs.Rings.{next_of, way_to, ring_from, first_ring}

-- the way so far, and what is left of it
pub onward : List ℕ → Option (List ℕ) → Option (List ℕ)
onward way rest = option_map (λ more. way ++ more) rest

pub onward-none : (way : List ℕ) → onward way None ≡ None
unfolding onward
onward-none way = refl

grown : (way : List ℕ) (t : ℕ) (rest : Option (List ℕ)) → onward way (option_map (λ more. t ∷ more) rest) ≡ onward (way ++ t ∷ []) rest
unfolding onward
grown way t None = refl
grown way t (Some more) = ap Some (sym (append_assoc way (t ∷ []) more))

-- the whole way
pub begins : (nexts : List (Option ℕ)) (start : ℕ) → onward (start ∷ []) (way_to nexts start (length nexts) (next_of nexts start)) ≡ ring_from nexts start
unfolding onward
begins nexts start = refl

one_step : (nexts : List (Option ℕ)) (way : List ℕ) (end t left : ℕ) → t ≢ end → onward way (way_to nexts end (suc left) (Some t)) ≡ onward (way ++ t ∷ []) (way_to nexts end left (next_of nexts t))
one_step nexts way end t left differs =
    let e : way_to nexts end (suc left) (Some t) ≡ option_map (λ more. t ∷ more) (way_to nexts end left (next_of nexts t)) = grind (arith, nat_tests) in
    ap (onward way) e ∙ grown way t (way_to nexts end left (next_of nexts t))

arrival : (nexts : List (Option ℕ)) (way : List ℕ) (end t left : ℕ) → t ≡ end → onward way (way_to nexts end (suc left) (Some t)) ≡ Some (way ++ t ∷ [])
unfolding onward
arrival nexts way end t left same =
    let e : way_to nexts end (suc left) (Some t) ≡ Some (t ∷ []) = grind (arith, nat_tests) in
    ap (λ rest. option_map (λ more. way ++ more) rest) e

at_left : (n i : ℕ) → i < n → n - i ≡ suc (n - (i + 1))
at_left n i h = omega arith

pub steps_on : (nexts : List (Option ℕ)) (way : List ℕ) (end t n i : ℕ) (all : Option (List ℕ)) → i < n → t ≢ end
    → onward way (way_to nexts end (n - i) (Some t)) ≡ all → onward (way ++ t ∷ []) (way_to nexts end (n - (i + 1)) (next_of nexts t)) ≡ all
steps_on nexts way end t n i all h differs so_far =
    sym (one_step nexts way end t (n - (i + 1)) differs) ∙ (ap (λ k. onward way (way_to nexts end k (Some t))) (sym (at_left n i h)) ∙ so_far)

pub arrives : (nexts : List (Option ℕ)) (way : List ℕ) (end t n i : ℕ) (all : Option (List ℕ)) → i < n → t ≡ end
    → onward way (way_to nexts end (n - i) (Some t)) ≡ all → Some (way ++ t ∷ []) ≡ all
arrives nexts way end t n i all h same so_far =
    sym (arrival nexts way end t (n - (i + 1)) same) ∙ (ap (λ k. onward way (way_to nexts end k (Some t))) (sym (at_left n i h)) ∙ so_far)

-- nobody is waited for
pub stops : (nexts : List (Option ℕ)) (way : List ℕ) (end n i : ℕ) (all : Option (List ℕ)) → i < n → onward way (way_to nexts end (n - i) None) ≡ all → None ≡ all
stops nexts way end n i all h so_far =
    sym (onward-none way) ∙ (ap (λ k. onward way (way_to nexts end k None)) (sym (at_left n i h)) ∙ so_far)

-- no step is left
pub runs_out : (nexts : List (Option ℕ)) (way : List ℕ) (end n i : ℕ) (t : Option ℕ) (all : Option (List ℕ)) → n ≤ i → onward way (way_to nexts end (n - i) t) ≡ all → None ≡ all
runs_out nexts way end n i t all h so_far =
    let e : n - i ≡ 0 = omega arith in
    sym (onward-none way) ∙ (ap (λ k. onward way (way_to nexts end k t)) (sym e) ∙ so_far)

-- the walk begins
pub begun : (nexts : List (Option ℕ)) (way : List ℕ) (start : ℕ) (t : Option ℕ) → way ≡ start ∷ [] → t ≡ next_of nexts start
    → onward way (way_to nexts start (length nexts - 0) t) ≡ ring_from nexts start
begun nexts way start t e f =
    let z : length nexts - 0 ≡ length nexts = omega arith in
    ap (λ w. onward w (way_to nexts start (length nexts - 0) t)) e
    ∙ (ap (λ n. onward (start ∷ []) (way_to nexts start (length nexts - 0) n)) f
    ∙ (ap (λ k. onward (start ∷ []) (way_to nexts start k (next_of nexts start))) z ∙ begins nexts start))

-- the first ring, one thread after another
pub first_next : (nexts : List (Option ℕ)) (n i : ℕ) (all : Option (List ℕ)) → i < n → ring_from nexts i ≡ None → first_ring nexts i (n - i) ≡ all → first_ring nexts (i + 1) (n - (i + 1)) ≡ all
first_next nexts n i all h none so_far =
    let e : first_ring nexts i (suc (n - (i + 1))) ≡ all = ap (λ k. first_ring nexts i k) (sym (at_left n i h)) ∙ so_far in
    let f : option_or (ring_from nexts i) (first_ring nexts (suc i) (n - (i + 1))) ≡ all = e in
    let g : option_or None (first_ring nexts (suc i) (n - (i + 1))) ≡ all = ap (λ r. option_or r (first_ring nexts (suc i) (n - (i + 1)))) (sym none) ∙ f in
    ap (λ k. first_ring nexts k (n - (i + 1))) (omega arith) ∙ g

pub first_none : (nexts : List (Option ℕ)) (n i : ℕ) (all : Option (List ℕ)) → n ≤ i → first_ring nexts i (n - i) ≡ all → None ≡ all
first_none nexts n i all h so_far = let e : n - i ≡ 0 = omega arith in ap (λ k. first_ring nexts i k) (sym e) ∙ so_far
