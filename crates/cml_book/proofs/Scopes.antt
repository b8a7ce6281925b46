-- The scope at a place of a list.
use Rattle.std.proofs.Common.{◌≡◌, ℕ, zero, suc, ◌+◌, ◌<◌, Bool, true, false, cond, List, [], ◌∷◌, ◌++◌, length}
use Rattle.std.proofs.Common.{drop, map, refl, ap, sym, ◌∙◌, arith, Some, slice_index_or, append_assoc, subst}
use Rattle.std.proofs.Common.{length-append, ◌≤◌}
use Rattle.std.specs.Prelude.{slice_get, slice_set}
use Rattle.std.specs.List.{filter}
use Rattle.cml_value.specs.Group.{PlainScope, nacks_of, lies_outside}
use Rattle.cml_value.specs.declared.number.NackId.{NackId}
use Rattle.cml_group.specs.Leaves.{numbers}
use Rattle.cml_scan.specs.declared.object.Light.{Light}
use Rattle.cml_value.specs.Nack.{PlainNack, live, fired, held}
use Rattle.cml_book.specs.Keeping.{nack_light, AreLiveNacks}
use Rattle.cml_book.proofs.NackLemmas.{first_live, rest_live, settled_one, settled_in_turn, settled_one-dead}

-- the scope at a place, by its nack and by whether the leaf lies outside it
pub record IsScopeAt (n i : ℕ) (ss : List PlainScope) (k : ℕ) (is_lost : Bool) : Type 0 where
  pub scope : PlainScope
  pub found : drop i ss ≡ scope ∷ drop (suc i) ss
  pub nack_is : scope.nack ≡ k
  pub lost_is : lies_outside n scope ≡ is_lost

pub scope_at : (n i : ℕ) (ss : List PlainScope) (ks : List NackId) (is_lost : Bool) (d : NackId) → i < length ks → numbers ks ≡ nacks_of ss → slice_get (map (lies_outside n) ss) i ≡ Some is_lost
    → IsScopeAt n i ss (slice_index_or ks i d).0 is_lost
scope_at n i [] ks b d h e f = cc
scope_at n i (s ∷ ss) [] b d h e f = absurd (omega arith)
scope_at n zero (s ∷ ss) (k ∷ ks) b d h e f = record { scope = s; found = refl; nack_is = cc; lost_is = cc }
scope_at n (suc i) (s ∷ ss) (k ∷ ks) b d h e f =
    let rest : numbers ks ≡ nacks_of ss = cc in
    let p = scope_at n i ss ks b d (omega arith) rest f in
    record { scope = p.scope; found = p.found; nack_is = p.nack_is; lost_is = p.lost_is }

-- the lights of the scopes from a place on
pub lights_from : (n i : ℕ) (ss : List PlainScope) (k : NackId) (is_lost : Bool) (seen all : List Light) → IsScopeAt n i ss k.0 is_lost
    → seen ++ map nack_light (nacks_of (filter (lies_outside n) (drop i ss))) ≡ all
    → cond is_lost (seen ++ nack_light k.0 ∷ []) seen ++ map nack_light (nacks_of (filter (lies_outside n) (drop (suc i) ss))) ≡ all
lights_from n i ss k is_lost seen all p h =
    at is_lost p.lost_is (ap (λ xs. seen ++ map nack_light (nacks_of (filter (lies_outside n) xs))) (sym p.found) ∙ h)
  where
    at : (b : Bool) → lies_outside n p.scope ≡ b → seen ++ map nack_light (nacks_of (filter (lies_outside n) (p.scope ∷ drop (suc i) ss))) ≡ all
        → cond b (seen ++ nack_light k.0 ∷ []) seen ++ map nack_light (nacks_of (filter (lies_outside n) (drop (suc i) ss))) ≡ all
    at true e g = append_assoc seen (nack_light k.0 ∷ []) (map nack_light (nacks_of (filter (lies_outside n) (drop (suc i) ss)))) ∙ (rw (e, p.nack_is) at g)
    at false e g = rw e at g

-- one more scope was settled
pub settle_step : (n i : ℕ) (ss : List PlainScope) (k : ℕ) (is_lost : Bool) (ns new all : List PlainNack) → IsScopeAt n i ss k is_lost → new ≡ slice_set ns k (cond is_lost fired held)
    → settled_in_turn n (drop i ss) ns ≡ all → AreLiveNacks (nacks_of (drop i ss)) ns → (settled_in_turn n (drop (suc i) ss) new ≡ all) × AreLiveNacks (nacks_of (drop (suc i) ss)) new
settle_step n i ss k is_lost ns new all p is leads alive =
    let now : new ≡ slice_set ns p.scope.nack (settled_one n p.scope) = is ∙ rw (p.nack_is, p.lost_is) refl in
    let before = subst (λ xs. AreLiveNacks (nacks_of xs) ns) p.found alive in
    rw now (
      ap (λ xs. settled_in_turn n xs ns) (sym p.found) ∙ leads,
      rest_live p.scope.nack (nacks_of (drop (suc i) ss)) ns (settled_one n p.scope) (settled_one-dead n p.scope) before,
    )

-- the nack that comes next is live
pub next_live : (n i : ℕ) (ss : List PlainScope) (k : ℕ) (is_lost : Bool) (ns : List PlainNack) → IsScopeAt n i ss k is_lost → AreLiveNacks (nacks_of (drop i ss)) ns → slice_get ns k ≡ Some live
next_live n i ss k is_lost ns p alive =
    rw (← p.nack_is) (first_live p.scope.nack (nacks_of (drop (suc i) ss)) ns (subst (λ xs. AreLiveNacks (nacks_of xs) ns) p.found alive))

-- as many nacks as scopes
pub length_nacks : (ss : List PlainScope) (ks : List NackId) → numbers ks ≡ nacks_of ss → length ks ≡ length ss
length_nacks [] [] e = refl
length_nacks [] (k ∷ ks) e = cc
length_nacks (s ∷ ss) [] e = cc
length_nacks (s ∷ ss) (k ∷ ks) e = let rest : numbers ks ≡ nacks_of ss = cc in let n = length_nacks ss ks rest in omega arith

-- at most one light more
pub length_lit : (b : Bool) (k : ℕ) (old new : List Light) → new ≡ cond b (old ++ nack_light k ∷ []) old → length new ≤ length old + 1
length_lit true k old new e = rw (e, length-append) (omega arith)
length_lit false k old new e = rw e (omega arith)
