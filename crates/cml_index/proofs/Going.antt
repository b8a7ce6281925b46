-- One thread after another goes.
use Rattle.std.proofs.Common.{◌≡◌, ◌≢◌, ℕ, zero, suc, ◌+◌, ◌*◌, ◌<◌, ◌≤◌, Bool, true, false, not, ◌||◌, nat_eq, cond, List, [], ◌∷◌, ◌++◌, length, take, get_or, refl, ap, sym, ◌∙◌, arith}
use Rattle.std.specs.List.{filter, list_any, Any, All, AllPairs}
use Rattle.std.proofs.lemmas.Bool.Decides.{nat_tests}
use Rattle.std.proofs.lemmas.List.{take_more}
use Rattle.std.proofs.lemmas.List.Folds.{list_any-append, list_any_at}
use Rattle.cml_value.specs.declared.number.Tid.{Tid}
use Rattle.cml_scan.specs.World.{PlainEntry}
use Rattle.cml_scan.specs.Scan.{is_among}
use Rattle.cml_scan.specs.Table.{without, IsThere, IsNackOf}
use Rattle.cml_scan.specs.Scan.{PlainOffer, offers_of}
use Rattle.cml_scan.specs.Order.{Every}
use Rattle.cml_scan.specs.declared.object.Light.{Light}
use Rattle.cml_scan.specs.declared.object.Light.TheVariants as of
use Rattle.cml_value.specs.declared.number.NackId.{NackId}
use Rattle.std.proofs.lemmas.List.Elements.{All-nil, All-cons, All-head, All-tail}
use Rattle.std.proofs.lemmas.List.Filters.{length-filter_both}
use Rattle.cml_index.specs.Posts.{gone_leaves}
use Rattle.cml_index.proofs.Parted.{offers_by}
use Rattle.cml_index.proofs.Lit.{at_place}

twice : (t : Tid) (gs : List Tid) (es : List PlainEntry) → without (t ∷ []) (without gs es) ≡ without (gs ++ t ∷ []) es
twice t gs [] = refl
twice t gs (e ∷ es) = rw (list_any-append (λ (g : Tid). nat_eq g.0 e.thread) gs (t ∷ [])) (at (is_among gs e.thread) (nat_eq t.0 e.thread) refl (twice t gs es))
  where
    at : (b c : Bool) → nat_eq t.0 e.thread ≡ c → without (t ∷ []) (without gs es) ≡ without (gs ++ t ∷ []) es
        → without (t ∷ []) (cond (not b) (e ∷ without gs es) (without gs es)) ≡ cond (not (b || (c || false))) (e ∷ without (gs ++ t ∷ []) es) (without (gs ++ t ∷ []) es)
    at true c f k = k
    at false true f k = rw f k
    at false false f k = rw f (ap (λ ys. e ∷ ys) k)

pub without_more : (gone : List Tid) (i : ℕ) (d : Tid) (es : List PlainEntry) → i < length gone → without (get_or gone i d ∷ []) (without (take i gone) es) ≡ without (take (i + 1) gone) es
without_more gone i d es within = twice (get_or gone i d) (take i gone) es ∙ ap (λ gs. without gs es) (sym (take_more gone i d within))

pub without_none : (es : List PlainEntry) → es ≡ without [] es
without_none [] = refl
without_none (e ∷ es) = ap (λ ys. e ∷ ys) (without_none es)

-- an element that passes is still there after a filter that it passes too
any_filter : (f p : PlainEntry → Bool) (es : List PlainEntry) → ((e : PlainEntry) → p e ≡ true → f e ≡ true) → list_any p es ≡ true → list_any p (filter f es) ≡ true
any_filter f p [] h there = there
any_filter f p (e ∷ es) h there = at (f e) (p e) refl refl there (any_filter f p es h)
  where
    at : (a b : Bool) → f e ≡ a → p e ≡ b → b || list_any p es ≡ true → (list_any p es ≡ true → list_any p (filter f es) ≡ true) → list_any p (cond a (e ∷ filter f es) (filter f es)) ≡ true
    at true true u v t k = rw v refl
    at true false u v t k = rw v (k t)
    at false true u v t k = let on : f e ≡ true = h e v in cc
    at false false u v t k = k t

as_any : (t : ℕ) (es : List PlainEntry) → Any (λ e. e.thread ≡ t) es → list_any (λ e. nat_eq e.thread t) es ≡ true
as_any t es (k, x, within, at, is) = list_any_at (λ e. nat_eq e.thread t) es k x within (rw at (same x.thread t is))
  where
    same : (a b : ℕ) → a ≡ b → nat_eq a b ≡ true
    same a b e = grind (arith, nat_tests)

from_any : (t : ℕ) (es : List PlainEntry) → list_any (λ e. nat_eq e.thread t) es ≡ true → Any (λ e. e.thread ≡ t) es
from_any t [] there = cc
from_any t (e ∷ es) there = at (nat_eq e.thread t) refl there (from_any t es)
  where
    same : (a b : ℕ) → nat_eq a b ≡ true → a ≡ b
    same a b e = grind (arith, nat_tests)

    at : (b : Bool) → nat_eq e.thread t ≡ b → b || list_any (λ x. nat_eq x.thread t) es ≡ true
        → (list_any (λ x. nat_eq x.thread t) es ≡ true → Any (λ x. x.thread ≡ t) es) → Any (λ x. x.thread ≡ t) (e ∷ es)
    at true u t_ k = (0, e, omega arith, refl, same e.thread t u)
    at false u t_ k = let r = k t_ in (suc r.0, r.1, omega (arith, r.2), r.3, r.4)

-- no earlier one is the same
not_among : (gone : List Tid) (i : ℕ) (d : Tid) → AllPairs (λ a b. a.0 ≢ b.0) gone → i < length gone → is_among (take i gone) (get_or gone i d).0 ≡ false
not_among gone zero d once within = refl
not_among [] (suc i) d once within = refl
not_among (g ∷ gone) (suc i) d once within =
    let apart : g.0 ≢ (get_or gone i d).0 = once 0 (suc i) d (omega arith) within in
    rw (no_eq g.0 (get_or gone i d).0 apart) (not_among gone i d (λ a b d lt in_. once (suc a) (suc b) d (omega arith) (omega arith)) (omega arith))
  where
    no_eq : (a b : ℕ) → a ≢ b → nat_eq a b ≡ false
    no_eq a b e = grind (arith, nat_tests)

pub there_still : (es : List PlainEntry) (gone : List Tid) (i : ℕ) (d : Tid) → All (IsThere es) gone
    → AllPairs (λ a b. a.0 ≢ b.0) gone → i < length gone → IsThere (without (take i gone) es) (get_or gone i d)
there_still es gone i d there once within =
    let t = (get_or gone i d).0 in
    let a : IsThere es (get_or gone i d) = there i d within in
    let away : is_among (take i gone) t ≡ false = not_among gone i d once within in
    from_any t (without (take i gone) es)
    (any_filter (λ e. not (is_among (take i gone) e.thread)) (λ e. nat_eq e.thread t) es
    (λ e h. ap not (ap (is_among (take i gone)) (same e.thread t h) ∙ away)) (as_any t es a))
  where
    same : (a b : ℕ) → nat_eq a b ≡ true → a ≡ b
    same a b e = grind (arith, nat_tests)

pub apart_all : (t : ℕ) (es : List PlainEntry) → Every (λ e. not (nat_eq t e.thread)) es → All (λ e. e.thread ≢ t) es
apart_all t [] each = All-nil (λ (e : PlainEntry). e.thread ≢ t)
apart_all t (e ∷ es) each = All-cons (λ (x : PlainEntry). x.thread ≢ t) e es (apart e.thread t each.0) (apart_all t es each.1)
  where
    apart : (a b : ℕ) → not (nat_eq b a) ≡ true → a ≢ b
    apart a b h = λ e. no_ a b h e
      where
        no_ : (a b : ℕ) → not (nat_eq b a) ≡ true → a ≡ b → ⊥
        no_ a b h e = grind (arith, nat_tests)

-- the looks of a whole change
pub cost_sum : (t0 t1 t2 old left n m d : ℕ) → t1 + left * (d + 2) ≤ t0 + old * (d + 2) + m → t2 ≤ t1 + n * (d + 2) → t2 + (left + n) * (d + 2) ≤ t0 + (old + 2 * n) * (d + 2) + m
cost_sum t0 t1 t2 old left n m d a b = omega arith

pub cost_gone : (t0 t1 gone left m d : ℕ) → t1 + left * (d + 2) ≤ t0 + (gone + left) * (d + 2) + m → t1 ≤ t0 + (gone + 0) * (2 + d) + m
cost_gone t0 t1 gone left m d a = omega arith

pub cost_came : (t0 t1 gone left n m d : ℕ) → t1 + (left + n) * (d + 2) ≤ t0 + (gone + left + 2 * n) * (d + 2) + m → t1 ≤ t0 + (gone + n) * (2 + d) + m
cost_came t0 t1 gone left n m d a = omega arith

-- the leaves are those of the threads that go and those of the others
pub gone_many : (gone : List Tid) (es : List PlainEntry) → length (offers_of es) ≡ gone_leaves gone es + length (offers_of (without gone es))
gone_many gone es =
    let parts : gone_leaves gone es + length (filter (λ o. not (is_among gone o.thread)) (offers_of es))
    ≡ length (offers_of es) = length-filter_both (λ (o : PlainOffer). is_among gone o.thread)
    (λ o. not (is_among gone o.thread)) (λ _. refl) (offers_of es) in
    let rest : length (offers_of (without gone es)) ≡ length (filter (λ o. not (is_among gone o.thread)) (offers_of es)) = ap length (offers_by (λ n. not (is_among gone n)) es) in
    omega (arith, parts, rest)

-- the nacks of the groups that go have their places, so such lights do
pub nacks_named : (p : ℕ → Bool) (named : Light → Bool) → ((k : NackId) → p k.0 ≡ named (of.Nack k)) → (nacks : List ℕ) (lit : List Light) → Every p nacks → All (IsNackOf nacks) lit → Every named lit
nacks_named p named same nacks [] each all = tt
nacks_named p named same nacks (l ∷ lit) each all = (one l (All-head (IsNackOf nacks) l lit all), nacks_named p named same nacks lit each (All-tail (IsNackOf nacks) l lit all))
  where
    one : (l : Light) → IsNackOf nacks l → named l ≡ true
    one (of.Nack k) (i, within, at) = sym (same k) ∙ ap p (sym at) ∙ at_place p nacks i k.0 within each
    one _ h = absurd h
