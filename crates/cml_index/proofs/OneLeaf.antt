-- A walk over the leaves of a thread by what each waits for: what one leaf more adds.
use Rattle.std.proofs.Common.{◌≡◌, ℕ, suc, ◌+◌, ◌<◌, Bool, true, false, cond, List, ◌∷◌, ◌++◌, append_assoc, map, length, drop, get_or, Some, refl, ap, sym, ◌∙◌}
use Rattle.std.specs.Prelude.{slice_get}
use Rattle.std.specs.List.{filter, flat_map}
use Rattle.cml_value.specs.Value.{PlainBase}
use Rattle.cml_scan.specs.declared.object.Light.{Light}
use Rattle.cml_scan.specs.declared.meet.Meet.{Meet}
use Rattle.cml_scan.specs.declared.meet.Meet.TheVariants.{Single}
use Rattle.cml_scan.specs.declared.meet.Place.{Place}
use Rattle.cml_scan.specs.Light.{lit_by}
use Rattle.cml_scan.specs.Order.{place}
use Rattle.cml_scan.specs.Scan.{PlainOffer, leaves_from, pairs_with, single}
use Rattle.cml_index.specs.declared.slot.Wait.{Wait}
use Rattle.cml_index.specs.Heads.{offer_at}
use Rattle.cml_index.specs.Waits.{leaf_wait, lit_wait}
use Rattle.cml_index.proofs.Waits.{at_leaf, one_leaf, lit_is}

-- the place of a leaf of the thread
abbrev pub place_of : ℕ → ℕ → Place
place_of t i = record { tid = record { 0 = t }; leaf = i }

-- the leaf passes a test or not, and the leaves after it stay
pub record IsStep (f : PlainOffer → Bool) (t i : ℕ) (bs : List PlainBase) (passes : Bool) : Type 0 where
  pub places : map place (filter f (leaves_from t i (drop i bs)))
      ≡ cond passes (place_of t i ∷ map place (filter f (leaves_from t (i + 1) (drop (i + 1) bs)))) (map place (filter f (leaves_from t (i + 1) (drop (i + 1) bs))))
  pub count : length (filter f (leaves_from t i (drop i bs)))
      ≡ cond passes (suc (length (filter f (leaves_from t (i + 1) (drop (i + 1) bs))))) (length (filter f (leaves_from t (i + 1) (drop (i + 1) bs))))

pub step : (f : PlainOffer → Bool) (t i : ℕ) (bs : List PlainBase) (ws : List Wait) (d : Wait) (passes : Bool) → ws ≡ map leaf_wait bs → i < length ws
    → ((b : PlainBase) → leaf_wait b ≡ get_or ws i d → passes ≡ f (record { thread = t; leaf = i; base = b })) → IsStep f t i bs passes
step f t i bs ws d passes same within is = at (at_leaf bs ws i d same within).0 passes (whole passes refl)
  where
    rest : List PlainOffer
    rest = filter f (leaves_from t (i + 1) (drop (i + 1) bs))

    leaf : PlainBase → PlainOffer
    leaf b = record { thread = t; leaf = i; base = b }

    whole : (v : Bool) → passes ≡ v → filter f (leaves_from t i (drop i bs)) ≡ cond v (leaf (at_leaf bs ws i d same within).0 ∷ rest) rest
    whole v e = let l = at_leaf bs ws i d same within in one_leaf f t i bs l.0 v l.1.split (sym (is l.0 l.1.waits) ∙ e)

    at : (b : PlainBase) (v : Bool) → filter f (leaves_from t i (drop i bs)) ≡ cond v (leaf b ∷ rest) rest → IsStep f t i bs v
    at b true e = record { places = ap (map place) e; count = ap length e }
    at b false e = record { places = ap (map place) e; count = ap length e }

-- what is read in a list at its first place, and after it
pub first_one : (x : Place) (xs all : List Place) (n : ℕ) → all ≡ x ∷ xs → n ≡ 0 → slice_get all n ≡ Some x
first_one x xs all n e z = rw (e, z) refl

pub later_one : (x : Place) (xs all : List Place) (n m : ℕ) → all ≡ x ∷ xs → n ≡ suc m → slice_get xs m ≡ slice_get all n
later_one x xs all n m e f = rw (e, f) refl

-- the leaf's own row, where it can be taken alone
pub single_step : (told : Light → Bool) (t i : ℕ) (bs : List PlainBase) (ws : List Wait) (d : Wait) (lit : Bool) → ws ≡ map leaf_wait bs → i < length ws → lit ≡ lit_wait told (get_or ws i d)
    → map single (filter (λ o. lit_by told o.base) (leaves_from t i (drop i bs)))
    ≡ cond lit (Single (record { 0 = t }) i
    ∷ map single (filter (λ o. lit_by told o.base) (leaves_from t (i + 1) (drop (i + 1) bs))))
    (map single (filter (λ o. lit_by told o.base) (leaves_from t (i + 1) (drop (i + 1) bs))))
single_step told t i bs ws d lit same within is = at lit (whole lit refl)
  where
    test : PlainOffer → Bool
    test o = lit_by told o.base

    rest : List PlainOffer
    rest = filter test (leaves_from t (i + 1) (drop (i + 1) bs))

    base : PlainBase
    base = (at_leaf bs ws i d same within).0

    whole : (v : Bool) → lit ≡ v → filter test (leaves_from t i (drop i bs)) ≡ cond v (record { thread = t; leaf = i; base = base } ∷ rest) rest
    whole v e =
        let l = at_leaf bs ws i d same within in
        one_leaf test t i bs base v l.1.split (lit_is told base ∙ ap (lit_wait told) l.1.waits ∙ sym is ∙ e)

    at : (v : Bool) → filter test (leaves_from t i (drop i bs)) ≡ cond v (record { thread = t; leaf = i; base = base } ∷ rest) rest
        → map single (filter test (leaves_from t i (drop i bs))) ≡ cond v (Single (record { 0 = t }) i ∷ map single rest) (map single rest)
    at true e = ap (map single) e
    at false e = ap (map single) e

-- the rows that the leaf begins with others
pub pair_step : (os : List PlainOffer) (t i : ℕ) (bs : List PlainBase) (ws : List Wait) (d : Wait) (was now : List Meet) → ws ≡ map leaf_wait bs → i < length ws
    → ((b : PlainBase) → leaf_wait b ≡ get_or ws i d → now ≡ was ++ pairs_with os (offer_at (place_of t i) b))
    → now ++ flat_map (pairs_with os) (leaves_from t (i + 1) (drop (i + 1) bs)) ≡ was ++ flat_map (pairs_with os) (leaves_from t i (drop i bs))
pair_step os t i bs ws d was now same within adds =
    let l = at_leaf bs ws i d same within in
    let later = flat_map (pairs_with os) (leaves_from t (i + 1) (drop (i + 1) bs)) in
    ap (λ rs. rs ++ later) (adds l.0 l.1.waits)
    ∙ append_assoc was (pairs_with os (offer_at (place_of t i) l.0)) later
    ∙ ap (λ xs. was ++ flat_map (pairs_with os) (leaves_from t i xs)) (sym l.1.split)
