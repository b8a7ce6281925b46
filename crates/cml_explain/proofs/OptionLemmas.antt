-- The first of two that may be there, and the first of several that are seen.
use Rattle.std.proofs.Common.{◌≡◌, Bool, true, false, cond, List, [], ◌∷◌, map, Option, Some, None, refl, ap, sym}
use Rattle.std.specs.Prelude.{find}
use Rattle.std.specs.Option.{option_map, option_or}

pub or_first : {A : Type 0} (a b : Option A) (x : A) → Some x ≡ a → Some x ≡ option_or a b
or_first a b x h = ap (λ o. option_or o b) h

pub or_second : {A : Type 0} (a b : Option A) → None ≡ a → option_or a b ≡ b
or_second a b h = sym (ap (λ o. option_or o b) h)

-- to find among the views is to find, and then to view
pub find_seen : {A B : Type 0} (view : A → B) (test : B → Bool) (found : List A) →
    option_map view (find (λ x. test (view x)) found) ≡ find test (map view found)
find_seen view test [] = refl
find_seen view test (x ∷ found) =
    elim (test (view x)) as (λ b. option_map view (cond b (Some x) (find (λ y. test (view y)) found)) ≡ cond b (Some (view x)) (find test (map view found)))
    [ true ↦ refl | false ↦ find_seen view test found ]
