-- The first item of a schedule that is not allowed where it stands.
use Rattle.std.proofs.Common.{◌≡◌, ◌∙◌, ◌+◌, ◌≤◌, ℕ, List, ◌∷◌, length, ap, arith, length-append}
use Rattle.cml_check.specs.Syntax.{PlainItem}
use Rattle.cml_hub.specs.Kept.{IsFirstBad}
use Rattle.cml_schedule.specs.declared.item.Item.{Item}

-- it is one of the items
pub bad_within : (p : List (PlainItem ℕ)) (items : List Item) (n : ℕ) → IsFirstBad p items n → (1 ≤ n) × (n ≤ length items)
bad_within p items n bad =
    let all : length items ≡ length bad.before + length (bad.bad ∷ bad.rest) = ap length bad.split ∙ length-append bad.before (bad.bad ∷ bad.rest) in
    let counted : n ≡ length bad.before + 1 = bad.counted in
    (omega (arith, counted), grind (arith, all, counted))
