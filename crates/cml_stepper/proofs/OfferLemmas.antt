-- Rows that can be taken, whoever took last; and the first of a list.
use Rattle.std.proofs.Common.{◌≡◌, ℕ, List, map, length, take, Option, None, min, ltb, refl, ap, ◌∙◌, arith}
use Rattle.std.specs.Prelude.{option_map}
use Rattle.std.proofs.lemmas.List.{length-take, take-take}
use Rattle.std.proofs.lemmas.Bool.Decides.{nat_tests}
use Rattle.cml_value.specs.Value.{PlainFunction, PlainBase, mtake, mget, mswap, join}
use Rattle.cml_scan.specs.World.{PlainWorld}
use Rattle.cml_scan.specs.declared.meet.Meet.{Meet}
use Rattle.cml_facts.specs.Waits.{awaited_event, object_state, thread_behind, who_is}
use Rattle.cml_stepper.specs.declared.offer.Rows.{Rows}
use Rattle.cml_stepper.specs.Offers.{AreRows, no_taker, offered_row}

behind_same : (f g : ℕ → Option ℕ) (b : PlainBase) → ((m : ℕ) → f m ≡ g m) → thread_behind f b ≡ thread_behind g b
behind_same f g (mtake m) same = same m
behind_same f g (mget m) same = same m
behind_same f g (mswap m v) same = same m
behind_same f g (join t) same = refl
behind_same f g _ same = refl

-- what is told where nobody took an M-variable
pub told_of_nobody : (w : PlainWorld) (began : List PlainFunction) (taker : ℕ → Option ℕ) (b : PlainBase) → ((m : ℕ) → taker m ≡ None) →
    awaited_event w began taker b ≡ awaited_event w began no_taker b
told_of_nobody w began taker b none = ap (λ t. record { base = b; state = object_state w b; behind = option_map (who_is began) t }) (behind_same taker no_taker b none)

more_first : (n : ℕ) → ltb 20 (min 21 n) ≡ ltb 20 n
more_first n = grind (arith, nat_tests)

-- one row more than are listed is enough to tell whether there are more
pub first_rows : (w : PlainWorld) (began : List PlainFunction) (n : ℕ) (meets : List Meet) (x : Rows) → AreRows w began n (take 21 meets) x → AreRows w began n meets x
first_rows w began n meets x are = record {
  first_is = are.first_is;
  rows = are.rows ∙ ap (map (offered_row w began)) (take-take 20 21 meets (omega arith));
  more = are.more ∙ (ap (ltb 20) (length-take 21 meets) ∙ more_first (length meets));
}
