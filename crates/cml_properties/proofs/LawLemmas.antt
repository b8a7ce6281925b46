-- What holds of all kinds and of all runs: each kind has its word, broken properties stay broken, runs agree by a third, and no breach is left out.
use Rattle.std.proofs.Common.{◌≡◌, ℕ, zero, suc, ◌+◌, ◌<◌, Bool, true, false, List, [], ◌∷◌, ◌++◌, length, get_or, refl, sym, ◌∙◌, subst, arith, inl, inr}
use Rattle.std.specs.Prelude.{Contains}
use Rattle.std.proofs.lemmas.Bool.{both_ways}
use Rattle.std.proofs.lemmas.List.Sorted.{IsPermutation-trans, IsPermutation-sym}
use Rattle.cml_text.specs.Lines.{lines}
use Rattle.cml_properties.specs.declared.breach.Run.{Run}
use Rattle.cml_properties.specs.declared.property.Property.{Property}
use Rattle.cml_properties.specs.declared.property.Property.TheVariants.{Never, Always, Once, Before, SameLines, SameOrder, Empty}
use Rattle.cml_properties.specs.declared.property.Finish.TheVariants.{GoesOn}
use Rattle.cml_properties.specs.Breaches.{KeepsBeside, AreBreachesFrom}
use Rattle.cml_properties.specs.declared.kind.PropertyKind.TheVariants as kind
use Rattle.cml_properties.specs.Laws.{EachHasItsWord, StaysBroken, AgreeByAThird, NoBreachIsLeftOut}
use Rattle.cml_properties.specs.Properties.{keeps}
use Rattle.cml_properties.proofs.BreakLemmas.{kept_open}
use Rattle.cml_properties.proofs.HoldLemmas.{kept_front}

pub each_has_its_word : EachHasItsWord
each_has_its_word kind.Never = refl
each_has_its_word kind.Always = refl
each_has_its_word kind.Once = refl
each_has_its_word kind.Before = refl
each_has_its_word kind.SameLines = refl
each_has_its_word kind.SameOrder = refl
each_has_its_word kind.Empty = refl

-- what can't be true is false
false_by : (b : Bool) → (b ≡ true → ⊥) → b ≡ false
false_by true none = absurd (none refl)
false_by false none = refl

pub stays_broken : StaysBroken
stays_broken property lines others finish broken = false_by (keeps property (lines ++ others) finish)
    (λ kept. both_ways (keeps property lines GoesOn) broken (kept_front property lines others (kept_open property (lines ++ others) finish kept)))

pub agree_by_a_third : AgreeByAThird
agree_by_a_third (Never p) first these those a b = b
agree_by_a_third (Always p) first these those a b = b
agree_by_a_third (Once p) first these those a b = b
agree_by_a_third (Before f q) first these those a b = b
agree_by_a_third SameLines first these those a b = IsPermutation-trans these first those (IsPermutation-sym first these a) b
agree_by_a_third SameOrder first these those a b = sym a ∙ b
agree_by_a_third Empty first these those a b = b

-- each of the runs of which nothing is told keeps the property beside the first
each_keeps : (property : Property) (first : List (List ℕ)) (n : ℕ) (runs : List Run) → AreBreachesFrom property first n runs [] →
    (k : ℕ) (d : Run) → k < length runs → KeepsBeside property first (get_or runs k d)
each_keeps property first n [] none k d lt = absurd (omega arith)
each_keeps property first n (run ∷ runs) (inl told) zero d lt = told.0
each_keeps property first n (run ∷ runs) (inl told) (suc k) d lt = each_keeps property first (n + 1) runs told.1 k d (omega arith)
each_keeps property first n (run ∷ runs) (inr (line, others, breaks, rest, same)) k d lt = cc

found_keeps : (property : Property) (first : List (List ℕ)) (runs : List Run) (run : Run) → AreBreachesFrom property first 0 runs [] → Contains runs run →
    KeepsBeside property first run
found_keeps property first runs run none at = subst (λ (r : Run). KeepsBeside property first r) at.2 (each_keeps property first 0 runs none at.0 run at.1)

beside_another : (property : Property) (first : List (List ℕ)) (one other : Run) → KeepsBeside property first one → KeepsBeside property first other →
    KeepsBeside property (lines one.output.now) other
beside_another property first one other x y = record {
  printed = y.printed;
  are = y.are;
  kept = y.kept;
  agrees = agree_by_a_third property first (lines one.output.now) (lines other.output.now) x.agrees y.agrees;
}

pub no_breach_is_left_out : NoBreachIsLeftOut
no_breach_is_left_out property [] none one other at at' = absurd (omega (arith, at.1))
no_breach_is_left_out property (head ∷ runs) none one other at at' =
    let first : List (List ℕ) = lines head.output.now in
    beside_another property first one other (found_keeps property first (head ∷ runs) one none at) (found_keeps property first (head ∷ runs) other none at')
