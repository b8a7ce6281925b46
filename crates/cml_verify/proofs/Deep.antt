-- To each state a schedule leads that has as many items as its depth says.
use Rattle.std.proofs.Common.{◌≡◌, ℕ, zero, suc, ◌+◌, ◌<◌, List, [], ◌∷◌, ◌++◌, length, Some, slice_get, ap, sym, ◌∙◌, arith, length-append}
use Rattle.std.specs.Prelude.{option_and_then}
use Rattle.std.proofs.lemmas.Option.{slice_get_within, option_and_then_some}
use Rattle.cml_verify.specs.Systems.{System, run}
use Rattle.cml_verify.specs.Searches.{Depths, IsTrail}
use Rattle.cml_verify.proofs.Runs.{run-push}
use Rattle.cml_verify.specs.Places.{there}

module _ {S I : Type 0} (y : System S I) (states : List S) (origins : List (ℕ × I)) (trail : IsTrail y states origins) (depth : ℕ → ℕ) (counts : Depths origins depth) where
  pub record IsLedTo (k : ℕ) (s : S) : Type 0 where
    pub items : List I
    pub leads : run y y.start items ≡ Some s
    pub long : length items ≡ depth k

  pub way : (n k : ℕ) (s : S) → k < n → slice_get states k ≡ Some s → IsLedTo k s
  way zero k s lt at = absurd (omega (arith, lt))
  way (suc n) zero s lt at = record { items = []; leads = sym trail.start ∙ at; long = sym counts.start }
  way (suc n) (suc j) s lt at = by (way n) (there origins j (omega (arith, trail.lengths, slice_get_within states (suc j) s at)))
    where
      plus : j + 1 ≡ suc j
      plus = omega arith

      by : ((k : ℕ) (u : S) → k < n → slice_get states k ≡ Some u → IsLedTo k u) → (o : ℕ × I) × (slice_get origins j ≡ Some o) → IsLedTo (suc j) s
      by rest q =
          let o = q.0 in
          let steps : option_and_then (λ u. y.step u o.1) (slice_get states o.0) ≡ Some s = trail.came j o q.1 ∙ (ap (slice_get states) plus ∙ at) in
          option_and_then_some (λ u. y.step u o.1) (slice_get states o.0) s steps (λ u f r.
          let w = rest o.0 u (omega (arith, trail.before j o q.1, lt)) f in
          record {
            items = w.items ++ o.1 ∷ [];
            leads = run-push y y.start w.items o.1 u s w.leads r;
            long = omega (arith, length-append w.items (o.1 ∷ []), w.long, counts.more j o q.1, ap depth plus);
          })
