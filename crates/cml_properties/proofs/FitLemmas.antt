-- Lists that fit lists, element by element; and how deep what stands in a list is.
use Rattle.std.proofs.Common.{◌≡◌, ◌≢◌, ℕ, zero, suc, ◌<◌, ◌≤◌, false, ◌&&◌, List, [], ◌∷◌, length, get_or, drop, refl, ap, arith}
use Rattle.std.proofs.lemmas.Bool.{and_right}
use Rattle.cml_text.specs.Forms.{PlainSexpr, plain_forms, nesting, nesting_of}
use Rattle.cml_properties.specs.Patterns.{fits, all_fit}

pub fit_more : (ps fs : List PlainSexpr) (i : ℕ) (d e : PlainSexpr) → i < length ps → length ps ≡ length fs →
    all_fit (plain_forms (drop i ps)) (plain_forms (drop i fs)) ≡ (fits (get_or ps i d) (get_or fs i e) && all_fit (plain_forms (drop (suc i) ps)) (plain_forms (drop (suc i) fs)))
fit_more [] fs i d e lt same = absurd (omega arith)
fit_more (p ∷ ps) [] i d e lt same = absurd (omega arith)
fit_more (p ∷ ps) (f ∷ fs) zero d e lt same = refl
fit_more (p ∷ ps) (f ∷ fs) (suc i) d e lt same = fit_more ps fs i d e (omega arith) (omega arith)

pub fit_length : (ps fs : List PlainSexpr) → length ps ≢ length fs → all_fit (plain_forms ps) (plain_forms fs) ≡ false
fit_length [] [] differ = absurd (differ refl)
fit_length [] (f ∷ fs) differ = refl
fit_length (p ∷ ps) [] differ = refl
fit_length (p ∷ ps) (f ∷ fs) differ = and_right (fits p f) (all_fit (plain_forms ps) (plain_forms fs)) (fit_length ps fs (λ e. differ (ap suc e)))

pub nesting_at : (forms : List PlainSexpr) (i : ℕ) (d : PlainSexpr) → i < length forms → nesting (get_or forms i d) ≤ nesting_of (plain_forms forms)
nesting_at [] i d lt = absurd (omega arith)
nesting_at (form ∷ forms) zero d lt = omega arith
nesting_at (form ∷ forms) (suc i) d lt = omega (arith, nesting_at forms i d (omega arith))
