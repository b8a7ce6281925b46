-- Flags that are set.
use Rattle.std.proofs.Common.{◌≡◌, ℕ, zero, suc, ◌==◌, Bool, true, false, ◌||◌, List, [], ◌∷◌, Option, Some, None, refl, sym, ap, ◌∙◌}
use Rattle.std.proofs.Math.Dec.{eqb-zero-suc, eqb-suc-zero, eqb-suc-suc}
use Rattle.std.specs.Prelude.{slice_get, slice_set}
use Rattle.cml_picture.specs.Parts.{flag_or}

nothing_set : (b : Bool) → None ≡ flag_or b None
nothing_set true = refl
nothing_set false = refl

-- the flag of a thread is set
pub flag_set : (flags : List Bool) (at t : ℕ) → slice_get (slice_set flags at true) t ≡ flag_or (at == t) (slice_get flags t)
flag_set [] at t = nothing_set (at == t)
flag_set (f ∷ fs) zero zero = refl
flag_set (f ∷ fs) zero (suc t) = ap (λ b. flag_or b (slice_get fs t)) (sym (eqb-zero-suc t))
flag_set (f ∷ fs) (suc at) zero = ap (λ b. flag_or b (Some f)) (sym (eqb-suc-zero at))
flag_set (f ∷ fs) (suc at) (suc t) = flag_set fs at t ∙ ap (λ b. flag_or b (slice_get fs t)) (sym (eqb-suc-suc at t))

-- set by one, and then by another
pub flag_both : (a b : Bool) (flag : Option Bool) → flag_or b (flag_or a flag) ≡ flag_or (a || b) flag
flag_both true true None = refl
flag_both true true (Some f) = refl
flag_both true false None = refl
flag_both true false (Some f) = refl
flag_both false true flag = refl
flag_both false false flag = refl
