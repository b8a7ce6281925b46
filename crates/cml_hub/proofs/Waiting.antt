-- Whether a thread is ready, and whether a slice is out.
use Rattle.std.proofs.Common.{◌≡◌, ℕ, zero, suc, ◌≤◌, Bool, true, false, List, [], ◌∷◌, map, Option, IsTrue, refl, ap, sym, ◌∙◌, arith}
use Rattle.std.proofs.lemmas.Bool.{lt-ltb}
use Rattle.std.specs.List.{list_any}
use Rattle.std.specs.Prelude.{slice_get, nat_lt, is_some}
use Rattle.cml_value.specs.declared.number.Tid.{Tid}
use Rattle.cml_hub.specs.declared.ready_queue.Mark.{Mark}
use Rattle.cml_hub.specs.declared.ready_queue.Mark.TheVariants.{Ready, Out, NotRunning}
use Rattle.cml_hub.specs.ReadyQueue.{is_out, count_outs}
use Rattle.cml_hub.specs.Kept.{is_out_of}

-- where those that are out are none, no thread is out; else one is
pub none_counted : (ms : List Mark) → count_outs ms ≡ 0 → list_any is_out ms ≡ false
none_counted [] h = refl
none_counted (Ready ∷ ms) h = none_counted ms (omega (arith, h))
none_counted (Out ∷ ms) h = absurd (omega (arith, h))
none_counted (NotRunning ∷ ms) h = none_counted ms (omega (arith, h))

pub one_counted : (ms : List Mark) → 1 ≤ count_outs ms → list_any is_out ms ≡ true
one_counted [] h = absurd (omega (arith, h))
one_counted (Ready ∷ ms) h = one_counted ms (omega (arith, h))
one_counted (Out ∷ ms) h = refl
one_counted (NotRunning ∷ ms) h = one_counted ms (omega (arith, h))

-- where no thread is out, a slice of none is; and the other way round
pub none_any : (ms : List Mark) → list_any is_out ms ≡ false → (t : ℕ) → is_out_of (map is_out ms) t ≡ false
none_any [] h t = refl
none_any (Ready ∷ ms) h zero = refl
none_any (Ready ∷ ms) h (suc t) = none_any ms h t
none_any (Out ∷ ms) h t = cc
none_any (NotRunning ∷ ms) h zero = refl
none_any (NotRunning ∷ ms) h (suc t) = none_any ms h t

pub any_none : (ms : List Mark) → ((t : ℕ) → is_out_of (map is_out ms) t ≡ false) → list_any is_out ms ≡ false
any_none [] h = refl
any_none (Ready ∷ ms) h = any_none ms (λ t. h (suc t))
any_none (Out ∷ ms) h = h 0
any_none (NotRunning ∷ ms) h = any_none ms (λ t. h (suc t))

-- it is asked whether the number of those that are out is above 0
pub counted_any : (ms : List Mark) (n : ℕ) → n ≡ count_outs ms → nat_lt 0 n ≡ list_any is_out ms
counted_any ms zero e = sym (none_counted ms (sym e))
counted_any ms (suc n) e = lt-ltb 0 (suc n) (omega arith) ∙ sym (one_counted ms (omega (arith, e)))

-- a thread is out where a slice is, and nowhere else
pub out_known : (ms : List Mark) (b : Bool) → b ≡ list_any is_out ms
    → (IsTrue b → ((t : ℕ) → is_out_of (map is_out ms) t ≡ false) → ⊥) × ((((t : ℕ) → is_out_of (map is_out ms) t ≡ false) → ⊥) → IsTrue b)
out_known ms true e = ((λ yes none. differ (e ∙ any_none ms none)), (λ some. refl))
  where
    differ : true ≡ false → ⊥
    differ h = cc
out_known ms false e = ((λ no none. differ no), (λ some. absurd (some (none_any ms (sym e)))))
  where
    differ : false ≡ true → ⊥
    differ h = cc

-- a thread is ready where one comes first, and nowhere else
pub ready_known : (queue : List Tid) (first : Option Tid) (b : Bool) → first ≡ slice_get queue 0 → b ≡ is_some first
    → (IsTrue b → queue ≡ [] → ⊥) × ((queue ≡ [] → ⊥) → IsTrue b)
ready_known [] first b e i = ((λ yes none. differ (sym yes ∙ i ∙ ap is_some e)), (λ some. absurd (some refl)))
  where
    differ : true ≡ false → ⊥
    differ h = cc
ready_known (x ∷ queue) first b e i = ((λ yes none. cc), (λ some. i ∙ ap is_some e))
