-- What lies under the lock.
use Rattle.std.specs.Prelude.{ℕ, Bool, refl}
use Rattle.std.specs.Coded.{Coded, code_by, coded×, coded_bool, coded_ℕ}
use Rattle.cml_hub.specs.Kept.{Kept}
use Rattle.cml_hub.specs.KeptCodes.{kept_code}

-- the hub, whether the workers are to stop, whether they all have ended, and of how many reports the watcher was told
pub record Held : Type 0 where
  pub hub : Kept
  pub is_stopped : Bool
  pub is_done : Bool
  pub told : ℕ

-- A code of it: a tree of numbers from which it can be read back. The toolchain asks for it; no rule uses it.
abbrev pub locked_code : Coded Held
locked_code =
    code_by (Kept × (Bool × (Bool × ℕ))) (coded× kept_code (coded× coded_bool (coded× coded_bool coded_ℕ)))
    (λ h. (h.hub, (h.is_stopped, (h.is_done, h.told))))
    (λ t. record { hub = t.0; is_stopped = t.1.0; is_done = t.1.1.0; told = t.1.1.1 })
    (λ _. refl)
