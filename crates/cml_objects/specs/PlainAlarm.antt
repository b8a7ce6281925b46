-- The view of an alarm.
use Rattle.std.specs.Prelude.{ℕ, Bool, refl}
use Rattle.std.specs.Coded.{Coded, code_by, coded×, coded_ℕ, coded_bool}

-- the tick from which on it rings, and whether the clock has come to it
pub record PlainAlarm : Type 0 where
  pub tick : ℕ
  pub has_rung : Bool

-- The toolchain asks for a code; no rule uses it.
abbrev pub alarm_code : Coded PlainAlarm
alarm_code = code_by (ℕ × Bool) (coded× coded_ℕ coded_bool) (λ a. (a.tick, a.has_rung)) (λ p. record { tick = p.0; has_rung = p.1 }) (λ _. refl)
