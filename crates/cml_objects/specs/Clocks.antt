-- The time, and the ticks that leaves of pending threads wait for.
use Rattle.std.specs.Prelude.{◌≡◌, ◌<◌, ◌≤◌, ◌+◌, ◌-◌, ◌==◌, ℕ, List, unwrap_or, if◌then◌else◌, refl}
use Rattle.std.specs.Map.{lookup}
use Rattle.std.specs.Coded.{Coded, code_by, coded×, coded_list, coded_ℕ}

-- the time, and each waited tick with how many leaves wait for it
pub record PlainClock : Type 0 where
  pub tick : ℕ
  pub waited : List (ℕ × ℕ)

-- how many leaves wait for the tick
abbrev pub leaves_at : List (ℕ × ℕ) → ℕ → ℕ
leaves_at waited tick = unwrap_or (lookup (λ t. t == tick) waited) 0

-- a leaf waits for the tick
abbrev pub IsWaited : PlainClock → ℕ → Type 0
IsWaited clock tick = 0 < leaves_at clock.waited tick

-- one more leaf waits for the tick, and as many as before for each other tick
abbrev pub AddsLeaf : ℕ → List (ℕ × ℕ) → List (ℕ × ℕ) → Type 0
AddsLeaf tick old new = (t : ℕ) → leaves_at new t ≡ (if t == tick then leaves_at old t + 1 else leaves_at old t)

-- one leaf less waits for the tick, if any did, and as many as before for each other tick
abbrev pub RemovesLeaf : ℕ → List (ℕ × ℕ) → List (ℕ × ℕ) → Type 0
RemovesLeaf tick old new = (t : ℕ) → leaves_at new t ≡ (if t == tick then leaves_at old t - 1 else leaves_at old t)

-- a waited tick comes when the clock moves to this time
abbrev pub LightsTick : PlainClock → ℕ → ℕ → Type 0
LightsTick clock to tick = IsWaited clock tick × (clock.tick < tick) × (tick ≤ to)

-- The toolchain asks for a code; no rule uses it.
abbrev pub clock_code : Coded PlainClock
clock_code = code_by (ℕ × List (ℕ × ℕ)) (coded× coded_ℕ (coded_list (coded× coded_ℕ coded_ℕ))) (λ c. (c.tick, c.waited)) (λ p. record { tick = p.0; waited = p.1 }) (λ _. refl)
