-- A code of each scope: a tree of numbers from which it can be read back. The toolchain asks for one; no rule uses it.
use Rattle.std.specs.Prelude.{ℕ, refl}
use Rattle.std.specs.Coded.{Coded, code_by, coded×, coded_ℕ}
use Rattle.cml_value.specs.Group.{PlainScope}

abbrev pub scope_code : Coded PlainScope
scope_code =
    code_by (ℕ × (ℕ × ℕ)) (coded× coded_ℕ (coded× coded_ℕ coded_ℕ)) (λ s. (s.nack, (s.first, s.past)))
    (λ p. record { nack = p.0; first = p.1.0; past = p.1.1 }) (λ _. refl)
