-- The view of mailboxes and ports.
use Rattle.std.specs.Prelude.{ℕ, List, refl}
use Rattle.std.specs.Coded.{Coded, code_by, coded×, coded_list, coded_ℕ}
use Rattle.cml_value.specs.Value.{PlainValue}
use Rattle.cml_value.specs.Codes.{value_code}

-- the items, of which the first is taken first; `room` more can be put after them without memory
pub record PlainQueue : Type 0 where
  pub items : List PlainValue
  pub room : ℕ

-- The toolchain asks for a code; no rule uses it.
abbrev pub queue_code : Coded PlainQueue
queue_code = code_by (List PlainValue × ℕ) (coded× (coded_list value_code) coded_ℕ) (λ q. (q.items, q.room)) (λ p. record { items = p.0; room = p.1 }) (λ _. refl)
