-- Ports and their numbers.
use Rattle.std.proofs.Common.{◌≡◌, ℕ, ◌||◌, Bool, List, [], ◌∷◌, map, refl, ap}
use Rattle.std.specs.Prelude.{◌==◌}
use Rattle.std.specs.List.{list_any}
use Rattle.cml_value.specs.declared.number.PortId.{PortId}

-- one of these numbers is this one, exactly if one of the ports has it
pub any_port : (ps : List PortId) (n : ℕ) → list_any (λ m. m == n) (map (λ (p : PortId). p.0) ps) ≡ list_any (λ (p : PortId). p.0 == n) ps
any_port [] n = refl
any_port (p ∷ ps) n = ap (λ b. (p.0 == n) || b) (any_port ps n)
