-- The view of multicast channels.
use Rattle.std.specs.Prelude.{ℕ, List}
use Rattle.cml_value.specs.declared.number.PortId.{PortId}

-- the channel's ports; `room` more can be added without memory
pub record PlainMulticast : Type 0 where
  pub ports : List PortId
  pub room : ℕ
