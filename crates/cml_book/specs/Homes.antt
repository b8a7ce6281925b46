-- Which multicast channel each port belongs to, and which ports a message is the first for.
use Rattle.std.specs.Prelude.{ℕ, ◌≡◌, ◌==◌, ◌<◌, ◌≤◌, ◌++◌, Bool, true, false, not, nat_lt, List, [], ◌∷◌, Option, Some, None, Result, IfOk, OnOk, OnErr, length, map, filter, slice_get}
use Rattle.cml_value.specs.Value.{PlainValue}
use Rattle.cml_value.specs.declared.number.McastId.{McastId}
use Rattle.cml_value.specs.declared.number.PortId.{PortId}
use Rattle.cml_objects.specs.Registered.{Registered}
use Rattle.cml_objects.specs.PlainMulticast.{PlainMulticast}
use Rattle.cml_objects.specs.PlainQueue.{PlainQueue}
use Rattle.cml_scan.specs.Light.{has_item}
use Rattle.cml_scan.specs.declared.object.Light.{Light}
use Rattle.cml_scan.specs.declared.object.Light.TheVariants as light
use Rattle.cml_book.specs.MakePort.{ports_at, has_port, with_port}
use Rattle.cml_book.specs.Outcomes.{max_objects}
use Rattle.cml_book.specs.Views.{queues_of, ports_of}

-- there is a home, and it is this channel
abbrev pub is_home : ℕ → Option ℕ → Bool
is_home x None = false
is_home x (Some home) = home == x

-- the numbers of channels
abbrev pub channel_numbers : List McastId → List ℕ
channel_numbers channels = map (λ channel. channel.0) channels

-- a port stands in the list of the channel that is its home, and in no other
abbrev pub HaveHomes : List (List ℕ) → List ℕ → Type 0
HaveHomes channels port_channels = (x p : ℕ) → has_port (ports_at channels x) p ≡ is_home x (slice_get port_channels p)

-- each of this many ports has its home among these channels
pub record ArePorts (channels : List PlainMulticast) (port_channels : List McastId) (ports : ℕ) : Type 0 where
  pub housed : HaveHomes (ports_of channels) (channel_numbers port_channels)
  pub each : length port_channels ≡ ports

-- one more port can be added to the channel without memory
abbrev pub has_room : PlainMulticast → Bool
has_room channel = nat_lt 0 channel.room

-- each port of the channel of this number has a number below this
abbrev pub AreBelow : List (List ℕ) → ℕ → ℕ → Type 0
AreBelow channels x limit = (p : ℕ) → has_port (ports_at channels x) p ≡ true → p < limit

-- the light of a port
abbrev pub port_light : ℕ → Light
port_light p = light.Port (record { 0 = p })

-- the lights of those of these ports that have no message yet
abbrev pub first_lights : List ℕ → List (List PlainValue) → List Light
first_lights ports queues = map port_light (filter (λ p. not (has_item (slice_get queues p))) ports)

-- A port with these unread messages has the next number, and stands after the other ports of the channel of this number; or the call failed,
-- and no channel and no port has changed.
pub record AddsPort {E : Type 0} (result : Result PortId E) (channel : ℕ) (messages : List PlainValue) (old_channels new_channels : List PlainMulticast) (old_ports new_ports : List PlainQueue) : Type 0 where
  pub id : IfOk result (λ id. id.0 ≡ length old_ports)
  pub channels : OnOk result (ports_of new_channels ≡ with_port (ports_of old_channels) channel (length old_ports))
  pub ports : OnOk result (queues_of new_ports ≡ queues_of old_ports ++ messages ∷ [])
  pub err_channels : OnErr result (ports_of new_channels ≡ ports_of old_channels)
  pub err_ports : OnErr result (queues_of new_ports ≡ queues_of old_ports)

-- No more ports exist than are allowed, as many channels as before, and the same leaves wait for ports.
pub record StillFew (old_channels new_channels : List PlainMulticast) (old_ports new_ports : Registered PlainQueue) : Type 0 where
  pub few : length new_ports.objects ≤ max_objects
  pub len : length new_channels ≡ length old_channels
  pub waits : new_ports.waits ≡ old_ports.waits
