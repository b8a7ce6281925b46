-- A message on a multicast channel reaches every port of the channel (Reppy). That it reaches none where one is full is a rule of
-- our own.
use Rattle.std.specs.Prelude.{◌≡◌, ◌≤◌, ℕ, ◌||◌, ◌∷◌, [], List, length, map, nat_lt, if◌then◌else◌, Bool, true, false, Result, Ok, Err}
use Rattle.cml_value.specs.Value.{PlainValue}
use Rattle.cml_value.specs.declared.number.PortId.{PortId}
use Rattle.cml_objects.specs.declared.delivery.PostFault.{PostFault}
use Rattle.cml_objects.specs.declared.delivery.PostFault.TheVariants.{Full}
use Rattle.cml_objects.specs.Feeds.{PlainRefusal, full}
use Rattle.cml_objects.specs.Registered.{Registered, KeepsRoom}
use Rattle.cml_objects.specs.PlainQueue.{PlainQueue}
use Rattle.cml_objects.specs.Queues.{is_full_at, added_at}

-- the numbers of ports
abbrev pub port_numbers : List PortId → List ℕ
port_numbers ports = map (λ port. port.0) ports

-- the unread messages of each port
abbrev pub unread : List PlainQueue → List (List PlainValue)
unread ports = map (λ port. port.items) ports

-- the next message takes no memory
abbrev pub port_has_room : PlainQueue → Bool
port_has_room port = nat_lt 0 port.room

-- beside the messages nothing changes: there are as many ports, the same leaves wait, and there is room for as many more
pub record KeepsPorts (old new : Registered PlainQueue) : Type 0 where
  pub len : length new.objects ≡ length old.objects
  pub waits : new.waits ≡ old.waits
  pub room : new.room ≡ old.room

-- there are as many ports with the same messages, the same leaves wait, and what room there was stays
pub record KeepsMessages (old new : Registered PlainQueue) : Type 0 where
  pub messages : unread new.objects ≡ unread old.objects
  pub len : length new.objects ≡ length old.objects
  pub waits : new.waits ≡ old.waits
  pub make : old.room ≤ new.room
  pub feed : KeepsRoom port_has_room old.objects new.objects

-- one of these ports is full
abbrev pub any_is_full : List ℕ → List (List PlainValue) → Bool
any_is_full [] queues = false
any_is_full (port ∷ ports) queues = is_full_at queues port || any_is_full ports queues

-- each of these ports has the message after its others
abbrev pub posted : PlainValue → List ℕ → List (List PlainValue) → List (List PlainValue)
posted message [] queues = queues
posted message (port ∷ ports) queues = posted message ports (added_at queues port message)

-- every port takes the message, or none does
abbrev pub post_outcome : List ℕ → PlainValue → List (List PlainValue) → Result (List (List PlainValue)) PlainRefusal
post_outcome ports message queues = if any_is_full ports queues then Err full else Ok (posted message ports queues)

-- the result says that a port is full
abbrev pub says_full : {X : Type 0} → Result X PostFault → Bool
says_full (Err Full) = true
says_full _ = false
