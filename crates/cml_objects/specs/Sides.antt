-- The two sides of a channel, as Concurrent ML has them: a sendEvt and a recvEvt on one channel communicate.
use Rattle.std.specs.Prelude.{ℕ, ◌==◌, Bool, true, false, Option, Some, None}
use Rattle.cml_value.specs.Value.{PlainValue, unit, PlainBase, send, recv}
use Rattle.cml_objects.specs.declared.channel.ChannelSide.{ChannelSide}
use Rattle.cml_objects.specs.declared.channel.ChannelSide.TheVariants.{Send, Recv}

-- the number of the channel
abbrev pub channel_of : ChannelSide → ℕ
channel_of (Send c v) = c.0
channel_of (Recv c) = c.0

-- the sender stands first
abbrev pub is_sender : ChannelSide → Bool
is_sender (Send c v) = true
is_sender (Recv c) = false

-- the receiver is given the value that is sent, the sender unit (Reppy's sendEvt and recvEvt)
abbrev pub handed_by : ChannelSide → PlainValue
handed_by (Send c v) = v
handed_by (Recv c) = unit

-- a send and a receive meet where they are on one channel; no other two do
abbrev pub meet : ChannelSide → ChannelSide → Bool
meet (Send c v) (Recv d) = c.0 == d.0
meet (Recv c) (Send d v) = c.0 == d.0
meet (Send c v) (Send d w) = false
meet (Recv c) (Recv d) = false

-- the side that a base event is: a send or a receive; any other base event is no side of a channel
abbrev pub side_in : PlainBase → Option ChannelSide
side_in (send c v) = Some (Send (record { 0 = c }) v)
side_in (recv c) = Some (Recv (record { 0 = c }))
side_in _ = None
