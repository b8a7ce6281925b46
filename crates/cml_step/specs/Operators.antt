-- What the operations of expressions make of values. The first fault is a wrong kind, then a number out of range, then a result that is
-- too large.
use Rattle.std.specs.Prelude.{ℕ, ◌^◌, ℤ, pos, negsuc, ◌+ℤ◌, ◌-ℤ◌, ◌*ℤ◌, neg_ℤ, int_lt, int_le, Bool, true, false, not, ◌&&◌, if◌then◌else◌, List, [], ◌∷◌, Ok, Err}
use Rattle.cml_check.specs.declared.syntax.Constant.{Constant}
use Rattle.cml_check.specs.declared.syntax.Constant.TheVariants as constant_of
use Rattle.cml_check.specs.declared.syntax.Unary.{Unary}
use Rattle.cml_check.specs.declared.syntax.Unary.TheVariants as unary_of
use Rattle.cml_check.specs.declared.syntax.Binary.{Binary}
use Rattle.cml_check.specs.declared.syntax.Binary.TheVariants as binary_of
use Rattle.cml_value.specs.Value.{PlainValue, unit, int, truth, pair, event, PlainFunction}
use Rattle.cml_value.specs.Value.{PlainBase, always, send, recv, swap, iget, mtake, mget, mswap, mail_recv, port_recv, join, at_tick, after_ticks}
use Rattle.cml_value.specs.Value.{PlainEvent, never, leaf, choose, wrap, guard, with_nack, events}
use Rattle.cml_value.specs.Limits.{value_fits}
use Rattle.cml_step.specs.declared.fault.Fault.TheVariants.{Overflow, Range, Deep}
use Rattle.cml_step.specs.Faults.{Found, ◌>>=◌}
use Rattle.cml_step.specs.Kinds.{as_number, as_truth, first_part, second_part, as_thread, as_chan, as_swapchan, as_ivar, as_mvar, as_mailbox, as_port, as_event}
use Rattle.cml_step.specs.Same.{are_same}

-- a pair or an event that was just built, if it is within the limits of depth and of nodes
abbrev pub built : PlainValue → Found PlainValue
built v = if value_fits v then Ok v else Err Deep

-- the numbers of scripts are those of 64 bits
abbrev pub is_in_range : ℤ → Bool
is_in_range z = int_le (neg_ℤ (pos (2 ^ 63))) z && int_lt z (pos (2 ^ 63))

abbrev pub in_range : ℤ → Found PlainValue
in_range z = if is_in_range z then Ok (int z) else Err Overflow

abbrev pub sum_of : PlainValue → PlainValue → Found PlainValue
sum_of v w = do
  x ← as_number v
  y ← as_number w
  in_range (x +ℤ y)

abbrev pub difference_of : PlainValue → PlainValue → Found PlainValue
difference_of v w = do
  x ← as_number v
  y ← as_number w
  in_range (x -ℤ y)

abbrev pub product_of : PlainValue → PlainValue → Found PlainValue
product_of v w = do
  x ← as_number v
  y ← as_number w
  in_range (x *ℤ y)

abbrev pub less_of : PlainValue → PlainValue → Found PlainValue
less_of v w = do
  x ← as_number v
  y ← as_number w
  Ok (truth (int_lt x y))

-- a number of ticks, which must not be negative
abbrev pub ticks_in : ℤ → Found ℕ
ticks_in (pos n) = Ok n
ticks_in (negsuc n) = Err Range

abbrev pub ticks_of : PlainValue → Found ℕ
ticks_of v = as_number v >>= ticks_in

abbrev pub constant_value : Constant → Found PlainValue
constant_value constant_of.True = Ok (truth true)
constant_value constant_of.False = Ok (truth false)
constant_value constant_of.Unit = Ok unit
constant_value constant_of.Never = Ok (event never)

abbrev pub base_value : PlainBase → Found PlainValue
base_value b = built (event (leaf b))

abbrev pub unary_value : Unary → PlainValue → Found PlainValue
unary_value unary_of.Not v = do
  b ← as_truth v
  Ok (truth (not b))
unary_value unary_of.Fst v = first_part v
unary_value unary_of.Snd v = second_part v
unary_value unary_of.Always v = base_value (always v)
unary_value unary_of.Recv v = do
  c ← as_chan v
  base_value (recv c)
unary_value unary_of.IGet v = do
  i ← as_ivar v
  base_value (iget i)
unary_value unary_of.MTake v = do
  m ← as_mvar v
  base_value (mtake m)
unary_value unary_of.MGet v = do
  m ← as_mvar v
  base_value (mget m)
unary_value unary_of.MailRecv v = do
  b ← as_mailbox v
  base_value (mail_recv b)
unary_value unary_of.PortRecv v = do
  p ← as_port v
  base_value (port_recv p)
unary_value unary_of.Join v = do
  t ← as_thread v
  base_value (join t)
unary_value unary_of.At v = do
  tick ← ticks_of v
  base_value (at_tick tick)
unary_value unary_of.After v = do
  delay ← ticks_of v
  base_value (after_ticks delay)

-- `=` is equality of structure, and false between kinds
abbrev pub binary_value : Binary → PlainValue → PlainValue → Found PlainValue
binary_value binary_of.Plus v w = sum_of v w
binary_value binary_of.Minus v w = difference_of v w
binary_value binary_of.Times v w = product_of v w
binary_value binary_of.Less v w = less_of v w
binary_value binary_of.Equal v w = Ok (truth (are_same v w))
binary_value binary_of.Pair v w = built (pair v w)
binary_value binary_of.Send v w = do
  c ← as_chan v
  base_value (send c w)
binary_value binary_of.Swap v w = do
  s ← as_swapchan v
  base_value (swap s w)
binary_value binary_of.MSwap v w = do
  m ← as_mvar v
  base_value (mswap m w)

-- the events that these values are
abbrev pub as_events : List PlainValue → Found (List PlainEvent)
as_events [] = Ok []
as_events (v ∷ vs) = do
  e ← as_event v
  es ← as_events vs
  Ok (e ∷ es)

abbrev pub choose_value : List PlainValue → Found PlainValue
choose_value vs = do
  es ← as_events vs
  built (event (choose (events es)))

abbrev pub wrap_value : PlainValue → PlainFunction → Found PlainValue
wrap_value v f = do
  e ← as_event v
  built (event (wrap e f))

abbrev pub guard_value : PlainFunction → Found PlainValue
guard_value f = built (event (guard f))

abbrev pub nack_value : PlainFunction → Found PlainValue
nack_value f = built (event (with_nack f))
