-- A code of each term: a tree of numbers from which the term can be read back. The toolchain asks for one; no rule uses it.
use Rattle.std.specs.Prelude.{◌≡◌, ℕ, refl}
use Rattle.std.specs.Coded.{Coded, coded_ℕ, coded_ℤ, coded_bool, coded_list}
use Rattle.std.proofs.Common.{arith}
use base.Stored.{Gv, gnil, gnum, gcons}
use Rattle.cml_value.specs.Value.{PlainValue, unit, int, truth, text, pair, thread, chan, swapchan, ivar}
use Rattle.cml_value.specs.Value.{mvar, mailbox, mchan, port, event, PlainValues, no_values, values_and, PlainFunction, function}
use Rattle.cml_value.specs.Value.{PlainBase, always, send, recv, swap, iget, mtake, mget, mswap, mail_recv, port_recv, join, at_tick, after_ticks, nack}
use Rattle.cml_value.specs.Value.{PlainEvent, never, leaf, choose, wrap, guard, with_nack, scope, PlainEvents, no_events, events_and}

abbrev mutual
  pub value_gv : PlainValue → Gv
  value_gv unit = gcons (gnum 0) gnil
  value_gv (int a) = gcons (gnum 1) (coded_ℤ.code a)
  value_gv (truth a) = gcons (gnum 2) (coded_bool.code a)
  value_gv (text a) = gcons (gnum 3) ((coded_list coded_ℕ).code a)
  value_gv (pair a b) = gcons (gnum 4) (gcons (value_gv a) (value_gv b))
  value_gv (thread a) = gcons (gnum 5) (gnum a)
  value_gv (chan a) = gcons (gnum 6) (gnum a)
  value_gv (ivar a) = gcons (gnum 7) (gnum a)
  value_gv (mvar a) = gcons (gnum 8) (gnum a)
  value_gv (mailbox a) = gcons (gnum 9) (gnum a)
  value_gv (mchan a) = gcons (gnum 10) (gnum a)
  value_gv (port a) = gcons (gnum 11) (gnum a)
  value_gv (event a) = gcons (gnum 12) (event_gv a)
  value_gv (swapchan a) = gcons (gnum 13) (gnum a)

  pub values_gv : PlainValues → Gv
  values_gv no_values = gnil
  values_gv (values_and v vs) = gcons (value_gv v) (values_gv vs)

  pub function_gv : PlainFunction → Gv
  function_gv (function f vs) = gcons (gnum f) (values_gv vs)

  pub base_gv : PlainBase → Gv
  base_gv (always a) = gcons (gnum 0) (value_gv a)
  base_gv (send a b) = gcons (gnum 1) (gcons (gnum a) (value_gv b))
  base_gv (recv a) = gcons (gnum 2) (gnum a)
  base_gv (iget a) = gcons (gnum 3) (gnum a)
  base_gv (mtake a) = gcons (gnum 4) (gnum a)
  base_gv (mget a) = gcons (gnum 5) (gnum a)
  base_gv (mswap a b) = gcons (gnum 6) (gcons (gnum a) (value_gv b))
  base_gv (mail_recv a) = gcons (gnum 7) (gnum a)
  base_gv (port_recv a) = gcons (gnum 8) (gnum a)
  base_gv (join a) = gcons (gnum 9) (gnum a)
  base_gv (at_tick a) = gcons (gnum 10) (gnum a)
  base_gv (after_ticks a) = gcons (gnum 11) (gnum a)
  base_gv (nack a) = gcons (gnum 12) (gnum a)
  base_gv (swap a b) = gcons (gnum 13) (gcons (gnum a) (value_gv b))

  pub event_gv : PlainEvent → Gv
  event_gv never = gcons (gnum 0) gnil
  event_gv (leaf a) = gcons (gnum 1) (base_gv a)
  event_gv (choose a) = gcons (gnum 2) (events_gv a)
  event_gv (wrap a b) = gcons (gnum 3) (gcons (event_gv a) (function_gv b))
  event_gv (guard a) = gcons (gnum 4) (function_gv a)
  event_gv (with_nack a) = gcons (gnum 5) (function_gv a)
  event_gv (scope a b) = gcons (gnum 6) (gcons (gnum a) (event_gv b))

  pub events_gv : PlainEvents → Gv
  events_gv no_events = gnil
  events_gv (events_and e es) = gcons (event_gv e) (events_gv es)

heads : (m n : ℕ) (x y : Gv) → gcons (gnum m) x ≡ gcons (gnum n) y → m ≡ n
heads m n x y p = cc

mutual
  pub value_gv_inj : (x y : PlainValue) → value_gv x ≡ value_gv y → x ≡ y
  value_gv_inj unit unit p = refl
  value_gv_inj (int a) (int c) p = let e0 = coded_ℤ.inj a c (cc) in cc
  value_gv_inj (truth a) (truth c) p = let e0 = coded_bool.inj a c (cc) in cc
  value_gv_inj (text a) (text c) p = let e0 = (coded_list coded_ℕ).inj a c (cc) in cc
  value_gv_inj (pair a b) (pair c d) p = let e0 = value_gv_inj a c (cc) in let e1 = value_gv_inj b d (cc) in cc
  value_gv_inj (thread a) (thread c) p = cc
  value_gv_inj (chan a) (chan c) p = cc
  value_gv_inj (ivar a) (ivar c) p = cc
  value_gv_inj (mvar a) (mvar c) p = cc
  value_gv_inj (mailbox a) (mailbox c) p = cc
  value_gv_inj (mchan a) (mchan c) p = cc
  value_gv_inj (port a) (port c) p = cc
  value_gv_inj (event a) (event c) p = let e0 = event_gv_inj a c (cc) in cc
  value_gv_inj (swapchan a) (swapchan c) p = cc
  value_gv_inj _ _ p = absurd (omega (arith, heads _ _ _ _ p))

  pub values_gv_inj : (x y : PlainValues) → values_gv x ≡ values_gv y → x ≡ y
  values_gv_inj no_values no_values p = refl
  values_gv_inj (values_and v vs) (values_and w ws) p = let e = value_gv_inj v w (cc) in let f = values_gv_inj vs ws (cc) in cc
  values_gv_inj _ _ p = cc

  pub function_gv_inj : (x y : PlainFunction) → function_gv x ≡ function_gv y → x ≡ y
  function_gv_inj (function f vs) (function g ws) p = let e = values_gv_inj vs ws (cc) in cc

  pub base_gv_inj : (x y : PlainBase) → base_gv x ≡ base_gv y → x ≡ y
  base_gv_inj (always a) (always c) p = let e0 = value_gv_inj a c (cc) in cc
  base_gv_inj (send a b) (send c d) p = let e1 = value_gv_inj b d (cc) in cc
  base_gv_inj (recv a) (recv c) p = cc
  base_gv_inj (iget a) (iget c) p = cc
  base_gv_inj (mtake a) (mtake c) p = cc
  base_gv_inj (mget a) (mget c) p = cc
  base_gv_inj (mswap a b) (mswap c d) p = let e1 = value_gv_inj b d (cc) in cc
  base_gv_inj (mail_recv a) (mail_recv c) p = cc
  base_gv_inj (port_recv a) (port_recv c) p = cc
  base_gv_inj (join a) (join c) p = cc
  base_gv_inj (at_tick a) (at_tick c) p = cc
  base_gv_inj (after_ticks a) (after_ticks c) p = cc
  base_gv_inj (nack a) (nack c) p = cc
  base_gv_inj (swap a b) (swap c d) p = let e1 = value_gv_inj b d (cc) in cc
  base_gv_inj _ _ p = absurd (omega (arith, heads _ _ _ _ p))

  pub event_gv_inj : (x y : PlainEvent) → event_gv x ≡ event_gv y → x ≡ y
  event_gv_inj never never p = refl
  event_gv_inj (leaf a) (leaf c) p = let e0 = base_gv_inj a c (cc) in cc
  event_gv_inj (choose a) (choose c) p = let e0 = events_gv_inj a c (cc) in cc
  event_gv_inj (wrap a b) (wrap c d) p = let e0 = event_gv_inj a c (cc) in let e1 = function_gv_inj b d (cc) in cc
  event_gv_inj (guard a) (guard c) p = let e0 = function_gv_inj a c (cc) in cc
  event_gv_inj (with_nack a) (with_nack c) p = let e0 = function_gv_inj a c (cc) in cc
  event_gv_inj (scope a b) (scope c d) p = let e1 = event_gv_inj b d (cc) in cc
  event_gv_inj _ _ p = cc

  pub events_gv_inj : (x y : PlainEvents) → events_gv x ≡ events_gv y → x ≡ y
  events_gv_inj no_events no_events p = refl
  events_gv_inj (events_and v vs) (events_and w ws) p = let e = event_gv_inj v w (cc) in let f = events_gv_inj vs ws (cc) in cc
  events_gv_inj _ _ p = cc

abbrev pub value_code : Coded PlainValue
value_code = record { code = value_gv; inj = value_gv_inj }

abbrev pub function_code : Coded PlainFunction
function_code = record { code = function_gv; inj = function_gv_inj }

abbrev pub base_code : Coded PlainBase
base_code = record { code = base_gv; inj = base_gv_inj }

abbrev pub event_code : Coded PlainEvent
event_code = record { code = event_gv; inj = event_gv_inj }
