-- What a thread asks of the world, and what it is answered.
use Rattle.std.specs.Prelude.{ℕ, List, Option}
use Rattle.cml_value.specs.Value.{PlainValue, PlainFunction}
use Rattle.cml_value.specs.Group.{PlainGroup}
use Rattle.cml_step.specs.declared.fault.Fault.{Fault}

-- Objects and threads are given by their numbers. A thread that asks nothing goes on; one that ends or is at fault has nothing to ask.
pub data PlainAsk : Type 0 where
  nothing : PlainAsk
  yield : PlainAsk
  spawn : PlainFunction → PlainAsk
  make_chan : PlainAsk
  make_swap : PlainAsk
  make_ivar : PlainAsk
  make_mvar : Option PlainValue → PlainAsk
  make_mailbox : PlainAsk
  make_mchan : PlainAsk
  make_port : ℕ → PlainAsk
  copy_port : ℕ → PlainAsk
  iput : ℕ → PlainValue → PlainAsk
  mput : ℕ → PlainValue → PlainAsk
  mail : ℕ → PlainValue → PlainAsk
  multicast : ℕ → PlainValue → PlainAsk
  print : PlainValue → PlainAsk
  now : PlainAsk
  fresh_nack : PlainAsk
  sync : PlainGroup → PlainAsk
  end : PlainAsk
  fault : Fault → PlainAsk

-- a value; the number of a fresh nack; or, of a synchronization that was committed, the value of its leaf and the functions of the
-- wraps that it goes through, innermost first
pub data PlainAnswer : Type 0 where
  a_value : PlainValue → PlainAnswer
  a_nack : ℕ → PlainAnswer
  a_commit : PlainValue → List PlainFunction → PlainAnswer
