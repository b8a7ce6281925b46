-- The kind of a value. Where a step asks for one kind, a value of another kind is a fault.
use Rattle.std.specs.Prelude.{ℕ, ℤ, Bool, Ok, Err}
use Rattle.cml_value.specs.Value.{PlainValue, int, truth, pair, thread, chan, swapchan, ivar, mvar, mailbox, mchan, port, event, PlainEvent}
use Rattle.cml_step.specs.declared.fault.Fault.TheVariants.{Kind}
use Rattle.cml_step.specs.Faults.{Found}

abbrev pub as_number : PlainValue → Found ℤ
as_number (int z) = Ok z
as_number _ = Err Kind

abbrev pub as_truth : PlainValue → Found Bool
as_truth (truth b) = Ok b
as_truth _ = Err Kind

abbrev pub first_part : PlainValue → Found PlainValue
first_part (pair a b) = Ok a
first_part _ = Err Kind

abbrev pub second_part : PlainValue → Found PlainValue
second_part (pair a b) = Ok b
second_part _ = Err Kind

abbrev pub as_thread : PlainValue → Found ℕ
as_thread (thread n) = Ok n
as_thread _ = Err Kind

abbrev pub as_chan : PlainValue → Found ℕ
as_chan (chan n) = Ok n
as_chan _ = Err Kind

abbrev pub as_swapchan : PlainValue → Found ℕ
as_swapchan (swapchan n) = Ok n
as_swapchan _ = Err Kind

abbrev pub as_ivar : PlainValue → Found ℕ
as_ivar (ivar n) = Ok n
as_ivar _ = Err Kind

abbrev pub as_mvar : PlainValue → Found ℕ
as_mvar (mvar n) = Ok n
as_mvar _ = Err Kind

abbrev pub as_mailbox : PlainValue → Found ℕ
as_mailbox (mailbox n) = Ok n
as_mailbox _ = Err Kind

abbrev pub as_mchan : PlainValue → Found ℕ
as_mchan (mchan n) = Ok n
as_mchan _ = Err Kind

abbrev pub as_port : PlainValue → Found ℕ
as_port (port n) = Ok n
as_port _ = Err Kind

abbrev pub as_event : PlainValue → Found PlainEvent
as_event (event e) = Ok e
as_event _ = Err Kind
