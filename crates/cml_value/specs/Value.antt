-- What values, functions, base events and events are, apart from how they lie in memory.
use Rattle.std.specs.Prelude.{ℕ, ℤ, Bool, List, [], ◌∷◌}

mutual
  -- a value of a program: a text by its UTF-8 bytes; by its number a thread, a channel, a swap channel, an I-variable,
  -- an M-variable, a mailbox, a multicast channel (mchan) or a port of one
  pub data PlainValue : Type 0 where
    unit : PlainValue
    int : ℤ → PlainValue
    truth : Bool → PlainValue
    text : List ℕ → PlainValue
    pair : PlainValue → PlainValue → PlainValue
    thread : ℕ → PlainValue
    chan : ℕ → PlainValue
    swapchan : ℕ → PlainValue
    ivar : ℕ → PlainValue
    mvar : ℕ → PlainValue
    mailbox : ℕ → PlainValue
    mchan : ℕ → PlainValue
    port : ℕ → PlainValue
    event : PlainEvent → PlainValue

  -- a list of values
  pub data PlainValues : Type 0 where
    no_values : PlainValues
    values_and : PlainValue → PlainValues → PlainValues

  -- a function by its number, with the values that it has captured
  pub data PlainFunction : Type 0 where
    function : ℕ → PlainValues → PlainFunction

  -- a base event: what one leaf of an event waits for (Reppy's alwaysEvt, sendEvt, recvEvt, iGetEvt, mTakeEvt,
  -- mGetEvt, mSwapEvt, recvEvt of a mailbox and of a port, joinEvt, atTimeEvt, timeOutEvt, and a nack event; and a swap,
  -- which is this project's own: two threads that offer one on a swap channel exchange their values)
  pub data PlainBase : Type 0 where
    always : PlainValue → PlainBase
    send : ℕ → PlainValue → PlainBase
    recv : ℕ → PlainBase
    swap : ℕ → PlainValue → PlainBase
    iget : ℕ → PlainBase
    mtake : ℕ → PlainBase
    mget : ℕ → PlainBase
    mswap : ℕ → PlainValue → PlainBase
    mail_recv : ℕ → PlainBase
    port_recv : ℕ → PlainBase
    join : ℕ → PlainBase
    at_tick : ℕ → PlainBase
    after_ticks : ℕ → PlainBase
    nack : ℕ → PlainBase

  -- an event as a program builds it, where a guard and a withNack still wait for their function to be called (Reppy's never,
  -- choose, wrap, guard and withNack). A scope is what a withNack becomes once its function was called with the nack of this
  -- number: the event that the function returned, which is the branch of that nack.
  pub data PlainEvent : Type 0 where
    never : PlainEvent
    leaf : PlainBase → PlainEvent
    choose : PlainEvents → PlainEvent
    wrap : PlainEvent → PlainFunction → PlainEvent
    guard : PlainFunction → PlainEvent
    with_nack : PlainFunction → PlainEvent
    scope : ℕ → PlainEvent → PlainEvent

  -- a list of events
  pub data PlainEvents : Type 0 where
    no_events : PlainEvents
    events_and : PlainEvent → PlainEvents → PlainEvents

-- the values of a list, as a `PlainValues`
abbrev pub values : List PlainValue → PlainValues
values [] = no_values
values (v ∷ vs) = values_and v (values vs)

-- the events of a list, as a `PlainEvents`
abbrev pub events : List PlainEvent → PlainEvents
events [] = no_events
events (e ∷ es) = events_and e (events es)

-- a function's number, and its captured values
abbrev pub func_of : PlainFunction → ℕ
func_of (function f vs) = f

abbrev pub args_of : PlainFunction → PlainValues
args_of (function f vs) = vs
