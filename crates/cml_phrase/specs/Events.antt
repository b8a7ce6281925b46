-- What is said of a base event.
use Rattle.std.specs.Prelude.{ℕ, Option}
use Rattle.cml_value.specs.Value.{PlainBase}
use Rattle.cml_phrase.specs.declared.event.ObjectState.{ObjectState}
use Rattle.cml_phrase.specs.Phrases.{PlainWho}

-- a base event; the state of what it waits for; and of a join the thread that is waited for, of an M-variable the thread that took it last
pub record PlainSaid : Type 0 where
  pub base : PlainBase
  pub state : ObjectState
  pub who : Option PlainWho

-- how many base events are said of those that a thread waits for
abbrev pub event_limit : ℕ
event_limit = 6
