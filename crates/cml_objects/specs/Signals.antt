-- What happens once: a thread ends (Reppy's joinEvt waits for it), and a tick comes (his atTimeEvt and timeOutEvt). What has happened
-- stays so, and a wait for it gives unit.
use Rattle.std.specs.Prelude.{ℕ, Bool, true, false, nat_le, ◌||◌, Result, Ok, Err}
use Rattle.cml_objects.specs.Feeds.{PlainRefusal, spent}
use Rattle.cml_objects.specs.PlainAlarm.{PlainAlarm}

-- a thread ends once
abbrev pub ended_once : Bool → Result Bool PlainRefusal
ended_once false = Ok true
ended_once true = Err spent

-- the alarm of a tick, at this time
abbrev pub alarm_at : ℕ → ℕ → PlainAlarm
alarm_at tick now = record { tick = tick; has_rung = nat_le tick now }

-- an alarm rings once the clock has come to its tick, and from then on
abbrev pub alarm_after : PlainAlarm → ℕ → PlainAlarm
alarm_after alarm now = record { tick = alarm.tick; has_rung = alarm.has_rung || nat_le alarm.tick now }

-- the clock comes to a time
abbrev pub alarm_fed : PlainAlarm → ℕ → Result PlainAlarm PlainRefusal
alarm_fed alarm now = Ok (alarm_after alarm now)
