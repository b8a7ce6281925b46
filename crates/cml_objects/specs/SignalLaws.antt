-- What has happened stays so.
use Rattle.std.specs.Prelude.{◌≡◌, ℕ, Bool, true, false, nat_le, ◌||◌, Ok, IsTrue}
use Rattle.cml_objects.specs.PlainAlarm.{PlainAlarm}
use Rattle.cml_objects.specs.Signals.{ended_once, alarm_after, alarm_fed}
use Rattle.std.proofs.Common.{subst}

pub ended_stays_lit : (s t : Bool) (feed : Unit {0}) → ended_once s ≡ Ok t → IsTrue s → IsTrue t
ended_stays_lit false t feed e h = cc
ended_stays_lit true t feed e h = cc

or_left : (a b : Bool) → IsTrue a → IsTrue (a || b)
or_left true b h = h
or_left false b h = cc

pub rung_stays_lit : (s t : PlainAlarm) (now : ℕ) → alarm_fed s now ≡ Ok t → IsTrue s.has_rung → IsTrue t.has_rung
rung_stays_lit s t now e h =
    let same : alarm_after s now ≡ t = cc in
    let P : PlainAlarm → Type 0 = λ alarm. IsTrue alarm.has_rung in
    subst P same (or_left s.has_rung (nat_le s.tick now) h)
