-- What was asked for of every schedule is told.
use Rattle.std.proofs.Common.{◌≡◌, Bool, true, false}
use Rattle.std.specs.Prelude.{MatchBool, Result, Ok, Err, IfOk}

-- else the other
pub asked_other : (b : Bool) (A B : Type 0) → b ≡ false → B → MatchBool b A B
asked_other true A B is b = absurd (cc)
asked_other false A B is b = b

-- what a call returned has this, if all such values have it
pub ok_any : {A E : Type 0} (r : Result A E) (P : A → Type 0) → ((a : A) → P a) → IfOk r P
ok_any (Ok a) P all = all a
ok_any (Err e) P all = tt
