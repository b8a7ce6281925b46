-- What becomes of a feed that is accepted.
use Rattle.std.specs.Prelude.{◌≡◌, Result, Ok, OnOk, OnErr, IfErr}
use Rattle.cml_objects.specs.Feeds.{PlainRefusal}

-- The feed was taken, and the state is the one after it; or memory ran out, the state is as it was, and the feed comes back.
pub record IsTaken {S F : Type 0} (result : Result (Unit {0}) F) (outcome : Result S PlainRefusal) (feed : F) (old new : S) : Type 0 where
  pub ok : OnOk result (outcome ≡ Ok new)
  pub err : OnErr result (new ≡ old)
  pub back : IfErr result (λ back. back ≡ feed)
