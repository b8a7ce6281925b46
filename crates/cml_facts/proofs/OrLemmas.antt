-- The first of several options that has a value, and whether one of two tests holds.
use Rattle.std.proofs.Common.{◌≡◌, ◌||◌, Bool, true, false, Option, Some, None, refl}
use Rattle.std.specs.Option.{option_or}

pub or_none : {T : Type 0} (x : Option T) → x ≡ option_or x None
or_none None = refl
or_none (Some x) = refl

pub or_or : {T : Type 0} (x y z : Option T) → option_or (option_or x y) z ≡ option_or x (option_or y z)
or_or None y z = refl
or_or (Some x) y z = refl

pub or_false : (a b : Bool) → (a || b) ≡ false → (a ≡ false) × (b ≡ false)
or_false true b h = cc
or_false false b h = (refl, h)
