-- What M-variables are asked for: Reppy's mTakeEvt, mGetEvt and mSwapEvt. All three give the value that was there.
use Rattle.std.specs.Prelude.{Option, Some, None}
use Rattle.cml_value.specs.Value.{PlainValue}
use Rattle.cml_objects.specs.declared.mvar.MVarWant.{MVarWant}
use Rattle.cml_objects.specs.declared.mvar.MVarWant.TheVariants.{Take, Get, Swap}

-- a take empties the variable, a get leaves what is there, a swap leaves its own value
abbrev pub left_after : Option PlainValue → MVarWant → Option PlainValue
left_after held Take = None
left_after held Get = held
left_after held (Swap v) = Some v

-- only a get needs a copy
abbrev pub copy_for : Option PlainValue → MVarWant → Option PlainValue
copy_for held Take = None
copy_for held Get = held
copy_for held (Swap v) = None
