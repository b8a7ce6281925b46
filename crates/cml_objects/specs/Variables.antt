-- Variables that hold one value or none: Reppy's I-variables and M-variables. A want can be given something exactly while the
-- variable is full.
use Rattle.std.specs.Prelude.{Option, Some, None, Result, Ok, Err}
use Rattle.cml_value.specs.Value.{PlainValue, unit}
use Rattle.cml_objects.specs.Feeds.{PlainRefusal, put}

-- what a full variable holds; unit for an empty one, which gives nobody anything
abbrev pub held_by : Option PlainValue → PlainValue
held_by None = unit
held_by (Some v) = v

-- iPut and mPut fill an empty variable, and are refused by a full one
abbrev pub put_into : Option PlainValue → PlainValue → Result (Option PlainValue) PlainRefusal
put_into None v = Ok (Some v)
put_into (Some held) v = Err put
