-- The variables of a call: a finite map from the names that its function declares to their values.
use Rattle.std.specs.Prelude.{ℕ, List, [], ◌∷◌, unwrap_or, slice_get}
use Rattle.std.specs.Map.{lookup, set_value}
use Rattle.std.specs.Str.{bytes_eq}
use Rattle.cml_value.specs.Value.{PlainValue, unit}
use Rattle.cml_check.specs.Syntax.{Name}

abbrev pub Variables : Type 0
Variables = List (Name × PlainValue)

-- the first of these names have these values; the others have no value yet, and are unit
abbrev pub bound : List Name → List PlainValue → Variables
bound [] vs = []
bound (x ∷ xs) [] = (x, unit) ∷ bound xs []
bound (x ∷ xs) (v ∷ vs) = (x, v) ∷ bound xs vs

abbrev pub value_of : Variables → Name → PlainValue
value_of variables x = unwrap_or (lookup (bytes_eq x) variables) unit

-- the variables once this one was given that value
abbrev pub assigned : Variables → Name → PlainValue → Variables
assigned variables x v = set_value (bytes_eq x) variables v

-- the value of a slot; unit where there is no such slot
abbrev pub slot_value : List PlainValue → ℕ → PlainValue
slot_value vs slot = unwrap_or (slice_get vs slot) unit
