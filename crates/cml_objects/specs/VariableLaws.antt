-- A put never empties a variable. (Below the law stands its proof, case by case.)
use Rattle.std.specs.Prelude.{◌≡◌, Option, Some, None, Ok, IsTrue, is_some}
use Rattle.cml_value.specs.Value.{PlainValue}
use Rattle.cml_objects.specs.Variables.{put_into}

pub put_stays_lit : (s t : Option PlainValue) (v : PlainValue) → put_into s v ≡ Ok t → IsTrue (is_some s) → IsTrue (is_some t)
put_stays_lit None t v e h = cc
put_stays_lit (Some held) t v e h = cc
