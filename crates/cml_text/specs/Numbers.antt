-- Which forms are numbers without a sign.
use Rattle.std.specs.Prelude.{ℕ, ℤ, pos, negsuc, nat_lt, if◌then◌else◌, Option, Some, None}
use Rattle.cml_text.specs.Forms.{PlainSexpr, plain_int}

-- every number of a thread, an object, a nack, a leaf or a function is below this
abbrev pub number_limit : ℕ
number_limit = 4294967296

-- the number that an integer is, if it is one
abbrev pub number_by : ℤ → Option ℕ
number_by (pos n) = if nat_lt n number_limit then Some n else None
number_by (negsuc n) = None

-- the number that the form is, if it is one: an integer in range
abbrev pub number_from : PlainSexpr → Option ℕ
number_from (plain_int span z) = number_by z
number_from _ = None

-- the tick that an integer is: it is not below 0
abbrev pub tick_by : ℤ → Option ℕ
tick_by (pos n) = Some n
tick_by (negsuc n) = None

-- the tick that the form is, if it is one
abbrev pub tick_from : PlainSexpr → Option ℕ
tick_from (plain_int span z) = tick_by z
tick_from _ = None
