-- The commands that fill variables.
use Rattle.std.specs.Prelude.{ℕ, not, length, nat_lt, slice_get, slice_set, Some, Ok}
use Rattle.cml_value.specs.Value.{PlainValue}
use Rattle.cml_value.specs.Limits.{value_fits}
use Rattle.cml_scan.specs.World.{PlainWorld}
use Rattle.cml_scan.specs.Light.{is_full}
use Rattle.cml_book.specs.declared.refusal.Refusal.TheVariants.{Object, Put, Deep}
use Rattle.cml_book.specs.Outcomes.{Outcome, refuse_if}

-- The value is put into the I-variable, which must be empty (where Reppy's iPut raises Put, the command is refused).
abbrev pub iput : PlainWorld → ℕ → PlainValue → Outcome (Unit {0})
iput w i v = refuse_if (not (nat_lt i (length w.ivars))) Object
    (refuse_if (is_full (slice_get w.ivars i)) Put
    (refuse_if (not (value_fits v)) Deep
    (Ok (record w { ivars = slice_set w.ivars i (Some v) }, tt))))

-- The value is put into the M-variable, which must be empty (where Reppy's mPut raises Put, the command is refused).
abbrev pub mput : PlainWorld → ℕ → PlainValue → Outcome (Unit {0})
mput w m v = refuse_if (not (nat_lt m (length w.mvars))) Object
    (refuse_if (is_full (slice_get w.mvars m)) Put
    (refuse_if (not (value_fits v)) Deep
    (Ok (record w { mvars = slice_set w.mvars m (Some v) }, tt))))
