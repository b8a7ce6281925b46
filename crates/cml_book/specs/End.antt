-- The command that ends a thread.
use Rattle.std.specs.Prelude.{ℕ, slice_get, slice_set, Ok}
use Rattle.cml_scan.specs.World.{PlainWorld, ended}
use Rattle.cml_book.specs.Outcomes.{Outcome, refuse_by, thread_refusal}

-- The thread ends.
abbrev pub end : PlainWorld → ℕ → Outcome (Unit {0})
end w t = refuse_by (thread_refusal (slice_get w.threads t))
    (Ok (record w { threads = slice_set w.threads t ended }, tt))
