-- The line that tells of a write that failed.
use Rattle.std.specs.Prelude.{ℕ, List, codes}
use Rattle.cml_text.specs.Lines.{line}

abbrev pub cannot_write : List ℕ
cannot_write = line (codes "cannot write output")
