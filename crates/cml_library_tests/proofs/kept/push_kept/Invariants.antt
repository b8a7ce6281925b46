use Rattle.std.proofs.Common.{◌≡◌, ◌++◌, drop}
use Rattle.cml_library_tests.specs.Kept.{kept_entries}
use Rattle.cml_library_tests.proofs.kept.push_kept.Given as goal

-- what was put there, and what is left to be kept, are all that is kept
abbrev pub invariant-loop-e : goal.invariant-loop-e
invariant-loop-e l = l.new.items ++ kept_entries l.gone l.side (drop l.e-index l.entries) ≡ l.fn.new.items ++ kept_entries l.gone l.side l.entries
