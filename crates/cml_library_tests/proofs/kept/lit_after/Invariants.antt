use Rattle.std.proofs.Common.{◌≡◌, ◌++◌, drop}
use Rattle.std.specs.List.{filter}
use Rattle.cml_library_tests.specs.Kept.{is_untold}
use Rattle.cml_library_tests.proofs.kept.lit_after.Given as goal

-- what was put there, and what is left to be kept, are all that is kept
abbrev pub invariant-loop-light : goal.invariant-loop-light
invariant-loop-light l = l.new.items ++ filter (is_untold l.lit l.unlit) (drop l.light-index l.old) ≡ filter (is_untold l.lit l.unlit) l.old

-- what was put there, and what is left, are all
abbrev pub invariant-loop-light-2 : goal.invariant-loop-light-2
invariant-loop-light-2 l = l.new.items ++ drop l.light-index l.lit ≡ filter (is_untold l.lit l.unlit) l.old ++ l.lit
