use Rattle.std.proofs.Common.{◌≡◌, drop, length}
use Rattle.cml_text.specs.Forms.{plain_forms, nesting}
use Rattle.cml_properties.specs.Patterns.{all_fit}
use Rattle.cml_properties.proofs.pattern.+fits.Given as goal

-- all fit if those that are left do
abbrev pub invariant-loop-index : goal.invariant-loop-index
invariant-loop-index l =
    (all_fit (plain_forms l.patterns) (plain_forms l.forms) ≡ all_fit (plain_forms (drop l.index l.patterns)) (plain_forms (drop l.index l.forms)))
    × (length l.patterns ≡ length l.forms)

abbrev pub decreases-fits : goal.decreases-fits
decreases-fits l = nesting l.pattern.now
