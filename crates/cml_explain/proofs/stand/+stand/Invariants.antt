use Rattle.std.proofs.Common.{◌≡◌, ◌+◌, ◌*◌, drop}
use Rattle.cml_text.specs.Forms.{plain_forms, nesting, nesting_of}
use Rattle.cml_explain.specs.Stands.{stand_among}
use Rattle.cml_explain.proofs.stand.+stand.Given as goal

-- what is left, from the part of this number on, is what all are
abbrev pub invariant-stand_among-loop-k : goal.invariant-stand_among-loop-k
invariant-stand_among-loop-k l =
    stand_among l.at l.role l.word l.given l.k (plain_forms (drop l.k l.forms)) ≡ stand_among l.at l.role l.word l.given 0 (plain_forms l.forms)

abbrev pub decreases-stand_in : goal.decreases-stand_in
decreases-stand_in l = 2 * nesting l.form.now

abbrev pub decreases-stand_among : goal.decreases-stand_among
decreases-stand_among l = 2 * nesting_of (plain_forms l.forms.now) + 1
