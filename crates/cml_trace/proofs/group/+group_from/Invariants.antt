use Rattle.std.proofs.Common.{◌≡◌, drop, map}
use Rattle.cml_text.specs.Forms.{nesting}
use Rattle.cml_trace.specs.Given.{all_of}
use Rattle.cml_trace.specs.GroupForms.{group_from}
use Rattle.cml_trace.proofs.GivenLemmas.{onto}
use Rattle.cml_trace.proofs.group.+group_from.Given as goal

-- what was found, and what is left, is what all are
abbrev pub invariant-loop-member : goal.invariant-loop-member
invariant-loop-member l = onto l.members.items (all_of (map group_from (drop l.member-index l.behind))) ≡ all_of (map group_from l.behind)

abbrev pub decreases-group_from : goal.decreases-group_from
decreases-group_from l = nesting l.form.now
