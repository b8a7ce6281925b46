use Rattle.cml_verify.proofs.Marking.{MarksAt}
use Rattle.cml_verify.proofs.search.unending.marks_at.Given as goal

abbrev pub invariant-loop-place : goal.invariant-loop-place
invariant-loop-place l = MarksAt l.places l.count l.place-index l.marks.items
