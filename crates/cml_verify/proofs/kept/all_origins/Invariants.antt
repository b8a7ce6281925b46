use Rattle.std.proofs.Common.{◌≡◌, take}
use Rattle.cml_hub.specs.Deeds.{origins}
use Rattle.cml_step.specs.Calls.{text_of}
use Rattle.cml_verify.proofs.kept.all_origins.Given as goal

abbrev pub invariant-loop-t : goal.invariant-loop-t
invariant-loop-t l = l.began.items ≡ take l.t (origins (text_of l.hub.course.program) l.hub.course.items)
