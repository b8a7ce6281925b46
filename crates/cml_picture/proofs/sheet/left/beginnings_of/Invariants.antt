use Rattle.std.proofs.Common.{◌≡◌}
use Rattle.cml_facts.specs.Turns.{began_in}
use Rattle.cml_picture.specs.Lives.{beginnings}
use Rattle.cml_picture.specs.Parts.{flag_at}
use Rattle.cml_picture.proofs.sheet.left.beginnings_of.Given as goal

-- those so far
abbrev pub invariant-loop-thread : goal.invariant-loop-thread
invariant-loop-thread l = l.all.items ≡ beginnings (began_in l.hub.course) (flag_at l.flags) l.thread
