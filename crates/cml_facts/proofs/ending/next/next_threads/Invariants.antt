use Rattle.std.proofs.Common.{◌≡◌, take}
use Rattle.cml_facts.specs.Takes.{taker_in}
use Rattle.cml_facts.specs.Rings.{next_threads}
use Rattle.cml_facts.proofs.ending.next.next_threads.Given as goal

-- those of the threads so far
abbrev pub invariant-loop-t : goal.invariant-loop-t
invariant-loop-t l = l.nexts.items ≡ next_threads l.hub.course.world (taker_in l.takers) (take l.t l.hub.course.world.threads)
