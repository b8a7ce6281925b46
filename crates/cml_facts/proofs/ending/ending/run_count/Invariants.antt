use Rattle.std.proofs.Common.{◌≡◌, ◌≤◌, take}
use Rattle.std.specs.Prelude.{count_by}
use Rattle.cml_book.specs.Walks.{runs}
use Rattle.cml_facts.proofs.ending.ending.run_count.Given as goal

-- those that run so far
abbrev pub invariant-loop-t : goal.invariant-loop-t
invariant-loop-t l = record {
  so_far : l.count ≡ count_by runs (take l.t l.hub.course.world.threads);
  few : l.count ≤ l.t;
}
