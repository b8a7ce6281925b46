use Rattle.std.proofs.Common.{◌≡◌, drop}
use Rattle.cml_value.specs.Nack.{live}
use Rattle.cml_group.specs.Leaves.{numbers}
use Rattle.cml_book.specs.Sync.{with_each}
use Rattle.cml_book.specs.Keeping.{AreFresh}
use Rattle.cml_book.proofs.nacks.enter.Given as goal

-- what is left to enter leads where all lead, and is fresh; nobody waits anew
abbrev pub invariant-loop-nack : goal.invariant-loop-nack
invariant-loop-nack l = record {
  leads : with_each (numbers (drop l.nack-index l.nacks)) live l.cells.objects ≡ with_each (numbers l.nacks) live l.fn.cells.objects;
  fresh : AreFresh (numbers (drop l.nack-index l.nacks)) l.cells.objects;
  waits : l.cells.waits ≡ l.fn.cells.waits;
}
