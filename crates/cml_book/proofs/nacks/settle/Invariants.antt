use Rattle.std.proofs.Common.{◌≡◌, drop}
use Rattle.cml_value.specs.Group.{scopes, nacks_of}
use Rattle.cml_book.specs.Commit.{settled}
use Rattle.cml_book.proofs.NackLemmas.{settled_in_turn}
use Rattle.cml_book.specs.Keeping.{AreLiveNacks}
use Rattle.cml_book.proofs.nacks.settle.Given as goal

-- what is left to settle leads where all lead, and is live; nobody waits anew
abbrev pub invariant-loop-i : goal.invariant-loop-i
invariant-loop-i l = record {
  leads : settled_in_turn l.leaf (drop l.i (scopes l.flat)) l.cells.objects ≡ settled l.leaf l.flat l.fn.cells.objects;
  alive : AreLiveNacks (nacks_of (drop l.i (scopes l.flat))) l.cells.objects;
  waits : l.cells.waits ≡ l.fn.cells.waits;
}
