use Rattle.std.proofs.Common.{◌≡◌, ◌-◌, ◌+◌, ◌≤◌}
use Rattle.cml_index.proofs.numbers.Numbers.grow.Given as goal

-- nothing came in
abbrev pub invariant-loop-self : goal.invariant-loop-self
invariant-loop-self l = record {
  same : l.self.items ≡ l.fn.self.items;
  grown : l.fn.self.size ≤ l.self.size;
  most : l.self.size ≤ l.fn.self.size + (l.number + 1 - l.fn.self.size);
}

abbrev pub decreases-loop-self : goal.decreases-loop-self
decreases-loop-self l = l.number + 1 - l.self.size
