use Rattle.std.proofs.Common.{◌≡◌, ◌≤◌, ◌+◌, ◌*◌, ℕ, take}
use Rattle.cml_scan.specs.Table.{without}
use Rattle.cml_index.specs.Slots.{HaveDigits}
use Rattle.cml_index.specs.Cores.{IsIndexed, HasFreed}
use Rattle.cml_index.proofs.state.IndexState.leave_all.Given as goal

-- those so far are gone
abbrev pub invariant-loop-tid : goal.invariant-loop-tid
invariant-loop-tid l = record {
  entries : l.self.entries.items ≡ without (take l.tid-index l.gone) l.fn.self.entries.items;
  indexed : IsIndexed l.self;
  flags : l.self.flags ≡ l.fn.self.flags;
  freed : HasFreed l.fn.self l.self;
  cost : (digits : ℕ) → HaveDigits l.fn.self.lanes digits → l.tally + l.self.leaves * (digits + 2) ≤ l.fn.tally + l.fn.self.leaves * (digits + 2);
}
