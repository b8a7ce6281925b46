use Rattle.std.proofs.Common.{◌≡◌, ◌+◌, drop}
use Rattle.cml_check.specs.Syntax.{stmts}
use Rattle.cml_check.specs.Sizes.{stmts_count}
use Rattle.cml_check.proofs.syntax.+count.Given as goal

-- those that were counted and those that are left are all
abbrev pub invariant-Block::count-loop-stmt : goal.invariant-Block::count-loop-stmt
invariant-Block::count-loop-stmt l = l.count + stmts_count (stmts (drop l.stmt-index l.stmt-items)) ≡ stmts_count (stmts l.stmt-items)
