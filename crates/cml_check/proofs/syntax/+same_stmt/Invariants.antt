use Rattle.std.proofs.Common.{◌≡◌, ◌↔◌, drop, length}
use Rattle.cml_check.specs.Syntax.{stmts}
use Rattle.cml_check.proofs.syntax.+same_stmt.Given as goal

-- what the loop has seen is the same, so the rest decides
abbrev pub invariant-Block::same-loop-i : goal.invariant-Block::same-loop-i
invariant-Block::same-loop-i l =
    (length l.self-inside.items.items ≡ length l.other-inside.items.items)
    × ((stmts l.self-inside.items.items ≡ stmts l.other-inside.items.items) ↔ (stmts (drop l.i l.self-inside.items.items) ≡ stmts (drop l.i l.other-inside.items.items)))
