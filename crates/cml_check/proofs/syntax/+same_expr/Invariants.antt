use Rattle.std.proofs.Common.{◌≡◌, ◌↔◌, drop, length}
use Rattle.cml_check.specs.Syntax.{exprs}
use Rattle.cml_check.proofs.syntax.+same_expr.Given as goal

-- what the loop has seen is the same, so the rest decides
abbrev pub invariant-Exprs::same-loop-i : goal.invariant-Exprs::same-loop-i
invariant-Exprs::same-loop-i l =
    (length l.self-inside.items.items ≡ length l.other-inside.items.items)
    × ((exprs l.self-inside.items.items ≡ exprs l.other-inside.items.items) ↔ (exprs (drop l.i l.self-inside.items.items) ≡ exprs (drop l.i l.other-inside.items.items)))
