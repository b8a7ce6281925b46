use Rattle.std.proofs.Common.{◌≡◌, ◌++◌, length, map, drop}
use Rattle.cml_check.specs.Syntax.{stmts}
use Rattle.cml_check.specs.Layout.{stmts_code}
use Rattle.cml_check.specs.InstrViews.{plain_instr}
use Rattle.cml_check.proofs.lay.+lay.Given as goal

-- what is laid, and then the code of the statements that are left, is the whole
abbrev pub invariant-lay_block-loop-at : goal.invariant-lay_block-loop-at
invariant-lay_block-loop-at l =
    map plain_instr l.code.items ++ stmts_code (length l.code.items) (stmts (drop l.at l.block-inside.items.items)) l.next
    ≡ map plain_instr l.fn.code.items ++ stmts_code (length l.fn.code.items) (stmts l.block-inside.items.items) l.next
