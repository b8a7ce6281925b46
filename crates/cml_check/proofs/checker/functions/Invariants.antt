use Rattle.std.proofs.Common.{◌≡◌, ◌≤◌, ◌++◌, map, drop}
use Rattle.std.specs.Prelude.{All}
use Rattle.cml_check.specs.Syntax.{written}
use Rattle.cml_check.specs.Heads.{arities_of}
use Rattle.cml_check.specs.HeadViews.{plain_heads, head_names}
use Rattle.cml_check.specs.InOrder.{FunctionFits, arities, names_of}
use Rattle.cml_check.specs.Shape.{functions_in}
use Rattle.cml_check.specs.Sizes.{statements_of}
use Rattle.cml_check.proofs.FunctionLemmas.{front}
use Rattle.cml_check.proofs.checker.functions.Given as goal

-- what was found, and what is left, is what all are; each function so far is in order; the arities and the names are those of the heads;
-- and the statements so far are as many as may be
abbrev pub invariant-loop-head : goal.invariant-loop-head
invariant-loop-head l = record {
  whole : plain_heads l.head-items ≡ l.heads;
  left : front (map written l.items.items) (functions_in l.heads l.statements (plain_heads (drop l.head-index l.head-items))) ≡ functions_in l.heads 0 l.heads;
  fits : All (FunctionFits (arities_of l.heads)) l.items.items;
  named : names_of l.items.items ++ head_names (plain_heads (drop l.head-index l.head-items)) ≡ head_names l.heads;
  same : arities l.items.items ++ arities_of (plain_heads (drop l.head-index l.head-items)) ≡ arities_of l.heads;
  counted : l.statements ≡ statements_of l.items.items;
  few : l.statements ≤ 4096;
}
