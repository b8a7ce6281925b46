use Rattle.std.proofs.Common.{◌≡◌, ◌*◌, ◌+◌, drop, max}
use Rattle.cml_check.specs.Syntax.{exprs, expr_depth, exprs_depth}
use Rattle.cml_step.specs.Variables.{slot_value}
use Rattle.cml_facts.specs.Parts.{part_of_first}
use Rattle.cml_facts.proofs.fault.blame.+blame.Given as goal

-- it is among those that are left
abbrev pub invariant-part_of_first-loop-e : goal.invariant-part_of_first-loop-e
invariant-part_of_first-loop-e l = part_of_first (slot_value l.slots) (exprs (drop l.e-index l.e-items)) ≡ part_of_first (slot_value l.slots) (exprs l.e-items)

-- a part of an expression comes before the whole
abbrev pub decreases-part_of : goal.decreases-part_of
decreases-part_of l = 3 * expr_depth l.e.now

abbrev pub decreases-part_of_unary : goal.decreases-part_of_unary
decreases-part_of_unary l = 3 * expr_depth l.e.now + 2

abbrev pub decreases-part_of_binary : goal.decreases-part_of_binary
decreases-part_of_binary l = 3 * max (expr_depth l.d.now) (expr_depth l.e.now) + 2

abbrev pub decreases-part_of_first : goal.decreases-part_of_first
decreases-part_of_first l = 3 * exprs_depth l.es.now

abbrev pub decreases-part_of_choice : goal.decreases-part_of_choice
decreases-part_of_choice l = 3 * exprs_depth l.es.now + 2

abbrev pub decreases-part_of_wrap : goal.decreases-part_of_wrap
decreases-part_of_wrap l = 3 * max (expr_depth l.e.now) (exprs_depth l.es.now) + 2

abbrev pub decreases-part_of_made : goal.decreases-part_of_made
decreases-part_of_made l = 3 * exprs_depth l.es.now + 2
