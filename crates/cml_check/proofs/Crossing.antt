-- A program may cross threads and be shared among them. What reaches itself is shown of one layer, given that it holds of what lies in it,
-- and then of all.
use denote.Model.Local.{Parts, rows}
use denote.Model.Goals.{send, sync, has_of, part_has}
use denote.Model.Marks.{both_send, both_sync}
use denote.Param.Send.{IsSend, IsSync, sendable}
use Rattle.std.proofs.Crossing.{crosses}
use Rattle.cml_check.specs.contracts.syntax.Expr.TheKnot as expression
use Rattle.cml_check.specs.contracts.syntax.Expr as Expr
use Rattle.cml_check.specs.contracts.syntax.Exprs as Exprs
use Rattle.cml_check.specs.declared.syntax.Expr.TheDeep as expressions
use Rattle.cml_check.specs.contracts.syntax.Block.TheKnot as statement
use Rattle.cml_check.specs.contracts.syntax.Block as Block
use Rattle.cml_check.specs.declared.syntax.Block.TheDeep as statements
use Rattle.cml_check.specs.contracts.flat.Flat as Flat
use Rattle.cml_check.specs.contracts.flat.Offer as Offer
use Rattle.cml_check.specs.contracts.flat.Told as Told
use Rattle.cml_check.specs.contracts.flat.Op as Op
use Rattle.cml_check.specs.contracts.program.Prog as Prog

-- programs: expressions, and statements over these
module _ (p : Parts expression.frame) (s : (j : expressions.the_members) → IsSend (rows expression.frame p j)) (y : (j : expressions.the_members) → IsSync (rows expression.frame p j)) where
  expression_sends : (i : expressions.the_members) → IsSend (rows expression.frame (expression.step p) i)
  expression_sends expressions.member-Expr = has_of expression.frame send (expression.step p) expressions.member-Expr
      (part_has send (expression.view-Expr p) (search (sendable, crosses) depth 60 fits 100000))
  expression_sends expressions.member-Exprs = has_of expression.frame send (expression.step p) expressions.member-Exprs
      (part_has send (expression.view-Exprs p) (search (sendable, crosses) depth 60 fits 100000))

  expression_syncs : (i : expressions.the_members) → IsSync (rows expression.frame (expression.step p) i)
  expression_syncs expressions.member-Expr = has_of expression.frame sync (expression.step p) expressions.member-Expr
      (part_has sync (expression.view-Expr p) (search (sendable, crosses) depth 60 fits 100000))
  expression_syncs expressions.member-Exprs = has_of expression.frame sync (expression.step p) expressions.member-Exprs
      (part_has sync (expression.view-Exprs p) (search (sendable, crosses) depth 60 fits 100000))

expression_send : IsSend Expr.the_row
expression_send = both_send expression.frame expression.step expression.sizes expression_sends expression_syncs expressions.member-Expr

expression_sync : IsSync Expr.the_row
expression_sync = both_sync expression.frame expression.step expression.sizes expression_sends expression_syncs expressions.member-Expr

expressions_send : IsSend Exprs.the_row
expressions_send = both_send expression.frame expression.step expression.sizes expression_sends expression_syncs expressions.member-Exprs

expressions_sync : IsSync Exprs.the_row
expressions_sync = both_sync expression.frame expression.step expression.sizes expression_sends expression_syncs expressions.member-Exprs

ruleset expressions_cross = (expression_send, expression_sync, expressions_send, expressions_sync)

module _ (p : Parts statement.frame) (s : (j : statements.the_members) → IsSend (rows statement.frame p j)) (y : (j : statements.the_members) → IsSync (rows statement.frame p j)) where
  statement_sends : (i : statements.the_members) → IsSend (rows statement.frame (statement.step p) i)
  statement_sends statements.member-Block = has_of statement.frame send (statement.step p) statements.member-Block
      (part_has send (statement.view-Block p) (search (sendable, crosses, expressions_cross) depth 60 fits 100000))
  statement_sends statements.member-Stmt = has_of statement.frame send (statement.step p) statements.member-Stmt
      (part_has send (statement.view-Stmt p) (search (sendable, crosses, expressions_cross) depth 60 fits 100000))

  statement_syncs : (i : statements.the_members) → IsSync (rows statement.frame (statement.step p) i)
  statement_syncs statements.member-Block = has_of statement.frame sync (statement.step p) statements.member-Block
      (part_has sync (statement.view-Block p) (search (sendable, crosses, expressions_cross) depth 60 fits 100000))
  statement_syncs statements.member-Stmt = has_of statement.frame sync (statement.step p) statements.member-Stmt
      (part_has sync (statement.view-Stmt p) (search (sendable, crosses, expressions_cross) depth 60 fits 100000))

block_send : IsSend Block.the_row
block_send = both_send statement.frame statement.step statement.sizes statement_sends statement_syncs statements.member-Block

block_sync : IsSync Block.the_row
block_sync = both_sync statement.frame statement.step statement.sizes statement_sends statement_syncs statements.member-Block

-- the short forms of instructions
flat_send : IsSend Flat.the_row
flat_send = search (sendable, crosses) depth 60 fits 100000

flat_sync : IsSync Flat.the_row
flat_sync = search (sendable, crosses) depth 60 fits 100000

offer_send : IsSend Offer.the_row
offer_send = search (sendable, crosses) depth 60 fits 100000

offer_sync : IsSync Offer.the_row
offer_sync = search (sendable, crosses) depth 60 fits 100000

told_send : IsSend Told.the_row
told_send = search (sendable, crosses) depth 60 fits 100000

told_sync : IsSync Told.the_row
told_sync = search (sendable, crosses) depth 60 fits 100000

ruleset parts_cross = (flat_send, flat_sync, offer_send, offer_sync, told_send, told_sync)

op_send : IsSend Op.the_row
op_send = search (sendable, crosses, parts_cross) depth 60 fits 100000

op_sync : IsSync Op.the_row
op_sync = search (sendable, crosses, parts_cross) depth 60 fits 100000

pub program_send : IsSend Prog.the_row
program_send = search (sendable, crosses, expressions_cross, block_send, block_sync, op_send, op_sync) depth 60 fits 100000

pub program_sync : IsSync Prog.the_row
program_sync = search (sendable, crosses, expressions_cross, block_send, block_sync, op_send, op_sync) depth 60 fits 100000

pub ruleset programs_cross = (program_send, program_sync)
