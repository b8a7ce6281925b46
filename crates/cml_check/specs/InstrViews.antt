-- The view of an instruction.
use Rattle.cml_check.specs.StmtViews.{plain_effect, plain_source}
use Rattle.cml_check.specs.Layout.{PlainInstr, let_then, set_then, do_then, if_then, while_then, return_then}
use Rattle.cml_check.specs.declared.instr.Instr.{Instr}
use Rattle.cml_check.specs.declared.instr.Instr.TheVariants as instr

abbrev pub plain_instr : Instr → PlainInstr
plain_instr (instr.Let x r next) = let_then x (plain_source r) next
plain_instr (instr.Set x e next) = set_then x e next
plain_instr (instr.Do e next) = do_then (plain_effect e) next
plain_instr (instr.If e holds fails) = if_then e holds fails
plain_instr (instr.While e body next) = while_then e body next
plain_instr (instr.Return e) = return_then e
