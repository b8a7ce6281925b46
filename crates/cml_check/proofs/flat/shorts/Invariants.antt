use Rattle.std.proofs.Common.{map, take}
use Rattle.cml_check.specs.InstrViews.{plain_instr}
use Rattle.cml_check.specs.Ops.{AreShort}
use Rattle.cml_check.proofs.flat.shorts.Given as goal

abbrev pub invariant-loop-instr : goal.invariant-loop-instr
invariant-loop-instr l = AreShort (map plain_instr (take l.instr-index l.code)) l.ops.items
