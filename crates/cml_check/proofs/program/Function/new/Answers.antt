use Rattle.std.proofs.Common.{map, ap, ◌∙◌, subst}
use Rattle.cml_check.specs.InstrViews.{plain_instr}
use Rattle.cml_check.specs.Ops.{AreShort}
use Rattle.cml_check.proofs.program.Function.new.Goals as goal

pub invariant_of-result : goal.invariant_of-result
invariant_of-result c = (
  c.in_ok-code.ensures,
  subst (λ is. AreShort is c.in_ok-ops.ops.items) (ap (map plain_instr) c.as_slice.ensures.value ∙ c.in_ok-code.ensures) c.in_ok-ops.ensures,
)
