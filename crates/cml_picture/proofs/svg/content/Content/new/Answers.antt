use Rattle.std.proofs.Common.{subst, sym}
use Rattle.cml_picture.specs.WellFormed.{IsContent, no_content}
use Rattle.cml_picture.proofs.svg.content.Content.new.Goals as goal

pub invariant_of-result : goal.invariant_of-result
invariant_of-result c = record { content = ∣ subst IsContent (sym c.new.ensures.items) no_content ∣₁ }
