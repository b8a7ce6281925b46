use Rattle.std.proofs.Common.{◌∙◌, ◌||◌, not, Bool, ap, ap₂}
use Rattle.cml_host.proofs.close.is_unwell.Goals as goal

pub returns : goal.returns
returns c =
    c.either-2.ensures ∙ ap (λ (b : Bool). not c.args.kept || b) (c.either.ensures ∙ ap₂ (λ (x y : Bool). x || y) c.has_a_fault.ensures c.stays_stuck.ensures)
