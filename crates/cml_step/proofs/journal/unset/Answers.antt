use Rattle.std.proofs.Common.{ap, sym, ◌∙◌}
use Rattle.cml_step.specs.Undone.{unset}
use Rattle.cml_step.proofs.UndoLemmas.{unset_pushed}
use Rattle.cml_step.proofs.journal.unset.Goals as goal

pub loop-noted-preserved : goal.loop-noted-preserved
loop-noted-preserved c =
    let left = c.pop.new.self.items in
    ap (unset left) c.put_at.ensures
    ∙ sym (unset_pushed left c.in-Some.noted c.loop-noted.slots.items)
    ∙ ap (λ ns. unset ns c.loop-noted.slots.items) (sym c.in-Some.ensures.items)
    ∙ c.loop-noted.invariant
