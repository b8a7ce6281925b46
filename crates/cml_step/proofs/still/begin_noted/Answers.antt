use Rattle.std.proofs.Common.{[], List, ap, sym, ◌∙◌, subst, refl}
use Rattle.cml_step.specs.declared.journal.Noted.{Noted}
use Rattle.cml_step.specs.Undone.{wrapped, HasNotes}
use Rattle.cml_step.proofs.StackLemmas.{none_over}
use Rattle.cml_step.proofs.UndoLemmas.{unset_same}
use Rattle.cml_step.proofs.still.begin_noted.Goals as goal

pub returns-clause-none : goal.returns-clause-none
returns-clause-none c = none_over c.args.over.now (sym c.is_some.ensures ∙ c.if-is_some.false)

pub returns-clause-head : goal.returns-clause-head
returns-clause-head c = (c.begin.ensures.head, ap wrapped c.begin.ensures.over ∙ sym (none_over c.args.over.now (sym c.is_some.ensures ∙ c.if-is_some.false)))

pub returns-clause-noted : goal.returns-clause-noted
returns-clause-noted c =
    let k = c.args.call.now in
    subst (λ (ns : List Noted). HasNotes [] k ns k) (sym c.begin.ensures.sets) (unset_same [] k k refl refl)
