use Rattle.std.proofs.Common.{List, [], ◌∷◌, ◌++◌, get_or, slice_set, ap, sym, ◌∙◌}
use Rattle.cml_value.specs.Value.{PlainValue}
use Rattle.cml_step.specs.declared.journal.Noted.{Noted}
use Rattle.cml_step.specs.Undone.{unset}
use Rattle.cml_step.proofs.UndoLemmas.{set_noted}
use Rattle.cml_step.proofs.journal.set_in.Goals as goal

pub returns-clause-noted : goal.returns-clause-noted
returns-clause-noted c =
    let xs = c.args.slots.now in
    let s = c.args.slot in
    let had = c.replace-had.result in
    let n : Noted = record { slot = s; value = had } in
    let is = c.replace-had.ensures.value in
    ap (λ (ns : List Noted). unset ns (slice_set xs s c.replace-had.new.dest)) (c.push_reserved.ensures.items ∙ ap (λ (ns : List Noted). ns ++ n ∷ []) c.reserve.ensures.items)
    ∙ set_noted c.args.sets.now.items xs s c.replace-had.new.dest had (is ∙ ap (λ (y : PlainValue). get_or xs s y) (c.index-slots-slot.is ∙ sym is))
