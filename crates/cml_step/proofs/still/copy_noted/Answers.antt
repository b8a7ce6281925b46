use Rattle.std.proofs.Common.{◌≡◌, ◌++◌, ◌∷◌, [], List, Option, ap, sym, ◌∙◌}
use Rattle.cml_step.specs.declared.call.Call.{Call}
use Rattle.cml_step.specs.declared.entry.Entry.{Entry}
use Rattle.cml_step.specs.declared.entry.Entry.TheVariants as entry
use Rattle.cml_step.specs.Machines.{PlainHeld, plain_held}
use Rattle.cml_step.specs.Shared.{topped}
use Rattle.cml_step.specs.Undone.{stood, stack_before, wrapped}
use Rattle.cml_step.proofs.UndoLemmas.{in_place, same_before, ok_then}
use Rattle.cml_step.proofs.still.copy_noted.Goals as goal

pub returns-in-None-clause-ok : goal.returns-in-None-clause-ok
returns-in-None-clause-ok c = λ before is.
    let s = c.stack.inside in
    let i = c.stack.invariant in
    let at = in_place s.below s.call s.over i.0 i.1 i.2 is.below is.top is.over is.no_call (c.stack.view_is ∙ is.now_is) in
    let there = sym c.in-None.is ∙ at.1 in
    absurd (cc)

pub returns-in-Some-clause-ok : goal.returns-in-Some-clause-ok
returns-in-Some-clause-ok c = λ before is.
    let s = c.stack.inside in
    let j = c.args.journal.now in
    let k : Call = c.in-Some.call in
    let i = c.stack.invariant in
    let at = in_place s.below s.call s.over i.0 i.1 i.2 is.below is.top is.over is.no_call (c.stack.view_is ∙ is.now_is) in
    let there = sym c.in-Some.is ∙ at.1 in
    let own : k ≡ at.0 = cc in
    let same : stack_before s.below j k ≡ before =
    ap (λ (h : PlainHeld). topped (s.below ++ h ∷ []) (wrapped j.over)) (same_before j is.top k (ap (λ (d : Call). plain_held (entry.Call d)) own ∙ at.3))
    ∙ ap (λ (hs : List PlainHeld). stack_before hs j is.top) at.2
    ∙ sym is.before_is in
    ok_then c.copy_before.result (λ e. e ∙ same) c.copy_before.ensures.ok
