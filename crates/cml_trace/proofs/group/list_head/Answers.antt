use Rattle.std.proofs.Common.{◌≡◌, ◌<◌, map, IfSome, sym, subst}
use Rattle.cml_text.specs.Forms.{PlainSexpr, plain_forms, nesting, nesting_of, span_of}
use Rattle.cml_trace.specs.GroupForms.{group_from, group_by}
use Rattle.cml_trace.proofs.FormLemmas.{group_from-headed, nesting-headed}
use Rattle.cml_trace.proofs.group.list_head.Goals as goal

pub returns-in-List-clause-some : goal.returns-in-List-clause-some
returns-in-List-clause-some c =
    subst (λ (form : PlainSexpr). IfSome c.head_of.result (λ head. group_from form ≡ group_by head.0 head.1.now (map group_from head.1.now)))
    (sym c.in-List.ensures) (group_from-headed (span_of c.args.form.now) c.in-List.forms.now c.head_of.result c.head_of.ensures)

pub returns-in-List-clause-lower : goal.returns-in-List-clause-lower
returns-in-List-clause-lower c =
    subst (λ (form : PlainSexpr). IfSome c.head_of.result (λ head. nesting_of (plain_forms head.1.now) < nesting form))
    (sym c.in-List.ensures) (nesting-headed (span_of c.args.form.now) c.in-List.forms.now c.head_of.result c.head_of.ensures)
