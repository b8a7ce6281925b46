use Rattle.std.proofs.Common.{ap, ◌∙◌}
use Rattle.cml_value.specs.Value.{mvar}
use Rattle.cml_check.specs.InOrder.{arities}
use Rattle.cml_check.specs.Ops.{flat_expr}
use Rattle.cml_check.specs.Syntax.{variable, expr_map, name_at}
use Rattle.cml_check.specs.declared.syntax.ActOnTwo.TheVariants as two_of
use Rattle.cml_step.specs.Evaluate.{evaluate}
use Rattle.cml_step.specs.Steps.{◌>>=◌, two_step}
use Rattle.cml_step.specs.Variables.{bound, value_of}
use Rattle.cml_step.proofs.VariableLemmas.{evaluate_named}
use Rattle.cml_step.proofs.asking.put_asked.Goals as goal

pub returns-clause-gives : goal.returns-clause-gives
returns-clause-gives c = λ self term.
    let f = c.args.f.now in
    let fs = arities c.args.program.now in
    let of = value_of (bound f.names c.args.slots.now) in
    let item = expr_map (name_at f.names) (flat_expr c.args.e.now) in
    ap (λ r. r >>= (λ v. evaluate of item >>= (λ w. two_step two_of.MPut v w term)))
    (evaluate_named f.names c.args.slots.now c.requires.distinct fs (variable c.args.at) c.requires.place ∙ c.in_ok-place.ensures)
    ∙ ap (λ r. r >>= (λ w. two_step two_of.MPut (mvar c.in_ok-place.place.0) w term)) c.in_ok-item.ensures.gives
