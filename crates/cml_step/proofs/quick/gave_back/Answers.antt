use Rattle.std.proofs.Common.{◌∙◌, ap, sym}
use Rattle.cml_check.specs.Syntax.{expr_map, name_at}
use Rattle.cml_step.specs.Callers.{calls_on}
use Rattle.cml_step.specs.Evaluate.{evaluate}
use Rattle.cml_step.specs.Steps.{delivered, ◌>>=◌}
use Rattle.cml_step.specs.Variables.{bound, value_of}
use Rattle.cml_step.proofs.quick.gave_back.Goals as goal

pub returns-in-Ok-clause-goes : goal.returns-in-Ok-clause-goes
returns-in-Ok-clause-goes c = λ on self left below.
    let names = c.args.f.now.names in
    let e = expr_map (name_at names) c.args.e.now in
    let cs = calls_on c.args.program.now c.args.callers.now.items below in
    ap (λ ws. evaluate (value_of (bound names ws)) e >>= λ v. delivered v cs) (sym c.as_slice-2.ensures.value)
    ∙ ap (λ r. r >>= λ v. delivered v cs) c.in-Ok.ensures.gives
    ∙ c.returned-in-Ok.ensures.goes on below

pub returns-in-Some-clause-goes : goal.returns-in-Some-clause-goes
returns-in-Some-clause-goes c = λ on self left below.
    let names = c.args.f.now.names in
    let e = expr_map (name_at names) c.args.e.now in
    let cs = calls_on c.args.program.now c.args.callers.now.items below in
    ap (λ ws. evaluate (value_of (bound names ws)) e >>= λ v. delivered v cs) (sym c.as_slice.ensures.value)
    ∙ ap (λ r. r >>= λ v. delivered v cs) c.in-Some.ensures.gives
    ∙ c.returned.ensures.goes on below
