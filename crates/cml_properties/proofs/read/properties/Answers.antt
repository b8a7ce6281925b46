use Rattle.std.proofs.Common.{◌≡◌, [], ap, rules, arith}
use Rattle.std.proofs.lemmas.Result.{err_from_is_err_and}
use Rattle.cml_properties.proofs.ReadLemmas.{says_first, says_next, says_all, says_fault, fits_first, fits_next}
use Rattle.cml_properties.proofs.read.properties.Goals as goal

pub loop-line-init : goal.loop-line-init
loop-line-init c =
    let all = ap (λ l. l.left) c.new-lines.ensures in
    (says_first c.args.text.now _ _ c.new-found.ensures.items all, fits_first c.args.text.now _ all, omega arith)

pub loop-line-preserved : goal.loop-line-preserved
loop-line-preserved c = (
  says_next c.args.text.now _ _ _ _ _ _ c.in_ok-said.said c.in-Some.ensures.line c.in_ok-push_said.ensures c.loop-line.invariant.0 c.in_ok-said.ensures,
  fits_next _ _ _ _ _ c.in-Some.ensures.line c.loop-line.invariant.1,
  c.loop-line.invariant.2,
)

pub returns-in_err-said : goal.returns-in_err-said
returns-in_err-said c =
    let p = err_from_is_err_and c.from_residual.result c.from_residual.ensures.1 in
    rw (p.1, p.2) (says_fault c.args.text.now _ _ _ _ _ _ c.loop-line.invariant.2 c.in-Some.ensures.line c.loop-line.invariant.0 c.in_err-said.ensures)

pub returns : goal.returns
returns c =
    let none : c.loop-line.lines.left ≡ [] = first_of ((search rules), (grind arith)) in
    says_all c.args.text.now _ _ _ c.loop-line.invariant.2 none c.loop-line.invariant.0
