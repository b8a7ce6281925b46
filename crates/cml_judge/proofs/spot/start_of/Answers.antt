use Rattle.std.proofs.Common.{◌≡◌, [], ap, refl, rules, arith}
use Rattle.cml_properties.proofs.ReadLemmas.{fits_first, fits_next}
use Rattle.cml_judge.proofs.SpotLemmas.{left_first, left_next, left_here, left_none}
use Rattle.cml_judge.proofs.spot.start_of.Goals as goal

pub loop-line-init : goal.loop-line-init
loop-line-init c =
    let all = ap (λ l. l.left) c.new-lines.ensures in
    (left_first c.args.output.now c.args.number _ all, fits_first c.args.output.now _ all)

pub loop-line-preserved : goal.loop-line-preserved
loop-line-preserved c = (
  left_next c.args.output.now c.args.number _ _ _ _ _ _ c.in-Some.ensures.line c.if-count-number.false refl c.loop-line.invariant.0,
  fits_next _ _ _ _ _ c.in-Some.ensures.line c.loop-line.invariant.1,
)

pub returns-then-count-number : goal.returns-then-count-number
returns-then-count-number c = left_here c.args.output.now c.args.number _ _ _ _ _ c.in-Some.ensures.line c.if-count-number.true c.loop-line.invariant.0

pub returns : goal.returns
returns c =
    let none : c.loop-line.lines.left ≡ [] = first_of ((search rules), (grind arith)) in
    left_none c.args.output.now c.args.number _ _ _ none c.loop-line.invariant.0
