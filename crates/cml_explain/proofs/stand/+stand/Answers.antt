use Rattle.std.proofs.Common.{◌∙◌, ap, arith}
use Rattle.cml_explain.specs.Stands.{standing_in}
use Rattle.cml_check.proofs.ExpressionLemmas.{member-below}
use Rattle.cml_explain.proofs.StandLemmas.{stand-taken, stand-skipped, stand-end}
use Rattle.cml_explain.proofs.stand.+stand.Goals as goal

-- a form of the list lies lower than the list
pub stand_among-stand_in-requires : goal.stand_among-stand_in-requires
stand_among-stand_in-requires t c =
    let start = c.decreases in
    (omega (arith, member-below c.args.forms.now c.loop-k.k c.index-forms-k.result c.loop-k-test.true c.index-forms-k.is), tt)

pub stand_among-returns-then-at-span : goal.stand_among-returns-then-at-span
stand_among-returns-then-at-span t c =
    c.stand_in.ensures
    ∙ ap (λ role. standing_in c.args.at role c.args.word c.args.given c.index-forms-k.result) c.part_role.ensures
    ∙ stand-taken c.args.at c.args.role c.args.word c.args.given c.loop-k.k c.args.forms.now c.index-forms-k.result _ c.span.result
    c.loop-k-test.true c.index-forms-k.is c.span.ensures c.if-at-span.true c.loop-k.invariant

pub stand_among-loop-k-preserved : goal.stand_among-loop-k-preserved
stand_among-loop-k-preserved t c =
    stand-skipped c.args.at c.args.role c.args.word c.args.given c.loop-k.k c.args.forms.now c.index-forms-k.result _ c.span.result
    c.loop-k-test.true c.index-forms-k.is c.span.ensures c.if-at-span.false c.loop-k.invariant

pub stand_among-returns : goal.stand_among-returns
stand_among-returns t c =
    stand-end c.args.at c.args.role c.args.word c.args.given c.loop-k.k c.args.forms.now _ (omega (arith, c.loop-k-test.false)) c.loop-k.invariant
