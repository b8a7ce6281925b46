use Rattle.std.proofs.Common.{◌∙◌, ap, arith, subst, sym}
use Rattle.cml_text.specs.Lines.{lines}
use Rattle.cml_properties.specs.Agreements.{texts}
use Rattle.cml_properties.specs.Breaches.{AreLinesOf}
use Rattle.cml_properties.specs.Judged.{IsJudged}
use Rattle.cml_properties.proofs.JudgedLemmas.{judged_next, judged_all, judged_none}
use Rattle.cml_properties.proofs.judged.judge.Goals as goal

pub returns-then-is_empty : goal.returns-then-is_empty
returns-then-is_empty c =
    judged_none (lines c.args.first.now) c.args.run.now c.args.properties.now c.new-judged.result.items (sym c.is_empty.ensures ∙ c.if-is_empty.true) c.new-judged.ensures.items

pub judge_one-requires : goal.judge_one-requires
judge_one-requires c = record {
  own = ap texts c.as_slice-in-loop-property-2.ensures.value ∙ c.in_ok-own.ensures;
  printed = subst (λ bytes. AreLinesOf bytes c.as_slice-in-loop-property-3.result.now) (ap texts (c.as_slice.ensures.value ∙ sym c.as_slice-in-loop-property-2.ensures.value))
      (subst (λ ls. AreLinesOf (texts c.as_slice.result.now) ls) (sym c.as_slice-in-loop-property-3.ensures.value) c.in_ok-printed.ensures);
}

pub loop-property-preserved : goal.loop-property-preserved
loop-property-preserved c =
    let says =
    subst (λ first. IsJudged first c.args.run.now c.property-item.result c.in_ok-line.line) (ap texts c.as_slice-in-loop-property.ensures.value ∙ c.in_ok-beside.ensures) c.in_ok-line.ensures in
    judged_next (lines c.args.first.now) c.args.run.now c.args.properties.now c.loop-property.property-index c.property-item.result c.in_ok-line.line _ _ c.loop-property-test.true
    c.property-item.is says c.in_ok-push.ensures.items c.loop-property.invariant

pub returns : goal.returns
returns c = judged_all (lines c.args.first.now) c.args.run.now c.args.properties.now c.loop-property.property-index _ (omega arith) c.loop-property.invariant
