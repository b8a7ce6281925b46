use Rattle.std.proofs.Common.{rules, ◌≡◌, ◌∙◌, IfErr, Err, subst, sym}
use Rattle.cml_picture.specs.Stops.{HaltsOf}
use Rattle.cml_picture.proofs.Along.{halts_index, leads_more}
use Rattle.cml_picture.proofs.sheet.shown.follow_all.Goals as goal

pub returns-in_err-follow_item-clause-halts : goal.returns-in_err-follow_item-clause-halts
returns-in_err-follow_item-clause-halts c =
    let why = c.in_err-follow_item.field-0.0 in
    let is : c.from_residual.result ≡ Err why = search rules in
    subst (λ r. IfErr r (λ w. HaltsOf c.args.hub.now.course c.args.items.now c.follow_item.new.hub.course w)) (sym is)
    (halts_index c.args.hub.now.course c.args.items.now c.loop-item.item-index _ c.loop-item.hub.course c.follow_item.new.hub.course why c.loop-item-test.true
    c.loop-item.invariant.leads c.in_err-follow_item.ensures.halts)

pub loop-item-preserved : goal.loop-item-preserved
loop-item-preserved c = record {
  leads = leads_more c.args.hub.now.course c.args.items.now c.loop-item.item-index _
      c.loop-item.hub.course c.follow_item.new.hub.course c.loop-item-test.true c.loop-item.invariant.leads c.in_ok-follow_item.ensures.leads;
  knows = c.in_ok-follow_item.ensures.knows;
  places = c.in_ok-follow_item.ensures.places ∙ c.loop-item.invariant.places;
  none_out = c.in_ok-follow_item.ensures.none_out;
}
