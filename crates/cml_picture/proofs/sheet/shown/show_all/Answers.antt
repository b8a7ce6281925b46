use Rattle.std.proofs.Common.{rules, ◌≡◌, ◌∙◌, IfErr, Err, subst, sym}
use Rattle.cml_facts.specs.Narrators.{places_of}
use Rattle.cml_picture.specs.Stops.{StopsOf}
use Rattle.cml_picture.specs.Views.{plain_stack}
use Rattle.cml_picture.proofs.Along.{shows_more, stops_index}
use Rattle.cml_picture.proofs.sheet.shown.show_all.Goals as goal

pub returns-in_err-show_item-clause-stops : goal.returns-in_err-show_item-clause-stops
returns-in_err-show_item-clause-stops c =
    let why = c.in_err-show_item.field-0.0 in
    let is : c.from_residual.result ≡ Err why = search rules in
    subst (λ r. IfErr r (λ w. StopsOf (places_of c.args.narrator.now) c.args.hub.now.course (plain_stack c.args.stack.now) c.args.items.now c.show_item.new.hub.course w)) (sym is)
    (stops_index (places_of c.args.narrator.now) (places_of c.loop-item.narrator) c.args.hub.now.course (plain_stack c.args.stack.now) c.args.items.now c.loop-item.item-index _
    c.loop-item.hub.course (plain_stack c.loop-item.stack) c.show_item.new.hub.course why c.loop-item.invariant.places c.loop-item-test.true
    c.loop-item.invariant.shows c.in_err-show_item.ensures.stops)

pub loop-item-preserved : goal.loop-item-preserved
loop-item-preserved c = record {
  shows = shows_more (places_of c.args.narrator.now) (places_of c.loop-item.narrator) c.args.hub.now.course (plain_stack c.args.stack.now) c.args.items.now c.loop-item.item-index _
      c.loop-item.hub.course (plain_stack c.loop-item.stack) c.show_item.new.hub.course (plain_stack c.show_item.new.stack) c.loop-item.invariant.places c.loop-item-test.true
      c.loop-item.invariant.shows c.in_ok-show_item.ensures.shows;
  knows = c.in_ok-show_item.ensures.knows;
  places = c.in_ok-show_item.ensures.places ∙ c.loop-item.invariant.places;
  none_out = c.in_ok-show_item.ensures.none_out;
}
