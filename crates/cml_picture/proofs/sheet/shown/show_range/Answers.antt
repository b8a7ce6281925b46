use Rattle.std.proofs.Common.{rules, ◌≡◌, IfErr, Err, subst, sym}
use Rattle.cml_facts.specs.Narrators.{places_of}
use Rattle.cml_picture.specs.Draws.{IsNotDrawn}
use Rattle.cml_picture.proofs.Along.{range_halts, range_stops}
use Rattle.cml_picture.proofs.sheet.shown.show_range.Goals as goal

pub returns-in_err-follow_all-clause-refused : goal.returns-in_err-follow_all-clause-refused
returns-in_err-follow_all-clause-refused c =
    let why = c.in_err-follow_all.field-0.0 in
    let is : c.from_residual.result ≡ Err why = search rules in
    let halts = rw c.items_before.ensures at c.in_err-follow_all.ensures.halts in
    subst (λ r. IfErr r (λ w. IsNotDrawn c.args.hub.now.course c.args.items.now c.args.from c.args.to c.follow_all.new.hub.course w)) (sym is)
    (range_halts c.args.hub.now.course c.args.items.now c.args.from c.args.to c.follow_all.new.hub.course why halts)

pub returns-in_err-show_all-clause-refused : goal.returns-in_err-show_all-clause-refused
returns-in_err-show_all-clause-refused c =
    let why = c.in_err-show_all.field-0.0 in
    let is : c.from_residual-in_err-show_all.result ≡ Err why = search rules in
    let leads = rw c.items_before.ensures at c.in_ok-follow_all.ensures.leads in
    let stops = rw (c.items_within.ensures, c.requires.blank, c.in_ok-follow_all.ensures.places) at c.in_err-show_all.ensures.stops in
    subst (λ r. IfErr r (λ w. IsNotDrawn c.args.hub.now.course c.args.items.now c.args.from c.args.to c.show_all.new.hub.course w)) (sym is)
    (range_stops (places_of c.args.narrator.now) c.args.hub.now.course c.args.items.now c.args.from c.args.to c.follow_all.new.hub.course c.show_all.new.hub.course why leads stops)
