use Rattle.std.proofs.Common.{◌≡◌, ◌&&◌, Some, ap, sym, ◌∙◌}
use Rattle.cml_scan.specs.declared.meet.Place.{Place}
use Rattle.cml_objects.specs.Lanes.{is_of}
use Rattle.cml_objects.specs.Pairings.{side_place, partner_threads}
use Rattle.cml_objects.proofs.Pairs.{led_to, do_meet_by_place}
use Rattle.cml_objects.proofs.pairing.do_meet.Goals as goal

pub returns-then-leads : goal.returns-then-leads
returns-then-leads c =
    let tid = c.args.head in
    let s = c.in-Some-Some.s in
    let q : Place = record { tid = c.args.other; leaf = 0 } in
    let first : side_place c.args.first.now ≡ Some s = sym c.place.ensures ∙ c.in-Some-Some.is-0 in
    let second : side_place c.args.second.now ≡ Some c.in-Some-Some.t = sym c.place-2.ensures ∙ c.in-Some-Some.is-1 in
    let led = sym c.leads.ensures ∙ c.if-leads.true in
    c.is.ensures 0 ∙ ap (λ w. is_of w q) c.partner_threads.ensures
    ∙ sym (do_meet_by_place tid c.args.first.now q c.args.second.now
    ∙ ap (λ p. led_to tid q p (side_place c.args.second.now)) first ∙ ap (led_to tid q (Some s)) second
    ∙ ap (λ b. b && is_of (partner_threads s.object.kind tid) q) led)
