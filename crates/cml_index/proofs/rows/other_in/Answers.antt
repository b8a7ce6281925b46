use Rattle.std.proofs.Common.{◌≡◌, true, false, nat_lt, get_or, length, ap, sym, ◌∙◌, arith}
use Rattle.cml_scan.specs.declared.meet.Place.{Place}
use Rattle.cml_objects.specs.Lanes.{those}
use Rattle.cml_objects.proofs.Counts.{above_behind}
use Rattle.cml_index.proofs.Parted.{lt_is, ge_is}
use Rattle.cml_index.proofs.Others.{any_default, other_before, other_behind}
use Rattle.cml_index.proofs.rows.other_in.Goals as goal

pub returns-then-place-tid-clause-value : goal.returns-then-place-tid-clause-value
returns-then-place-tid-clause-value c =
    let ps = c.args.lane.now.places in
    let tid = c.in-Others.tid in
    let d = c.look-place.result in
    let seen = c.look-place.ensures.value in
    let same = ap (λ w. length (those w ps)) c.in-Others.is in
    let below : nat_lt (get_or ps c.args.j d).tid.0 tid.0 ≡ true = ap (λ (p : Place). nat_lt p.tid.0 tid.0) (sym seen) ∙ lt_is _ tid.0 c.if-place-tid.true in
    seen ∙ sym (other_before tid ps c.args.j d c.requires.sorted (omega (arith, c.requires.own, c.requires.within)) below)
    ∙ ap (λ w. get_or (those w ps) c.args.j d) (sym c.in-Others.is)

pub returns-else-place-tid-clause-value : goal.returns-else-place-tid-clause-value
returns-else-place-tid-clause-value c =
    let ps = c.args.lane.now.places in
    let tid = c.in-Others.tid in
    let d = c.look-place.result in
    let e = c.look.result in
    let seen = c.look-place.ensures.value in
    let same = ap (λ w. length (those w ps)) c.in-Others.is in
    let above : nat_lt d.tid.0 tid.0 ≡ false = ge_is _ tid.0 c.if-place-tid.false in
    let there : get_or ps c.args.j e ≡ d = any_default ps c.args.j e d (omega (arith, c.requires.own, c.requires.within)) ∙ sym seen in
    c.look.ensures.value
    ∙ sym (other_behind tid ps c.args.own c.args.j e c.requires.sorted (omega (arith, same, c.requires.own))
    (omega (arith, same, c.requires.within)) (ap (λ (p : Place). nat_lt p.tid.0 tid.0) there ∙ above))
    ∙ ap (λ w. get_or (those w ps) c.args.j e) (sym c.in-Others.is)

pub returns-in-Above-clause-value : goal.returns-in-Above-clause-value
returns-in-Above-clause-value c =
    let ps = c.args.lane.now.places in
    let tid = c.in-Above.field-0 in
    let e = c.look-in-Above.result in
    let same = ap (λ w. length (those w ps)) c.in-Above.is in
    c.look-in-Above.ensures.value
    ∙ sym (above_behind tid ps c.args.own c.args.j e c.requires.sorted (omega (arith, same, c.requires.own)))
    ∙ ap (λ w. get_or (those w ps) c.args.j e) (sym c.in-Above.is)
