use Rattle.std.proofs.Common.{◌≡◌, ◌∙◌, ◌+◌, true, false, nat_lt, length, get_or, refl, ap, sym, arith}
use Rattle.std.specs.Prelude.{slice_get}
use Rattle.std.specs.List.{filter}
use Rattle.std.proofs.lemmas.Option.{slice_get_read}
use Rattle.cml_scan.specs.declared.meet.Place.{Place}
use Rattle.cml_objects.specs.Lanes.{is_own, others}
use Rattle.cml_index.proofs.Walks.{others_all}
use Rattle.cml_index.proofs.Parted.{lt_is, ge_is}
use Rattle.cml_index.proofs.Others.{any_default, other_before, other_behind}
use Rattle.cml_index.proofs.OneObject.{behind_at, own_and_others}
use Rattle.cml_index.proofs.one_object.other_at.Goals as goal

pub returns-then-own-eq0-clause-value : goal.returns-then-own-eq0-clause-value
returns-then-own-eq0-clause-value c =
    let ps = c.args.lane.now.places in
    let sum = own_and_others c.args.tid ps in
    let none : length (filter (is_own c.args.tid) ps) ≡ 0 = omega (arith, sum, c.requires.own, c.if-own-eq0.true) in
    ap (λ qs. slice_get qs c.args.j) (others_all c.args.tid ps none)
    ∙ slice_get_read ps (length ps) c.args.j c.look-place.result refl
    (omega (arith, c.requires.own, c.requires.within)) c.look-place.ensures.value

pub returns-then-own-eq0-clause-cost : goal.returns-then-own-eq0-clause-cost
returns-then-own-eq0-clause-cost c =
    let ps = c.args.lane.now.places in
    let few = behind_at ps c.args.j c.look-place.result c.requires.sorted
    (slice_get_read ps (length ps) c.args.j c.look-place.result refl
    (omega (arith, c.requires.own, c.requires.within)) c.look-place.ensures.value) in
    omega (arith, few, c.look-place.ensures.most)

pub returns-then-own-eq0-clause-ahead : goal.returns-then-own-eq0-clause-ahead
returns-then-own-eq0-clause-ahead c =
    let ps = c.args.lane.now.places in
    let few = behind_at ps c.args.j c.look-place.result c.requires.sorted
    (slice_get_read ps (length ps) c.args.j c.look-place.result refl
    (omega (arith, c.requires.own, c.requires.within)) c.look-place.ensures.value) in
    omega (arith, few)

pub returns-then-place-tid-clause-value : goal.returns-then-place-tid-clause-value
returns-then-place-tid-clause-value c =
    let ps = c.args.lane.now.places in
    let tid = c.args.tid in
    let d = c.look-place.result in
    let below : nat_lt (get_or ps c.args.j d).tid.0 tid.0 ≡ true = ap (λ (p : Place). nat_lt p.tid.0 tid.0) (sym c.look-place.ensures.value) ∙ lt_is _ tid.0 c.if-place-tid.true in
    slice_get_read (others tid ps) _ c.args.j d refl c.requires.within
    (c.look-place.ensures.value ∙ sym
    (other_before tid ps c.args.j d c.requires.sorted (omega (arith, c.requires.own, c.requires.within)) below))

pub returns-then-place-tid-clause-cost : goal.returns-then-place-tid-clause-cost
returns-then-place-tid-clause-cost c =
    let ps = c.args.lane.now.places in
    let few = behind_at ps c.args.j c.look-place.result c.requires.sorted
    (slice_get_read ps (length ps) c.args.j c.look-place.result refl
    (omega (arith, c.requires.own, c.requires.within)) c.look-place.ensures.value) in
    omega (arith, few, c.look-place.ensures.most)

pub returns-then-place-tid-clause-ahead : goal.returns-then-place-tid-clause-ahead
returns-then-place-tid-clause-ahead c =
    let ps = c.args.lane.now.places in
    let few = behind_at ps c.args.j c.look-place.result c.requires.sorted
    (slice_get_read ps (length ps) c.args.j c.look-place.result refl
    (omega (arith, c.requires.own, c.requires.within)) c.look-place.ensures.value) in
    omega (arith, few)

pub returns-clause-value : goal.returns-clause-value
returns-clause-value c =
    let ps = c.args.lane.now.places in
    let tid = c.args.tid in
    let d = c.look-place.result in
    let e = c.look.result in
    let there : get_or ps c.args.j e ≡ d = any_default ps c.args.j e d (omega (arith, c.requires.own, c.requires.within)) ∙ sym c.look-place.ensures.value in
    let above : nat_lt d.tid.0 tid.0 ≡ false = ge_is _ tid.0 c.if-place-tid.false in
    slice_get_read (others tid ps) _ c.args.j e refl c.requires.within
    (c.look.ensures.value ∙ sym (other_behind tid ps c.args.own c.args.j e c.requires.sorted c.requires.own c.requires.within (ap (λ (p : Place). nat_lt p.tid.0 tid.0) there ∙ above)))

pub returns-clause-cost : goal.returns-clause-cost
returns-clause-cost c =
    let ps = c.args.lane.now.places in
    let few = behind_at ps (c.args.j + c.args.own) c.look.result c.requires.sorted
    (slice_get_read ps (length ps) (c.args.j + c.args.own) c.look.result refl
    (omega (arith, c.requires.own, c.requires.within)) c.look.ensures.value) in
    omega (arith, few, c.look-place.ensures.most, c.look.ensures.most, c.if-own-eq0.false)

pub returns-clause-ahead : goal.returns-clause-ahead
returns-clause-ahead c =
    let ps = c.args.lane.now.places in
    let few = behind_at ps (c.args.j + c.args.own) c.look.result c.requires.sorted
    (slice_get_read ps (length ps) (c.args.j + c.args.own) c.look.result refl
    (omega (arith, c.requires.own, c.requires.within)) c.look.ensures.value) in
    omega (arith, few)
