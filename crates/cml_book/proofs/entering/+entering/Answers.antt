use Rattle.std.proofs.Common.{◌≡◌, map, ap, sym, ◌∙◌, arith}
use Rattle.std.specs.List.{list_any}
use Rattle.std.proofs.lemmas.List.{take_all}
use Rattle.cml_value.specs.Group.{PlainGroup, choose, groups, bases}
use Rattle.cml_value.specs.GroupViews.{plain_group}
use Rattle.cml_book.specs.Entering.{entered, is_far}
use Rattle.cml_group.proofs.Heights.{member_falls}
use Rattle.cml_book.proofs.Entered.{near_member, groups-entered}
use Rattle.cml_book.proofs.entering.+entering.Goals as goal

pub entering-requires : goal.entering-requires
entering-requires t c =
    let gs = c.deref-g-items.result.now in
    let whole : choose (groups gs) ≡ c.args.group.now =
    ap (λ v. choose (groups v)) (c.deref-g-items.ensures.value ∙ ap (λ v. v.items) c.deref-in-Choose.ensures) ∙ ap plain_group (sym c.in-Choose.is) ∙ c.kind.ensures in
    let near = ap (λ (g : PlainGroup). list_any (is_far c.args.tick) (bases g)) whole ∙ c.requires in (
      omega (arith, member_falls gs c.loop-g.g-index c.g-item.result c.args.group.now (omega arith) c.g-item.is whole),
      near_member (is_far c.args.tick) gs c.loop-g.g-index c.g-item.result (omega arith) c.g-item.is near,
    )

pub returns-in_ok-choose-in-Choose : goal.returns-in_ok-choose-in-Choose
returns-in_ok-choose-in-Choose t c =
    let gs = c.deref-g-items.result.now in
    let whole : choose (groups gs) ≡ c.args.group.now =
    ap (λ v. choose (groups v)) (c.deref-g-items.ensures.value ∙ ap (λ v. v.items) c.deref-in-Choose.ensures) ∙ ap plain_group (sym c.in-Choose.is) ∙ c.kind.ensures in
    let all = take_all c.loop-g.g-index gs (omega arith) in
    let members = c.loop-g.invariant.0 ∙ ap (map (entered c.args.tick)) all in
    c.in_ok-choose-in-Choose.ensures.ok
    ∙ ap (λ v. choose (groups v)) members
    ∙ ap choose (groups-entered c.args.tick gs)
    ∙ ap (entered c.args.tick) whole
