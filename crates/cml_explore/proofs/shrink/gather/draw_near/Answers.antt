use Rattle.std.proofs.Common.{◌≡◌, ◌∙◌, List, ap, subst}
use Rattle.cml_schedule.specs.declared.item.Item.{Item}
use Rattle.cml_explore.specs.Cuts.{IsSelection}
use Rattle.cml_explore.specs.Searching.{PlainSearch}
use Rattle.cml_explore.proofs.shrink.gather.draw_near.Goals as goal

pub offer-requires-clause-selects : goal.offer-requires-clause-selects
offer-requires-clause-selects c =
    let same : c.as_slice-items.result.now ≡ c.args.search.now.items = c.as_slice-items.ensures.value ∙ ap (λ (s : PlainSearch). s.items) c.search.view_is in
    subst (λ (all : List Item). IsSelection all c.in_ok-moved.moved.items) same c.in_ok-moved.ensures
