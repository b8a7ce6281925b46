use Rattle.std.proofs.Common.{◌≡◌, ◌∙◌, List, ap, subst}
use Rattle.cml_schedule.specs.declared.item.Item.{Item}
use Rattle.cml_explore.specs.Cuts.{IsSelection}
use Rattle.cml_explore.specs.Searching.{PlainSearch}
use Rattle.cml_explore.proofs.CutLemmas.{range_selects}
use Rattle.cml_explore.proofs.shrink.gather.cut_range.Goals as goal

pub offer-requires-clause-selects : goal.offer-requires-clause-selects
offer-requires-clause-selects c =
    let same : c.as_slice-items.result.now ≡ c.args.search.now.items = c.as_slice-items.ensures.value ∙ ap (λ (s : PlainSearch). s.items) c.search.view_is in
    subst (λ (all : List Item). IsSelection all c.in_ok-shorter.shorter.items) same
    (range_selects c.as_slice-items.result.now c.in_ok-shorter.shorter.items c.args.start c.args.end c.requires.start c.in_ok-shorter.ensures)
