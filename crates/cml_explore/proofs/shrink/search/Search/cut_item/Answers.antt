use Rattle.std.proofs.Common.{◌≡◌, ◌∙◌, List, ap, remove, subst, length, ◌<◌}
use Rattle.cml_schedule.specs.declared.item.Item.{Item}
use Rattle.cml_explore.specs.Searching.{PlainSearch}
use Rattle.cml_explore.proofs.CutLemmas.{item_selects}
use Rattle.cml_explore.proofs.shrink.search.Search.cut_item.Goals as goal

pub attempt-requires-clause-selects : goal.attempt-requires-clause-selects
attempt-requires-clause-selects c =
    let items = c.args.self.now.items in
    let cut : c.in_ok-shorter.shorter.items ≡ remove items c.args.number =
    c.in_ok-shorter.ensures ∙ ap (λ (all : List Item). remove all c.args.number) (c.as_slice.ensures.value ∙ ap (λ (s : PlainSearch). s.items) c.self.view_is) in
    item_selects items c.in_ok-shorter.shorter.items c.args.number c.requires.there cut
