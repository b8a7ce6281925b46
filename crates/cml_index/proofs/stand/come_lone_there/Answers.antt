use Rattle.std.proofs.Common.{◌≡◌, ◌<◌, ◌^◌, length, Some, refl, subst}
use Rattle.std.specs.Prelude.{slice_get}
use Rattle.std.proofs.lemmas.Option.{slice_get_read}
use Rattle.cml_index.specs.Stands.{places_in}
use Rattle.cml_index.proofs.stand.come_lone_there.Goals as goal

pub returns-clause-cost : goal.returns-clause-cost
returns-clause-cost c digits few =
    let items = c.args.row.now.items in
    let stand = c.index_mut-stand.result.now in
    let is : slice_get items c.args.number ≡ Some stand = slice_get_read items (length items) c.args.number stand refl c.requires.there c.index_mut-stand.ensures.value in
    c.come_lone.ensures.cost digits (subst (λ s. length (places_in s) < 2 ^ digits) is few)
