use Rattle.std.proofs.Common.{rules, ◌≡◌, ◌<◌, ◌^◌, length, Some, nat_eq, subst}
use Rattle.indexmap.specs.IndexMap.{get}
use Rattle.cml_index.specs.Stands.{places_in}
use Rattle.cml_index.proofs.stand.come_lone_to.Goals as goal

pub returns-clause-cost : goal.returns-clause-cost
returns-clause-cost c digits few =
    let is : get nat_eq c.args.ticks.now c.args.tick ≡ Some c.in-Some.stand.now = search rules in
    c.come_lone.ensures.cost digits (subst (λ s. length (places_in s) < 2 ^ digits) is few)
