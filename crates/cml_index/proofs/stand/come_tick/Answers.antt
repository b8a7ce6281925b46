use Rattle.std.proofs.Common.{rules, ◌≡◌, Some, nat_eq, subst}
use Rattle.indexmap.specs.IndexMap.{get}
use Rattle.cml_index.specs.Stands.{ComesWithin}
use Rattle.cml_index.proofs.stand.come_tick.Goals as goal

pub returns-in-Some-clause-cost : goal.returns-in-Some-clause-cost
returns-in-Some-clause-cost c digits few =
    let is : get nat_eq c.args.ticks.now c.args.tick ≡ Some c.in-Some.stand.now = search rules in
    c.come.ensures.cost digits (subst (ComesWithin digits) is few)
