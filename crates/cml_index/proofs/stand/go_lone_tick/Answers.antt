use Rattle.std.proofs.Common.{rules, ◌≡◌, ◌<◌, ◌^◌, length, Some, nat_eq, subst}
use Rattle.std.specs.List.{filter}
use Rattle.indexmap.specs.IndexMap.{get}
use Rattle.cml_objects.specs.Lanes.{is_own}
use Rattle.cml_index.specs.Stands.{places_in}
use Rattle.cml_index.proofs.stand.go_lone_tick.Goals as goal

pub go_lone-requires : goal.go_lone-requires
go_lone-requires c =
    let is : get nat_eq c.args.ticks.now c.args.tick ≡ Some c.in-Some.stand.now = search rules in
    subst (λ s. length (filter (is_own c.args.tid) (places_in s)) ≡ 1) is c.requires

pub returns-in-Some-clause-cost : goal.returns-in-Some-clause-cost
returns-in-Some-clause-cost c digits few =
    let is : get nat_eq c.args.ticks.now c.args.tick ≡ Some c.in-Some.stand.now = search rules in
    c.go_lone.ensures.cost digits (subst (λ s. length (places_in s) < 2 ^ digits) is few)
