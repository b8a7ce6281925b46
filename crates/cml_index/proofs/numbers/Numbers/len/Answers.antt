use Rattle.std.proofs.Common.{subst, nat_eq}
use Rattle.std.specs.List.{IsDistinct}
use Rattle.cml_index.specs.Numbers.{PlainNumbers}
use Rattle.cml_index.proofs.InPlace.{once_each}
use Rattle.cml_index.proofs.numbers.Numbers.len.Goals as goal

pub returns-clause-once : goal.returns-clause-once
returns-clause-once c =
    let s = c.self.inside in
    subst (λ (v : PlainNumbers). IsDistinct (λ n m. nat_eq n m) v.items) c.self.view_is (once_each s.order.items s.places.items s.count c.self.invariant.0 c.self.invariant.1)
