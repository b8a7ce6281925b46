use Rattle.std.proofs.Common.{◌≡◌, ◌<◌, ◌≤◌, ◌^◌, ℕ, zero, suc, List, [], ◌∷◌, length, Some, None, refl, subst, arith}
use Rattle.std.specs.Prelude.{slice_get}
use Rattle.std.specs.List.{filter}
use Rattle.std.proofs.lemmas.Option.{slice_get_read}
use Rattle.cml_objects.specs.Lanes.{is_own}
use Rattle.cml_index.specs.Stands.{places_in}
use Rattle.cml_index.proofs.stand.go_lone_in.Goals as goal

away : {X : Type 0} (xs : List X) (i : ℕ) → length xs ≤ i → slice_get xs i ≡ None
away [] i h = refl
away (x ∷ xs) zero h = absurd (omega arith)
away (x ∷ xs) (suc i) h = away xs i (omega arith)

pub go_lone-requires : goal.go_lone-requires
go_lone-requires c =
    let items = c.args.row.now.items in
    let stand = c.index_mut-stand.result.now in
    let low : c.args.number < length items = omega (arith, c.args.row.now.ok.0, c.len.ensures, c.if-number-len.true) in
    let is : slice_get items c.args.number ≡ Some stand = slice_get_read items (length items) c.args.number stand refl low c.index_mut-stand.ensures.value in
    subst (λ s. length (filter (is_own c.args.tid) (places_in s)) ≡ 1) is c.requires

pub returns-then-number-len-clause-cost : goal.returns-then-number-len-clause-cost
returns-then-number-len-clause-cost c digits few =
    let items = c.args.row.now.items in
    let stand = c.index_mut-stand.result.now in
    let low : c.args.number < length items = omega (arith, c.args.row.now.ok.0, c.len.ensures, c.if-number-len.true) in
    let is : slice_get items c.args.number ≡ Some stand = slice_get_read items (length items) c.args.number stand refl low c.index_mut-stand.ensures.value in
    c.go_lone.ensures.cost digits (subst (λ s. length (places_in s) < 2 ^ digits) is few)

pub returns-else-number-len-clause-here : goal.returns-else-number-len-clause-here
returns-else-number-len-clause-here c =
    let high : length c.args.row.now.items ≤ c.args.number = omega (arith, c.args.row.now.ok.0, c.len.ensures, c.if-number-len.false) in
    let none : 0 ≡ 1 = subst (λ s. length (filter (is_own c.args.tid) (places_in s)) ≡ 1) (away c.args.row.now.items c.args.number high) c.requires in
    absurd (omega (arith, none))
