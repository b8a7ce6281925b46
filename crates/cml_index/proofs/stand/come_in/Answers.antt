use Rattle.std.proofs.Common.{◌≡◌, ◌<◌, ◌≤◌, ℕ, zero, suc, List, [], ◌∷◌, length, Some, None, refl, sym, subst, arith}
use Rattle.std.specs.Prelude.{slice_get}
use Rattle.std.proofs.lemmas.Option.{slice_get_read}
use Rattle.cml_index.specs.Stands.{ComesWithin, HasCome}
use Rattle.cml_index.proofs.stand.come_in.Goals as goal

away : {X : Type 0} (xs : List X) (i : ℕ) → length xs ≤ i → slice_get xs i ≡ None
away [] i h = refl
away (x ∷ xs) zero h = absurd (omega arith)
away (x ∷ xs) (suc i) h = away xs i (omega arith)

pub returns-then-number-len-clause-cost : goal.returns-then-number-len-clause-cost
returns-then-number-len-clause-cost c digits few =
    let items = c.args.row.now.items in
    let stand = c.index_mut-stand.result.now in
    let low : c.args.number < length items = omega (arith, c.args.row.now.ok.0, c.len.ensures, c.if-number-len.true) in
    let is : slice_get items c.args.number ≡ Some stand = slice_get_read items (length items) c.args.number stand refl low c.index_mut-stand.ensures.value in
    c.come.ensures.cost digits (subst (ComesWithin digits) is few)

pub returns-else-number-len-clause-here : goal.returns-else-number-len-clause-here
returns-else-number-len-clause-here c =
    let high : length c.args.row.now.items ≤ c.args.number = omega (arith, c.args.row.now.ok.0, c.len.ensures, c.if-number-len.false) in
    subst (λ s. HasCome c.args.tid s s) (sym (away c.args.row.now.items c.args.number high)) (record { places = refl; late = refl; going = refl })
