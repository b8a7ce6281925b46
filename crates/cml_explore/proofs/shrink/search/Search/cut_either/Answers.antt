use Rattle.std.proofs.Common.{◌≡◌, ◌||◌, true, ℕ, List, subst}
use Rattle.std.specs.Prelude.{◌==◌}
use Rattle.cml_schedule.specs.declared.item.Item.{Item}
use Rattle.cml_explore.specs.Cuts.{without_rest}
use Rattle.cml_explore.specs.Searching.{UnlikeTo}
use Rattle.cml_explore.proofs.SearchLemmas.{step_came, then_none_ok, rest_of_two}
use Rattle.cml_explore.proofs.shrink.search.Search.cut_either.Goals as goal

pub returns-then-came : goal.returns-then-came
returns-then-came c =
    let g = c.args.goal.now in
    let items = c.args.self.now.items in
    let n = c.args.number in
    step_came g (UnlikeTo g (without_rest items c.args.head.0 n))
    ((t : ℕ) → ((c.args.head.0 == t) || (c.args.other.0 == t)) ≡ true → UnlikeTo g (without_rest items t n))
    c.args.self.now c.cut_rest.new.self c.in_ok-came.came c.if-came.true c.in_ok-came.ensures

pub returns : goal.returns
returns c =
    let g = c.args.goal.now in
    let items = c.args.self.now.items in
    let n = c.args.number in
    then_none_ok c.cut_rest-2.result g (UnlikeTo g (without_rest items c.args.head.0 n)) (UnlikeTo g (without_rest c.cut_rest.new.self.items c.args.other.0 n))
    ((t : ℕ) → ((c.args.head.0 == t) || (c.args.other.0 == t)) ≡ true → UnlikeTo g (without_rest items t n))
    c.args.self.now c.cut_rest.new.self c.cut_rest-2.new.self c.in_ok-came.came c.if-came.false c.in_ok-came.ensures c.cut_rest-2.ensures
    (λ same x y t e.
    rest_of_two g items n c.args.head.0 c.args.other.0 t x (subst (λ (all : List Item). UnlikeTo g (without_rest all c.args.other.0 n)) same y) e)
