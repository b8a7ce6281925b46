use Rattle.std.proofs.Common.{◌≡◌, true, ℕ, List, remove, subst}
use Rattle.cml_schedule.specs.declared.item.Item.{Item}
use Rattle.cml_explore.specs.Cuts.{acts_in, without_rest}
use Rattle.cml_explore.specs.Searching.{UnlikeTo, NeededBy}
use Rattle.cml_explore.proofs.SearchLemmas.{step_came, then_none_ok, needed_at}
use Rattle.cml_explore.proofs.shrink.search.Search.cut_at.Goals as goal

pub returns-then-came : goal.returns-then-came
returns-then-came c =
    let g = c.args.goal.now in
    let items = c.args.self.now.items in
    let n = c.args.number in
    step_came g ((t : ℕ) → acts_in t c.item_at-item.result ≡ true → UnlikeTo g (without_rest items t n)) (NeededBy g items n)
    c.args.self.now c.cut_threads.new.self c.in_ok-came.came c.if-came.true c.in_ok-came.ensures

pub returns : goal.returns
returns c =
    let g = c.args.goal.now in
    let items = c.args.self.now.items in
    let n = c.args.number in
    then_none_ok c.cut_item.result g ((t : ℕ) → acts_in t c.item_at-item.result ≡ true → UnlikeTo g (without_rest items t n))
    (UnlikeTo g (remove c.cut_threads.new.self.items n)) (NeededBy g items n)
    c.args.self.now c.cut_threads.new.self c.cut_item.new.self c.in_ok-came.came c.if-came.false c.in_ok-came.ensures c.cut_item.ensures
    (λ same rest alone.
    needed_at g items n c.item_at-item.result c.item_at-item.ensures rest (subst (λ (all : List Item). UnlikeTo g (remove all n)) same alone))
