use Rattle.std.proofs.Common.{◌≡◌, ◌∙◌, true, ℕ, sym, ap}
use Rattle.cml_schedule.specs.declared.item.Item.{Item}
use Rattle.cml_explore.specs.Cuts.{is_in_row, acts_in, without_rest}
use Rattle.cml_explore.specs.Searching.{UnlikeTo}
use Rattle.cml_explore.proofs.SearchLemmas.{no_step, step_as_ok, rest_of_one}
use Rattle.cml_explore.proofs.shrink.search.Search.cut_threads.Goals as goal

pub returns-in-Turn : goal.returns-in-Turn
returns-in-Turn c =
    let g = c.args.goal.now in
    let items = c.args.self.now.items in
    let n = c.args.number in
    step_as_ok c.cut_rest.result g (UnlikeTo g (without_rest items c.in-Turn.thread.0 n))
    ((t : ℕ) → acts_in t c.args.item ≡ true → UnlikeTo g (without_rest items t n)) c.args.self.now c.cut_rest.new.self c.cut_rest.ensures
    (λ h t e. rest_of_one g items n c.in-Turn.thread.0 t h (sym (ap (λ (item : Item). acts_in t item) c.in-Turn.is) ∙ e))

pub returns-in-Meet : goal.returns-in-Meet
returns-in-Meet c =
    let g = c.args.goal.now in
    let items = c.args.self.now.items in
    let n = c.args.number in
    step_as_ok c.cut_parties.result g ((t : ℕ) → is_in_row t c.in-Meet.row ≡ true → UnlikeTo g (without_rest items t n))
    ((t : ℕ) → acts_in t c.args.item ≡ true → UnlikeTo g (without_rest items t n)) c.args.self.now c.cut_parties.new.self c.cut_parties.ensures
    (λ h t e. h t (sym (ap (λ (item : Item). acts_in t item) c.in-Meet.is) ∙ e))

pub returns-in-Exchange : goal.returns-in-Exchange
returns-in-Exchange c =
    let g = c.args.goal.now in
    let items = c.args.self.now.items in
    let n = c.args.number in
    step_as_ok c.cut_parties-in-Exchange.result g ((t : ℕ) → is_in_row t c.in-Exchange.row ≡ true → UnlikeTo g (without_rest items t n))
    ((t : ℕ) → acts_in t c.args.item ≡ true → UnlikeTo g (without_rest items t n)) c.args.self.now c.cut_parties-in-Exchange.new.self c.cut_parties-in-Exchange.ensures
    (λ h t e. h t (sym (ap (λ (item : Item). acts_in t item) c.in-Exchange.is) ∙ e))

pub returns-in-Clock : goal.returns-in-Clock
returns-in-Clock c =
    let g = c.args.goal.now in
    let items = c.args.self.now.items in
    let n = c.args.number in
    no_step g ((t : ℕ) → acts_in t c.args.item ≡ true → UnlikeTo g (without_rest items t n)) c.args.self.now
    (λ t e. let f = sym (ap (λ (item : Item). acts_in t item) c.in-Clock.is) ∙ e in cc)
