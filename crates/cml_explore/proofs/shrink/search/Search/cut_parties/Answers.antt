use Rattle.std.proofs.Common.{◌≡◌, ◌∙◌, ◌||◌, true, ℕ, sym, ap}
use Rattle.std.specs.Prelude.{◌==◌}
use Rattle.cml_scan.specs.declared.meet.Meet.{Meet}
use Rattle.cml_explore.specs.Cuts.{is_in_row, without_rest}
use Rattle.cml_explore.specs.Searching.{UnlikeTo}
use Rattle.cml_explore.proofs.SearchLemmas.{step_as_ok, rest_of_one}
use Rattle.cml_explore.proofs.shrink.search.Search.cut_parties.Goals as goal

pub returns-in-Single : goal.returns-in-Single
returns-in-Single c =
    let g = c.args.goal.now in
    let items = c.args.self.now.items in
    let n = c.args.number in
    step_as_ok c.cut_rest.result g (UnlikeTo g (without_rest items c.in-Single.tid.0 n))
    ((t : ℕ) → is_in_row t c.args.row ≡ true → UnlikeTo g (without_rest items t n)) c.args.self.now c.cut_rest.new.self c.cut_rest.ensures
    (λ h t e. rest_of_one g items n c.in-Single.tid.0 t h (sym (ap (λ (row : Meet). is_in_row t row) c.in-Single.is) ∙ e))

pub returns-in-Pair : goal.returns-in-Pair
returns-in-Pair c =
    let g = c.args.goal.now in
    let items = c.args.self.now.items in
    let n = c.args.number in
    step_as_ok c.cut_either.result g ((t : ℕ) → ((c.in-Pair.head.0 == t) || (c.in-Pair.other.0 == t)) ≡ true → UnlikeTo g (without_rest items t n))
    ((t : ℕ) → is_in_row t c.args.row ≡ true → UnlikeTo g (without_rest items t n)) c.args.self.now c.cut_either.new.self c.cut_either.ensures
    (λ h t e. h t (sym (ap (λ (row : Meet). is_in_row t row) c.in-Pair.is) ∙ e))
