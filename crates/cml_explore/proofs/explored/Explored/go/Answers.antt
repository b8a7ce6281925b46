use Rattle.std.proofs.Common.{◌≡◌, ◌+◌, ◌≤◌, ◌∙◌, sym, ap, arith}
use Rattle.std.specs.Prelude.{◌==◌}
use Rattle.cml_explore.specs.Explored.{PlainExplored}
use Rattle.cml_explore.proofs.ExploreLemmas.{is_few, goes_on, has_stopped, made_so}
use Rattle.cml_explore.proofs.explored.Explored.go.Goals as goal

pub add-requires-clause-few : goal.add-requires-clause-few
add-requires-clause-few c = is_few c.args.program.now c.args.asked.now _ c.args.self.now c.requires.so_far (omega arith)

pub returns-then-stops-clause-made : goal.returns-then-stops-clause-made
returns-then-stops-clause-made c =
    let e = c.in_ok-stops.ensures.added in
    has_stopped c.args.program.now c.args.asked.now c.args.self.now c.add.new.self e.0 c.requires.so_far _ (ap (λ (m : PlainExplored).
    c.args.asked.now.first + m.runs) c.self.view_is) e.1 e.2 (sym e.3 ∙ c.if-stops.true) c.requires.left

pub returns-clause-made : goal.returns-clause-made
returns-clause-made c =
    let e = c.in_ok-stops.ensures.added in
    let more : c.add.new.self.runs ≡ c.args.self.now.runs + 1 = ap (λ (m : PlainExplored). m.runs) e.2 in
    let few : c.add.new.self.runs ≤ c.args.asked.now.runs = omega (arith, more, c.requires.left) in
    made_so c.are_all.result c.args.program.now c.args.asked.now c.add.new.self
    (goes_on c.args.program.now c.args.asked.now c.args.self.now c.add.new.self e.0 c.requires.so_far _ (ap (λ (m : PlainExplored).
    c.args.asked.now.first + m.runs) c.self.view_is) e.1 e.2 (sym e.3 ∙ c.if-stops.false)) few
    (c.are_all.ensures ∙ ap (λ n. n == c.args.asked.now.runs) c.runs-made.ensures)
