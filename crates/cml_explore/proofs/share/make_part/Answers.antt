use Rattle.std.proofs.Common.{◌≡◌, ◌+◌, ◌∙◌, sym, ap, arith}
use Rattle.cml_explore.specs.Explored.{PlainExplored}
use Rattle.cml_explore.proofs.ExploreLemmas.{is_few, goes_on, stopped_so}
use Rattle.cml_explore.proofs.share.make_part.Goals as goal

pub making-init : goal.making-init
making-init c = record { so_far = c.new-made.ensures.begins c.args.program.now c.args.asked.now; few = omega (arith, c.new-made.ensures.none) }

pub add-requires-clause-few : goal.add-requires-clause-few
add-requires-clause-few c = is_few c.args.program.now c.args.asked.now _ c.making.made c.making.invariant.so_far (omega arith)

pub returns-then-stops : goal.returns-then-stops
returns-then-stops c =
    let e = c.in_ok-stops.ensures.added in
    stopped_so c.args.program.now c.args.asked.now c.making.made c.add.new.self e.0 c.making.invariant.so_far _
    (ap (λ n. c.args.asked.now.first + n) c.runs-so_many.ensures) e.1 e.2 (sym e.3 ∙ c.if-stops.true) (omega arith)

pub making-preserved : goal.making-preserved
making-preserved c =
    let e = c.in_ok-stops.ensures.added in
    let more : c.add.new.self.runs ≡ c.making.made.runs + 1 = ap (λ (m : PlainExplored). m.runs) e.2 in
    record {
      so_far = goes_on c.args.program.now c.args.asked.now c.making.made c.add.new.self e.0 c.making.invariant.so_far _
          (ap (λ n. c.args.asked.now.first + n) c.runs-so_many.ensures) e.1 e.2 (sym e.3 ∙ c.if-stops.false);
      few = omega (arith, more);
    }

pub returns : goal.returns
returns c = (c.making.invariant.so_far, omega (arith, c.making.invariant.few))
