use Rattle.std.proofs.Common.{false, subst, arith}
use Rattle.cml_explore.specs.Explored.{HasMade}
use Rattle.cml_explore.proofs.ExploreLemmas.{is_done, at_most}
use Rattle.cml_explore.proofs.explored.explore.Goals as goal

pub going-init : goal.going-init
going-init c = record { so_far = c.new-made.ensures.begins c.args.program.now c.args.asked; few = omega (arith, c.new-made.ensures.none) }

pub returns-then-last-clause-explored : goal.returns-then-last-clause-explored
returns-then-last-clause-explored c = subst (λ b. HasMade c.args.program.now c.args.asked b c.go.new.self) c.if-last.true c.in_ok-last.ensures.made

pub returns-then-last-clause-few : goal.returns-then-last-clause-few
returns-then-last-clause-few c =
    at_most c.args.program.now c.args.asked c.go.new.self (subst (λ b. HasMade c.args.program.now c.args.asked b c.go.new.self) c.if-last.true c.in_ok-last.ensures.made)

pub going-preserved : goal.going-preserved
going-preserved c =
    let more : HasMade c.args.program.now c.args.asked false c.go.new.self = subst (λ b. HasMade c.args.program.now c.args.asked b c.go.new.self) c.if-last.false c.in_ok-last.ensures.made in
    record { so_far = more.0; few = omega (arith, more.1) }

pub returns-clause-explored : goal.returns-clause-explored
returns-clause-explored c = is_done c.args.program.now c.args.asked c.going.made c.going.invariant.so_far (omega (arith, c.going.invariant.few))

pub returns-clause-few : goal.returns-clause-few
returns-clause-few c = c.going.invariant.few
