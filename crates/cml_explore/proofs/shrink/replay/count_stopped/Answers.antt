use Rattle.std.proofs.Common.{ℕ, subst, sym}
use Rattle.std.specs.Prelude.{MatchResult, Result}
use Rattle.cml_explore.specs.ShrinkEnds.{IsGiven, IsNotGiven}
use Rattle.cml_explore.specs.declared.shrink.fault.ShrinkFault.{ShrinkFault}
use Rattle.cml_explore.proofs.ShrinkLemmas.{given_so, not_given}
use Rattle.cml_explore.proofs.shrink.replay.count_stopped.Goals as goal

pub returns-in-Ok : goal.returns-in-Ok
returns-in-Ok c =
    let p = c.args.program.now in
    let asked = c.args.asked.now in
    let items = c.args.items.now in
    subst (λ (r : Result ℕ ShrinkFault). MatchResult r (IsGiven p asked items) (λ why. IsNotGiven p asked items why)) (sym c.given_by.ensures)
    (given_so c.stop_of-stops.result p asked items c.in-Ok.hub c.requires.stops c.in-Ok.ensures c.stop_of-stops.ensures)

pub returns-in-Err : goal.returns-in-Err
returns-in-Err c = not_given c.args.program.now c.args.asked.now c.args.items.now c.in-Err.why c.in-Err.ensures
