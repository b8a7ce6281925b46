use Rattle.cml_check.specs.Heads.{arities_of}
use Rattle.cml_check.specs.StmtViews.{plain_source}
use Rattle.cml_check.proofs.StatementWalk.{let_gives, let_fits}
use Rattle.cml_check.proofs.statement.declare.Goals as goal

pub returns-clause-gives : goal.returns-clause-gives
returns-clause-gives c =
    let_gives (arities_of c.args.heads.now) c.args.heads.now c.args.scope.now c.args.name.now c.args.given.now _ _ c.in_ok-slot.slot _
    c.in_ok-name.ensures c.in_ok-given.ensures.gives c.in_ok-slot.ensures.names c.in_ok-slot.ensures.named c.in_ok-given.ensures.fits

pub returns-clause-fits : goal.returns-clause-fits
returns-clause-fits c =
    let_fits (arities_of c.args.heads.now) c.args.scope.now.names _ _ c.in_ok-slot.slot
    (plain_source c.in_ok-given.given) c.in_ok-slot.ensures.names c.in_ok-slot.ensures.below
    c.in_ok-given.ensures.fits
