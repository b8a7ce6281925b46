use Rattle.std.proofs.Common.{◌≡◌, subst}
use Rattle.std.proofs.lemmas.Bool.{eqb-true}
use Rattle.cml_check.specs.Syntax.{let_be, stmts_and}
use Rattle.cml_check.specs.StmtViews.{plain_effect}
use Rattle.cml_check.specs.Layout.{left}
use Rattle.cml_check.specs.Follows.{Follows}
use Rattle.cml_check.specs.InstrViews.{plain_instr}
use Rattle.cml_step.proofs.StandingLemmas.{drops_here, gives_here}
use Rattle.cml_step.proofs.calls.has_asked.Goals as goal

pub returns-in-Do : goal.returns-in-Do
returns-in-Do c = λ f place yes follows.
    drops_here f c.args.call.now place c.in-Do.next (plain_effect c.in-Do.field-0) c.in-Drops.is (eqb-true _ _ yes)
    (subst (λ i. Follows (left f.body) (plain_instr i) (left f.body place)) c.in-Do.is follows)

pub returns-then-next-call : goal.returns-then-next-call
returns-then-next-call c = λ f place yes follows.
    let i = c.in-Let in
    let here = subst (λ x. Follows (left f.body) (plain_instr x) (left f.body place)) i.is follows in
    let effect = c.is_effect.ensures c.if-not-is_effect.false in
    let said = subst (λ s. left f.body place ≡ stmts_and (let_be i.slot s) (left f.body i.next)) effect.1 here in
    gives_here f c.args.call.now place i.next i.slot c.in-Gives.given effect.0 c.in-Gives.is c.if-next-call.true (eqb-true _ _ yes) said
