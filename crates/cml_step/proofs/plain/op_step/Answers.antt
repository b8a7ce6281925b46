use Rattle.std.proofs.Common.{◌≡◌, true, length, subst}
use Rattle.std.proofs.lemmas.Bool.{and_parts}
use Rattle.cml_check.specs.InOrder.{arities}
use Rattle.cml_check.specs.Layout.{left}
use Rattle.cml_check.specs.Ops.{OpFollows, op_fits}
use Rattle.cml_step.proofs.PlainLemmas.{slot_there}
use Rattle.cml_step.proofs.plain.op_step.Goals as goal

pub flat_set-requires-clause-here : goal.flat_set-requires-clause-here
flat_set-requires-clause-here c = let left_at = left c.args.f.now.body in subst (λ o. OpFollows left_at o (left_at c.args.at)) c.in-Set.is c.requires.here

pub flat_set-requires-clause-slot : goal.flat_set-requires-clause-slot
flat_set-requires-clause-slot c =
    let n = length c.args.f.now.names in
    slot_there c.in-Set.slot n (and_parts _ _ (subst (λ o. op_fits (arities c.args.program.now) n o ≡ true) c.in-Set.is c.requires.fits)).0

pub flat_set-requires-clause-fits : goal.flat_set-requires-clause-fits
flat_set-requires-clause-fits c =
    (and_parts _ _ (subst (λ o. op_fits (arities c.args.program.now) (length c.args.f.now.names) o ≡ true) c.in-Set.is c.requires.fits)).1

pub flat_test-requires-clause-here : goal.flat_test-requires-clause-here
flat_test-requires-clause-here c = let left_at = left c.args.f.now.body in subst (λ o. OpFollows left_at o (left_at c.args.at)) c.in-Test.is c.requires.here

pub flat_test-requires-clause-fits : goal.flat_test-requires-clause-fits
flat_test-requires-clause-fits c =
    subst (λ o. op_fits (arities c.args.program.now) (length c.args.f.now.names) o ≡ true) c.in-Test.is c.requires.fits
