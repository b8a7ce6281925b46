use Rattle.std.proofs.Common.{sym, refl}
use Rattle.cml_check.specs.Names.{variable_in}
use Rattle.cml_check.proofs.NameLemmas.{positioned, unpositioned}
use Rattle.cml_check.proofs.names.variable.Goals as goal

pub returns-in-Some-clause-gives : goal.returns-in-Some-clause-gives
unfolding variable_in
returns-in-Some-clause-gives c =
    let at = positioned c.args.names.now c.in_ok-name.name.now c.in-Some.slot (sym c.in-Some.ensures.first) in
    rw (c.in_ok-name.ensures, at.2, at.1) refl

pub returns-in-None-clause-gives : goal.returns-in-None-clause-gives
unfolding variable_in
returns-in-None-clause-gives c =
    let none = unpositioned c.args.names.now c.in_ok-name.name.now (sym c.in-None.ensures.first) in
    rw (c.in_ok-name.ensures, none, c.fault_at.ensures) refl
