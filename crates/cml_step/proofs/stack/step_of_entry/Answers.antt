use Rattle.std.proofs.Common.{sym, subst, ◌∷◌}
use Rattle.cml_step.specs.declared.entry.Entry.{Entry}
use Rattle.cml_step.specs.declared.entry.Entry.TheVariants as entry
use Rattle.cml_step.specs.Calls.{text_of, MovesTo}
use Rattle.cml_step.specs.Stacks.{entry_view}
use Rattle.cml_step.specs.Steps.{next}
use Rattle.cml_step.specs.Terms.{force}
use Rattle.cml_step.proofs.stack.step_of_entry.Goals as goal

pub returns-in-Force-clause-moves : goal.returns-in-Force-clause-moves
returns-in-Force-clause-moves c = λ below l.
    let p = c.args.program.now in
    subst (λ (e : Entry). MovesTo p c.step_of_force.result (force c.in-Force.forcing c.step_of_force.new.asked) below (next (text_of p) c.args.thread.0 (entry_view p e ∷ below)))
    (sym c.in-Force.is) (c.step_of_force.ensures.moves c.args.thread.0 below l)

pub returns-in-Wraps-clause-moves : goal.returns-in-Wraps-clause-moves
returns-in-Wraps-clause-moves c = λ below l.
    let p = c.args.program.now in
    subst (λ (e : Entry). MovesTo p c.step_of_wraps.result (entry_view p (entry.Wraps c.step_of_wraps.new.wraps)) below (next (text_of p) c.args.thread.0 (entry_view p e ∷ below)))
    (sym c.in-Wraps.is) (c.step_of_wraps.ensures.moves c.args.thread.0 below)
