use Rattle.std.proofs.Common.{◌∷◌, ◌+◌, ◌<◌, sym, refl, ◌∙◌, subst, arith}
use Rattle.cml_step.specs.Calls.{entry_for, text_of}
use Rattle.cml_step.specs.Slices.{GoesIn}
use Rattle.cml_step.specs.Terms.{StackEntry}
use Rattle.cml_step.proofs.PlainLemmas.{runs_on}
use Rattle.cml_step.proofs.QuickLemmas.{goes_then}
use Rattle.cml_step.proofs.SliceLemmas.{goes_more}
use Rattle.cml_step.proofs.UndoLemmas.{noted_on, unset_same}
use Rattle.cml_step.proofs.plain.steps_of.Goals as goal

pub loop-done-preserved : goal.loop-done-preserved
loop-done-preserved c =
    let p = c.args.program.now in
    let f = c.args.f.now in
    let l = c.loop-done in
    let flat = c.flat_steps-done in
    let lower : l.done + flat.result < c.args.most = omega (arith, flat.ensures.within, c.loop-done-test.true, c.if-done-most.false) in
    record {
      within = omega (arith, lower);
      kept = runs_on (runs_on l.invariant.kept flat.ensures.kept) c.instr_step.ensures.kept;
      goes = λ self below.
          goes_more (text_of p) self (l.done + flat.result) (entry_for f c.args.call.now ∷ below) (entry_for f flat.new.call ∷ below) (entry_for f c.instr_step.new.call ∷ below)
          (goes_then (text_of p) self l.done flat.result (entry_for f c.args.call.now ∷ below) (entry_for f l.call ∷ below) (entry_for f flat.new.call ∷ below)
          (l.invariant.goes self below) (flat.ensures.goes (text_of p) self below))
          (c.instr_step.ensures.goes c.if-not-instr_step.false self below);
      noted = λ on. noted_on (noted_on (l.invariant.noted on) (flat.ensures.noted on)) (c.instr_step.ensures.noted on);
    }

pub returns-then-done-most-clause-goes : goal.returns-then-done-most-clause-goes
returns-then-done-most-clause-goes c = λ self below.
    let p = c.args.program.now in
    let f = c.args.f.now in
    let l = c.loop-done in
    let flat = c.flat_steps-done in
    goes_then (text_of p) self l.done flat.result (entry_for f c.args.call.now ∷ below) (entry_for f l.call ∷ below) (entry_for f flat.new.call ∷ below)
    (l.invariant.goes self below) (flat.ensures.goes (text_of p) self below)

pub returns-then-done-most-clause-kept : goal.returns-then-done-most-clause-kept
returns-then-done-most-clause-kept c = runs_on c.loop-done.invariant.kept c.flat_steps-done.ensures.kept

pub returns-then-done-most-clause-noted : goal.returns-then-done-most-clause-noted
returns-then-done-most-clause-noted c = λ on. noted_on (c.loop-done.invariant.noted on) (c.flat_steps-done.ensures.noted on)

pub returns-then-not-may_be_plain-clause-goes : goal.returns-then-not-may_be_plain-clause-goes
returns-then-not-may_be_plain-clause-goes c = λ self below.
    let p = c.args.program.now in
    let f = c.args.f.now in
    let l = c.loop-done in
    let flat = c.flat_steps-done in
    goes_then (text_of p) self l.done flat.result (entry_for f c.args.call.now ∷ below) (entry_for f l.call ∷ below) (entry_for f flat.new.call ∷ below)
    (l.invariant.goes self below) (flat.ensures.goes (text_of p) self below)

pub returns-then-not-may_be_plain-clause-kept : goal.returns-then-not-may_be_plain-clause-kept
returns-then-not-may_be_plain-clause-kept c = runs_on c.loop-done.invariant.kept c.flat_steps-done.ensures.kept

pub returns-then-not-may_be_plain-clause-noted : goal.returns-then-not-may_be_plain-clause-noted
returns-then-not-may_be_plain-clause-noted c = λ on. noted_on (c.loop-done.invariant.noted on) (c.flat_steps-done.ensures.noted on)

pub returns-then-not-instr_step-clause-goes : goal.returns-then-not-instr_step-clause-goes
returns-then-not-instr_step-clause-goes c = λ self below.
    let p = c.args.program.now in
    let f = c.args.f.now in
    let l = c.loop-done in
    let flat = c.flat_steps-done in
    subst (λ (e : StackEntry). GoesIn (text_of p) self (l.done + flat.result) (entry_for f c.args.call.now ∷ below) (e ∷ below)) (sym (c.instr_step.ensures.stays c.if-not-instr_step.true))
    (goes_then (text_of p) self l.done flat.result (entry_for f c.args.call.now ∷ below) (entry_for f l.call ∷ below) (entry_for f flat.new.call ∷ below)
    (l.invariant.goes self below) (flat.ensures.goes (text_of p) self below))

pub returns-then-not-instr_step-clause-kept : goal.returns-then-not-instr_step-clause-kept
returns-then-not-instr_step-clause-kept c = runs_on (runs_on c.loop-done.invariant.kept c.flat_steps-done.ensures.kept) c.instr_step.ensures.kept

pub returns-then-not-instr_step-clause-noted : goal.returns-then-not-instr_step-clause-noted
returns-then-not-instr_step-clause-noted c = λ on. noted_on (noted_on (c.loop-done.invariant.noted on) (c.flat_steps-done.ensures.noted on)) (c.instr_step.ensures.noted on)
