use Rattle.std.proofs.Common.{◌∷◌, ◌+◌, ◌<◌, List, sym, subst, arith}
use Rattle.cml_step.specs.declared.call.Call.{Call}
use Rattle.cml_step.specs.Callers.{calls_on}
use Rattle.cml_step.specs.Calls.{entry_of, text_of}
use Rattle.cml_step.specs.Slices.{GoesIn}
use Rattle.cml_step.specs.Terms.{StackEntry}
use Rattle.cml_step.proofs.SliceLemmas.{goes_more}
use Rattle.cml_step.proofs.QuickLemmas.{goes_then}
use Rattle.cml_step.proofs.quick.quick_run.Goals as goal

pub loop-done-preserved : goal.loop-done-preserved
loop-done-preserved c =
    let p = c.args.program.now in
    let n = c.plain_run-done.result in
    let cs = c.loop-done.callers.items in
    let lower : c.loop-done.done + n < c.args.most = omega (arith, c.plain_run-done.ensures.within, c.loop-done-test.true, c.if-done-most.false) in
    record {
      within = omega (arith, lower);
      fits = c.cross_step.ensures.fits;
      callers = c.cross_step.ensures.callers;
      goes = λ self below room.
          goes_more (text_of p) self (c.loop-done.done + n) (entry_of p c.args.call.now ∷ calls_on p c.args.callers.now.items below) (entry_of p c.plain_run-done.new.call ∷ calls_on p cs below)
          (entry_of p c.cross_step.new.call ∷ calls_on p c.cross_step.new.callers.items below)
          (goes_then (text_of p) self c.loop-done.done n (entry_of p c.args.call.now ∷ calls_on p c.args.callers.now.items below) (entry_of p c.loop-done.call ∷ calls_on p cs below)
          (entry_of p c.plain_run-done.new.call ∷ calls_on p cs below) (c.loop-done.invariant.goes self below room) (c.plain_run-done.ensures.goes self (calls_on p cs below)))
          (c.cross_step.ensures.goes c.if-not-cross_step.false self below room);
    }

pub returns-then-done-most-clause-goes : goal.returns-then-done-most-clause-goes
returns-then-done-most-clause-goes c = λ self below room.
    let p = c.args.program.now in
    let cs = c.loop-done.callers.items in
    goes_then (text_of p) self c.loop-done.done c.plain_run-done.result (entry_of p c.args.call.now ∷ calls_on p c.args.callers.now.items below) (entry_of p c.loop-done.call ∷ calls_on p cs below)
    (entry_of p c.plain_run-done.new.call ∷ calls_on p cs below) (c.loop-done.invariant.goes self below room) (c.plain_run-done.ensures.goes self (calls_on p cs below))

pub returns-then-not-cross_step-clause-goes : goal.returns-then-not-cross_step-clause-goes
returns-then-not-cross_step-clause-goes c = λ self below room.
    let p = c.args.program.now in
    let cs = c.loop-done.callers.items in
    let stays = c.cross_step.ensures.stays c.if-not-cross_step.true in
    let start = entry_of p c.args.call.now ∷ calls_on p c.args.callers.now.items below in
    subst (λ (e : StackEntry). GoesIn (text_of p) self (c.loop-done.done + c.plain_run-done.result) start (e ∷ calls_on p c.cross_step.new.callers.items below)) (sym stays.0)
    (subst (λ (ds : List Call). GoesIn (text_of p) self (c.loop-done.done + c.plain_run-done.result) start (entry_of p c.plain_run-done.new.call ∷ calls_on p ds below)) (sym stays.1)
    (goes_then (text_of p) self c.loop-done.done c.plain_run-done.result start (entry_of p c.loop-done.call ∷ calls_on p cs below)
    (entry_of p c.plain_run-done.new.call ∷ calls_on p cs below) (c.loop-done.invariant.goes self below room) (c.plain_run-done.ensures.goes self (calls_on p cs below))))
