use Rattle.std.proofs.Common.{◌+◌, refl}
use Rattle.cml_step.specs.declared.journal.Journal.{Journal}
use Rattle.cml_step.specs.Calls.{text_of}
use Rattle.cml_step.specs.Stacks.{term_of}
use Rattle.cml_step.specs.Undone.{stood}
use Rattle.cml_step.proofs.QuickLemmas.{goes_then}
use Rattle.cml_step.proofs.SyncLemmas.{call_there}
use Rattle.cml_step.proofs.UndoLemmas.{run_in, run_fits, before_same, same_had, noted_on}
use Rattle.cml_step.proofs.still.still_steps.Goals as goal

pub plain_run-set-requires : goal.plain_run-set-requires
plain_run-set-requires c = call_there c.args.program.now c.args.below.now c.begin_noted.new.call c.begin_noted.new.over c.in_ok-first.ensures.fits

pub put_over-put-requires-clause-fits : goal.put_over-put-requires-clause-fits
put_over-put-requires-clause-fits c =
    run_fits c.args.program.now c.args.below.now c.begin_noted.new.call c.plain_run-set.new.call c.begin_noted.new.over c.in_ok-first.ensures.none
    c.in_ok-first.ensures.fits c.plain_run-set.ensures.fits

pub returns-then-done-most-clause-fits : goal.returns-then-done-most-clause-fits
returns-then-done-most-clause-fits c =
    run_fits c.args.program.now c.args.below.now c.begin_noted.new.call c.plain_run-set.new.call c.begin_noted.new.over c.in_ok-first.ensures.none
    c.in_ok-first.ensures.fits c.plain_run-set.ensures.fits

pub returns-then-done-most-clause-goes : goal.returns-then-done-most-clause-goes
returns-then-done-most-clause-goes c = λ self.
    let p = c.args.program.now in
    let hs = c.args.below.now in
    let a = c.begin_noted.new in
    let b = c.plain_run-set.new.call in
    goes_then (text_of p) self c.in_ok-first.first c.plain_run-set.result (term_of p (stood hs c.args.call.now c.args.over.now)) (term_of p (stood hs a.call a.over)) (term_of p (stood hs b a.over))
    (c.in_ok-first.ensures.goes.1 self) (run_in p self c.plain_run-set.result hs a.call b a.over c.in_ok-first.ensures.none (c.plain_run-set.ensures.goes self))

pub returns-then-done-most-clause-undone : goal.returns-then-done-most-clause-undone
returns-then-done-most-clause-undone c =
    let a = c.begin_noted.new.journal in
    let head = c.in_ok-first.ensures.head.0 in
    let j : Journal = record { at = a.at; wait = a.wait; asked = a.asked; count = a.count; sets = c.plain_run-set.new.sets; over = a.over; forced = a.forced } in
    before_same c.args.below.now j c.args.call.now c.plain_run-set.new.call c.plain_run-set.new.call c.args.over.now
    (record { at = head.at; wait = head.wait; count = head.count }) c.in_ok-first.ensures.head.1
    (noted_on c.in_ok-first.ensures.noted (c.plain_run-set.ensures.noted refl)) (same_had c.plain_run-set.new.call)

pub returns-clause-goes : goal.returns-clause-goes
returns-clause-goes c = λ self.
    let p = c.args.program.now in
    let hs = c.args.below.now in
    let a = c.begin_noted.new in
    let b = c.plain_run-set.new.call in
    let n = c.in_ok-first.first in
    let m = c.plain_run-set.result in
    goes_then (text_of p) self (n + m) c.put_over-put.result (term_of p (stood hs c.args.call.now c.args.over.now)) (term_of p (stood hs b a.over)) (term_of p
    (stood hs c.put_over-put.new.call c.put_over-put.new.over))
    (goes_then (text_of p) self n m (term_of p (stood hs c.args.call.now c.args.over.now)) (term_of p (stood hs a.call a.over)) (term_of p (stood hs b a.over))
    (c.in_ok-first.ensures.goes.1 self) (run_in p self m hs a.call b a.over c.in_ok-first.ensures.none (c.plain_run-set.ensures.goes self)))
    (c.put_over-put.ensures.goes self)

pub returns-clause-undone : goal.returns-clause-undone
returns-clause-undone c =
    let a = c.begin_noted.new.journal in
    let head = c.in_ok-first.ensures.head.0 in
    let j : Journal = record { at = a.at; wait = a.wait; asked = a.asked; count = a.count; sets = c.plain_run-set.new.sets; over = a.over; forced = a.forced } in
    before_same c.args.below.now j c.args.call.now c.plain_run-set.new.call c.put_over-put.new.call c.args.over.now
    (record { at = head.at; wait = head.wait; count = head.count }) c.in_ok-first.ensures.head.1
    (noted_on c.in_ok-first.ensures.noted (c.plain_run-set.ensures.noted refl)) c.put_over-put.ensures.had
