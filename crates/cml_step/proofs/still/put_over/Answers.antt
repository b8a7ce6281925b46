use Rattle.std.proofs.Common.{◌++◌, ◌∷◌, [], ◌+◌, ◌<◌, length, ap, refl, sym, subst, ◌∙◌, arith}
use Rattle.cml_step.specs.declared.entry.Entry.TheVariants as entry
use Rattle.cml_step.specs.Machines.{plain_held}
use Rattle.cml_step.specs.Puts.{event_over}
use Rattle.cml_step.specs.Shared.{topped}
use Rattle.cml_step.specs.Stacks.{StackFits, term_of}
use Rattle.cml_step.specs.Undone.{stood}
use Rattle.cml_step.proofs.SyncLemmas.{event_put, put_fits, same_call, same_fits, call_there}
use Rattle.cml_step.proofs.still.put_over.Goals as goal

pub at_sync-requires : goal.at_sync-requires
at_sync-requires c = call_there c.args.program.now c.args.below.now c.args.call.now c.args.over.now c.requires.fits

pub sync_step-requires : goal.sync_step-requires
sync_step-requires c = call_there c.args.program.now c.args.below.now c.args.call.now c.args.over.now c.requires.fits

pub returns-clause-fits : goal.returns-clause-fits
returns-clause-fits c =
    let p = c.args.program.now in
    let hs = c.args.below.now in
    let k = c.args.call.now in
    let d = c.sync_step.new.call in
    let o = c.sync_step.new.over in
    let same = (c.sync_step.ensures.stays c.if-sync_step.false).1 in
    same_fits p hs (stood hs k c.args.over.now) (stood hs d o) k d (ap (topped (hs ++ plain_held (entry.Call k) ∷ [])) c.requires.none)
    (ap (topped (hs ++ plain_held (entry.Call d) ∷ [])) (same ∙ c.requires.none)) c.requires.fits c.sync_step.ensures.fits

pub returns-clause-goes : goal.returns-clause-goes
returns-clause-goes c = λ self.
    let p = c.args.program.now in
    let hs = c.args.below.now in
    let k = c.args.call.now in
    let d = c.sync_step.new.call in
    let o = c.sync_step.new.over in
    let same = c.sync_step.ensures.stays c.if-sync_step.false in
    same_call p hs (stood hs k c.args.over.now) (stood hs d o) k d (ap (topped (hs ++ plain_held (entry.Call k) ∷ [])) c.requires.none)
    (ap (topped (hs ++ plain_held (entry.Call d) ∷ [])) (same.1 ∙ c.requires.none)) same.0

pub returns-then-sync_step-clause-fits : goal.returns-then-sync_step-clause-fits
returns-then-sync_step-clause-fits c =
    let p = c.args.program.now in
    let hs = c.args.below.now in
    let k = c.args.call.now in
    let d = c.sync_step.new.call in
    let on = c.if-sync_step.true in
    let put = ap (topped (hs ++ plain_held (entry.Call d) ∷ [])) (c.sync_step.ensures.put on) in
    subst (StackFits p) (sym put) (put_fits p hs (stood hs k c.args.over.now) k d (event_over c.sync_step.new.over) (ap (topped (hs ++ plain_held (entry.Call k) ∷ [])) c.requires.none)
    c.requires.fits c.sync_step.ensures.fits (c.sync_step.ensures.agrees on))

pub returns-then-sync_step-clause-goes : goal.returns-then-sync_step-clause-goes
returns-then-sync_step-clause-goes c = λ self.
    let p = c.args.program.now in
    let hs = c.args.below.now in
    let k = c.args.call.now in
    let d = c.sync_step.new.call in
    let o = c.sync_step.new.over in
    let on = c.if-sync_step.true in
    let put = ap (topped (hs ++ plain_held (entry.Call d) ∷ [])) (c.sync_step.ensures.put on) in
    let room : length hs + 1 < 1024 = omega (arith, c.len.ensures.len) in (
      term_of p (stood hs d o),
      event_put p self hs (stood hs k c.args.over.now) (stood hs d o) k d (event_over o) (ap (topped (hs ++ plain_held (entry.Call k) ∷ [])) c.requires.none) put room
          (c.sync_step.ensures.gives on self),
      refl,
    )
