use Rattle.std.proofs.Common.{sym, ◌∙◌, subst}
use Rattle.cml_step.specs.declared.journal.Journal.{Journal}
use Rattle.cml_step.specs.Undone.{IsNotedStack}
use Rattle.cml_step.proofs.UndoLemmas.{runs_as, begun_whole, err_anyway}
use Rattle.cml_step.proofs.still.begin_slice.Goals as goal

pub returns-in-None-clause-begins : goal.returns-in-None-clause-begins
returns-in-None-clause-begins c =
    let p = c.args.program.now in
    let b = c.still.new in
    let stays = c.still.ensures.stays c.in-None.is in
    begun_whole p c.copy_whole.result b.journal b.asked c.args.stack.now b.stack c.copy_whole.new.spare
    stays.0 (stays.1 ∙ c.requires.nothing) c.requires.fits c.copy_whole.ensures

pub returns-in-None-clause-err : goal.returns-in-None-clause-err
returns-in-None-clause-err c =
    let stays = c.still.ensures.stays c.in-None.is in
    err_anyway c.copy_whole.result (stays.0, stays.1 ∙ c.requires.nothing)

pub returns-in-Asks-clause-begins : goal.returns-in-Asks-clause-begins
returns-in-Asks-clause-begins c =
    let b = c.still.new in
    runs_as c.args.program.now 1000 b.journal b.asked c.args.stack.now b.stack c.in-Asks.is c.in-Some.ensures.begun

pub returns-in-Ok-clause-begins : goal.returns-in-Ok-clause-begins
returns-in-Ok-clause-begins c =
    let b = c.still.new in
    let h = runs_as c.args.program.now 1000 b.journal b.asked c.args.stack.now b.stack c.in-Goes.is c.in-Some.ensures.begun in
    record {
      spare_is = c.in-Ok.ensures.ok c.args.stack.now h.noted;
      asks = h.asks;
      fits = h.fits;
      within = h.within;
      goes = h.goes;
    }

pub returns-in-Err-clause-err : goal.returns-in-Err-clause-err
returns-in-Err-clause-err c =
    let b = c.still.new in
    let h = runs_as c.args.program.now 1000 b.journal b.asked c.args.stack.now b.stack c.in-Goes.is c.in-Some.ensures.begun in
    (c.undo_noted.ensures c.args.stack.now (subst (λ (j : Journal). IsNotedStack j b.stack c.args.stack.now) (sym c.in-Err.ensures.err) h.noted), h.asks)
