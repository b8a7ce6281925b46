use Rattle.std.proofs.Common.{ap, sym, ◌∙◌}
use Rattle.cml_step.specs.AskViews.{plain_ask}
use Rattle.cml_step.specs.Undone.{stood}
use Rattle.cml_step.proofs.StackLemmas.{none_over}
use Rattle.cml_step.proofs.SyncLemmas.{call_put, call_there}
use Rattle.cml_step.proofs.UndoLemmas.{run_fits}
use Rattle.cml_step.proofs.still.asks_call.Goals as goal

pub ask_step-requires : goal.ask_step-requires
ask_step-requires c = call_there c.args.program.now c.args.below.now c.args.call.now c.args.over.now c.requires

pub returns-clause-asks : goal.returns-clause-asks
returns-clause-asks c = λ on self.
    let hs = c.args.below.now in
    let k = c.args.call.now in
    let d = c.ask_step.new.call in
    let o = c.args.over.now in
    let none = none_over o (sym c.is_some.ensures ∙ c.if-is_some.false) in
    call_put c.args.program.now self hs (stood hs k o) (stood hs d o) k d (plain_ask c.ask_step.new.asked)
    (ap (stood hs k) none) (ap (stood hs d) none) (c.ask_step.ensures.meant on self)

pub returns-clause-fits : goal.returns-clause-fits
returns-clause-fits c = λ on.
    let none = none_over c.args.over.now (sym c.is_some.ensures ∙ c.if-is_some.false) in
    run_fits c.args.program.now c.args.below.now c.args.call.now c.ask_step.new.call c.args.over.now none c.requires c.ask_step.ensures.fits
