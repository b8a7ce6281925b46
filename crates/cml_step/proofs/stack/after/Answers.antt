use Rattle.std.proofs.Common.{◌∙◌, ap, sym, subst, Ok, false}
use Rattle.cml_value.specs.Value.{function, values}
use Rattle.cml_check.specs.InOrder.{arities}
use Rattle.cml_step.specs.declared.ask.Ask.{Ask}
use Rattle.cml_step.specs.declared.call.Action.{Action}
use Rattle.cml_step.specs.Agrees.{ask_agrees}
use Rattle.cml_step.specs.Asks as ask
use Rattle.cml_step.specs.AskViews.{plain_ask}
use Rattle.cml_step.specs.Calls.{text_of, MovesTo, ActionAgrees}
use Rattle.cml_step.specs.Machines.{held_entry}
use Rattle.cml_step.specs.Stacks.{EntryStands, StepFits, term_of}
use Rattle.cml_step.specs.Steps.{asks}
use Rattle.cml_step.specs.Terms.{call_of, force}
use Rattle.cml_step.proofs.StackLemmas.{stands_fits, stands_beneath, stands_on, stands_under}
use Rattle.cml_step.proofs.stack.after.Goals as goal

pub push_force-requires-clause-beneath : goal.push_force-requires-clause-beneath
push_force-requires-clause-beneath c =
    let p = c.args.program.now in
    let s = c.requires.stands in
    stands_beneath p c.args.stack.now s.rest s.top s.is s.beneath (subst (λ (d : Action). EntryStands p d s.top) c.in-Forces.is s.stands)

pub push_call-requires-clause-beneath : goal.push_call-requires-clause-beneath
push_call-requires-clause-beneath c =
    let p = c.args.program.now in
    let s = c.requires.stands in
    stands_beneath p c.args.stack.now s.rest s.top s.is s.beneath (subst (λ (d : Action). EntryStands p d s.top) c.in-Calls.is s.stands)

pub returns-in-Goes-clause-meant : goal.returns-in-Goes-clause-meant
returns-in-Goes-clause-meant c = λ hs h step e m.
    let p = c.args.program.now in
    stands_on p c.args.stack.now hs h ask.nothing step e (subst (λ (d : Action). MovesTo p (Ok d) (held_entry p h) (term_of p hs) step) c.in-Goes.is m)
    ∙ ap (λ a. asks (plain_ask a) (term_of p c.args.stack.now)) (sym c.requires.nothing)

pub returns-in-Goes-clause-fits : goal.returns-in-Goes-clause-fits
returns-in-Goes-clause-fits c =
    let p = c.args.program.now in
    let s = c.requires.stands in (
      stands_fits p c.args.stack.now s.rest s.top s.is s.beneath (subst (λ (d : Action). EntryStands p d s.top)
          c.in-Goes.is s.stands),
      ap (λ a. ask_agrees (arities p) (plain_ask a)) c.requires.nothing,
    )

pub returns-in-Asks-clause-meant : goal.returns-in-Asks-clause-meant
returns-in-Asks-clause-meant c = λ hs h step e m.
    let p = c.args.program.now in
    stands_on p c.args.stack.now hs h (plain_ask c.in-Asks.ask) step e (subst (λ (d : Action). MovesTo p (Ok d) (held_entry p h) (term_of p hs) step) c.in-Asks.is m)

pub returns-in-Asks-clause-fits : goal.returns-in-Asks-clause-fits
returns-in-Asks-clause-fits c =
    let p = c.args.program.now in
    let s = c.requires.stands in (
      stands_fits p c.args.stack.now s.rest s.top s.is s.beneath (subst (λ (d : Action). EntryStands p d s.top) c.in-Asks.is s.stands),
      subst (λ (d : Action). ActionAgrees (arities p) (Ok d)) c.in-Asks.is c.requires.did,
    )

pub returns-in-Forces-clause-meant : goal.returns-in-Forces-clause-meant
returns-in-Forces-clause-meant c = λ hs h step e m.
    let p = c.args.program.now in
    stands_under p c.args.stack.now c.push_force.new.stack hs h (force c.in-Forces.event false) c.push_force.result c.args.asked.now step e
    (subst (λ (d : Action). MovesTo p (Ok d) (held_entry p h) (term_of p hs) step) c.in-Forces.is m) c.requires.nothing c.push_force.ensures.meant

pub returns-in-Calls-clause-meant : goal.returns-in-Calls-clause-meant
returns-in-Calls-clause-meant c = λ hs h step e m.
    let p = c.args.program.now in
    stands_under p c.args.stack.now c.push_call.new.below hs h (call_of (text_of p) (function c.in-Calls.func (values c.in-Calls.args.items))) c.push_call.result c.args.asked.now step e
    (subst (λ (d : Action). MovesTo p (Ok d) (held_entry p h) (term_of p hs) step) c.in-Calls.is m) c.requires.nothing c.push_call.ensures.meant

pub returns-in-Forces-clause-fits : goal.returns-in-Forces-clause-fits
returns-in-Forces-clause-fits c =
    let p = c.args.program.now in
    subst (λ (a : Ask). StepFits p c.push_force.result a c.push_force.new.stack) (sym c.requires.nothing) c.push_force.ensures.fits

pub returns-in-Calls-clause-fits : goal.returns-in-Calls-clause-fits
returns-in-Calls-clause-fits c =
    let p = c.args.program.now in
    subst (λ (a : Ask). StepFits p c.push_call.result a c.push_call.new.below) (sym c.requires.nothing) c.push_call.ensures.fits
