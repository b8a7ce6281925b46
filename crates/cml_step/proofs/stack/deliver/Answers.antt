use Rattle.std.proofs.Common.{◌≡◌, ◌++◌, ◌∷◌, [], List, ap, sym, ◌∙◌, subst, refl}
use Rattle.cml_check.specs.InOrder.{arities}
use Rattle.cml_step.specs.Agrees.{ask_agrees}
use Rattle.cml_step.specs.AskViews.{plain_ask}
use Rattle.cml_step.specs.declared.entry.Entry.{Entry}
use Rattle.cml_step.specs.declared.entry.Entry.TheVariants as entry
use Rattle.cml_step.specs.Machines.{PlainHeld, plain_held}
use Rattle.cml_step.specs.Shared.{topped, called}
use Rattle.cml_step.specs.Stacks.{term_of, EachBeneath}
use Rattle.cml_step.specs.Steps.{asks}
use Rattle.cml_step.proofs.StackLemmas.{beneath_popped, nothing_over, delivered_on, delivered_step, delivered_fits, stands_fits}
use Rattle.cml_step.proofs.stack.deliver.Goals as goal

pub deliver_to-requires-clause-fits : goal.deliver_to-requires-clause-fits
deliver_to-requires-clause-fits c =
    let p = c.args.program.now in
    let s = c.stack.inside in
    let hs = called s.below s.call in
    let e : Entry = c.in-Some.entry in
    let st : c.args.stack.now ≡ hs ++ plain_held e ∷ [] = sym c.stack.view_is ∙ ap (topped hs) c.in-Some.is in
    (beneath_popped p hs (plain_held e) (subst (EachBeneath p) st c.requires.beneath)).1

pub returns-in-Some-clause-meant : goal.returns-in-Some-clause-meant
returns-in-Some-clause-meant c =
    let p = c.args.program.now in
    let s = c.stack.inside in
    let hs = called s.below s.call in
    let e : Entry = c.in-Some.entry in
    let st : c.args.stack.now ≡ hs ++ plain_held e ∷ [] = sym c.stack.view_is ∙ ap (topped hs) c.in-Some.is in
    let new = plain_held c.deliver_to.new.entry in
    delivered_step p c.args.stack.now (hs ++ new ∷ []) hs (plain_held e) new c.args.value c.deliver_to.result c.args.asked.now st refl c.requires.nothing (c.deliver_to.ensures.meant (term_of p hs))

pub returns-in-Some-clause-fits : goal.returns-in-Some-clause-fits
returns-in-Some-clause-fits c =
    let p = c.args.program.now in
    let s = c.stack.inside in
    let hs = called s.below s.call in
    let e : Entry = c.in-Some.entry in
    let st : c.args.stack.now ≡ hs ++ plain_held e ∷ [] = sym c.stack.view_is ∙ ap (topped hs) c.in-Some.is in
    let new = plain_held c.deliver_to.new.entry in
    delivered_fits p (hs ++ new ∷ []) hs new c.deliver_to.result c.args.asked.now refl c.requires.nothing
    (beneath_popped p hs (plain_held e) (subst (EachBeneath p) st c.requires.beneath)).0 c.deliver_to.ensures.fits

pub deliver_to_call-requires-clause-fits : goal.deliver_to_call-requires-clause-fits
deliver_to_call-requires-clause-fits c =
    let p = c.args.program.now in
    let s = c.stack.inside in
    let hs = s.below in
    let e : Entry = entry.Call c.in-Some-call.call in
    let st : c.args.stack.now ≡ hs ++ plain_held e ∷ [] = sym c.stack.view_is ∙ ap (topped (called hs s.call)) (nothing_over s.over c.in_default.not-Some) ∙ ap (called hs) c.in-Some-call.is in
    (beneath_popped p hs (plain_held e) (subst (EachBeneath p) st c.requires.beneath)).1

pub returns-in-Some-call-clause-meant : goal.returns-in-Some-call-clause-meant
returns-in-Some-call-clause-meant c =
    let p = c.args.program.now in
    let s = c.stack.inside in
    let hs = s.below in
    let e : Entry = entry.Call c.in-Some-call.call in
    let g : Entry = entry.Call c.deliver_to_call.new.call in
    let st : c.args.stack.now ≡ hs ++ plain_held e ∷ [] = sym c.stack.view_is ∙ ap (topped (called hs s.call)) (nothing_over s.over c.in_default.not-Some) ∙ ap (called hs) c.in-Some-call.is in
    let all : List PlainHeld = topped (hs ++ plain_held g ∷ []) s.over in
    delivered_on p c.args.stack.now all hs (plain_held e) (plain_held g) c.args.value st (ap (topped (hs ++ plain_held g ∷ [])) (nothing_over s.over c.in_default.not-Some))
    (c.deliver_to_call.ensures.meant (term_of p hs))
    ∙ ap (λ a. asks (plain_ask a) (term_of p all)) (sym c.requires.nothing)

pub returns-in-Some-call-clause-fits : goal.returns-in-Some-call-clause-fits
returns-in-Some-call-clause-fits c =
    let p = c.args.program.now in
    let s = c.stack.inside in
    let hs = s.below in
    let e : Entry = entry.Call c.in-Some-call.call in
    let g : Entry = entry.Call c.deliver_to_call.new.call in
    let st : c.args.stack.now ≡ hs ++ plain_held e ∷ [] = sym c.stack.view_is ∙ ap (topped (called hs s.call)) (nothing_over s.over c.in_default.not-Some) ∙ ap (called hs) c.in-Some-call.is in (
      stands_fits p (topped (hs ++ plain_held g ∷ []) s.over) hs (plain_held g)
          (ap (topped (hs ++ plain_held g ∷ [])) (nothing_over s.over c.in_default.not-Some))
          (beneath_popped p hs (plain_held e) (subst (EachBeneath p) st c.requires.beneath)).0
          c.deliver_to_call.ensures.fits,
      ap (λ a. ask_agrees (arities p) (plain_ask a)) c.requires.nothing,
    )
