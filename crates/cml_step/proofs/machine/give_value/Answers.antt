use Rattle.std.proofs.Common.{◌≡◌, ◌++◌, ◌∷◌, [], Some, ap, sym, ◌∙◌, subst}
use Rattle.cml_step.specs.declared.entry.Entry.{Entry}
use Rattle.cml_step.specs.declared.entry.Entry.TheVariants as entry
use Rattle.cml_step.specs.Answers.{top_await, after_answer}
use Rattle.cml_step.specs.Asks.{a_value}
use Rattle.cml_step.specs.Calls.{text_of}
use Rattle.cml_step.specs.Machines.{plain_held}
use Rattle.cml_step.specs.Shared.{topped, called}
use Rattle.cml_step.specs.Stacks.{StackFits, term_of}
use Rattle.cml_step.proofs.AnswerLemmas.{value_last, value_given, value_given_fits}
use Rattle.cml_step.proofs.StackLemmas.{fits_popped, filled_room}
use Rattle.cml_step.proofs.machine.give_value.Goals as goal

pub fill-requires : goal.fill-requires
fill-requires c =
    let p = c.requires.0 in
    let s = c.stack.inside in
    let hs = called s.below s.call in
    let e : Entry = entry.Call c.in-Some-Call.call in
    let st : c.args.stack.now ≡ hs ++ plain_held e ∷ [] = sym c.stack.view_is ∙ ap (topped hs) (c.in-Some-Call.is ∙ ap Some c.in-Some-Call.field-0-is) in
    record { waits = filled_room p c.in-Some-Call.call (fits_popped p hs (plain_held e) (subst (StackFits p) st c.requires.1)).1 }

pub fill-requires-in-Some : goal.fill-requires-in-Some
fill-requires-in-Some c =
    let p = c.requires.0 in
    let s = c.stack.inside in
    let hs = s.below in
    let e : Entry = entry.Call c.in-Some.call in
    let st : c.args.stack.now ≡ hs ++ plain_held e ∷ [] = sym c.stack.view_is ∙ ap (topped (called hs s.call)) c.in-None.is ∙ ap (called hs) c.in-Some.is in
    record { waits = filled_room p c.in-Some.call (fits_popped p hs (plain_held e) (subst (StackFits p) st c.requires.1)).1 }

pub returns-in-Some-Call-clause-term : goal.returns-in-Some-Call-clause-term
returns-in-Some-Call-clause-term c = λ p o h.
    let s = c.stack.inside in
    let hs = called s.below s.call in
    let e : Entry = entry.Call c.in-Some-Call.call in
    let st : c.args.stack.now ≡ hs ++ plain_held e ∷ [] = sym c.stack.view_is ∙ ap (topped hs) (c.in-Some-Call.is ∙ ap Some c.in-Some-Call.field-0-is) in
    value_given p hs c.in-Some-Call.call c.fill.new.call c.args.value o (subst (StackFits p) st h) c.fill.ensures.place c.fill.ensures.runs c.fill.ensures.slots
    ∙ ap (λ es. after_answer (text_of p) (a_value c.args.value) (term_of p es)) (sym st)

pub returns-in-Some-Call-clause-fits : goal.returns-in-Some-Call-clause-fits
returns-in-Some-Call-clause-fits c = λ p h g.
    let s = c.stack.inside in
    let hs = called s.below s.call in
    let e : Entry = entry.Call c.in-Some-Call.call in
    let st : c.args.stack.now ≡ hs ++ plain_held e ∷ [] = sym c.stack.view_is ∙ ap (topped hs) (c.in-Some-Call.is ∙ ap Some c.in-Some-Call.field-0-is) in
    value_given_fits p hs c.in-Some-Call.call c.fill.new.call c.args.value (subst (StackFits p) st h) g c.fill.ensures.place.0 c.fill.ensures.runs c.fill.ensures.slots

pub returns-in-Some-Force : goal.returns-in-Some-Force
returns-in-Some-Force c =
    let p = c.requires.0 in
    let s = c.stack.inside in
    let hs = called s.below s.call in
    let e : Entry = entry.Force c.in-Some-Force.field-0-0 c.in-Some-Force.field-0-1 in
    let st : c.args.stack.now ≡ hs ++ plain_held e ∷ [] = sym c.stack.view_is ∙ ap (topped hs) (c.in-Some-Force.is ∙ ap Some c.in-Some-Force.field-0-is) in
    let r = value_last p hs e (ap (λ es. top_await (term_of p es)) (sym st) ∙ c.requires.2) in
    absurd (cc)

pub returns-in-Some-Wraps : goal.returns-in-Some-Wraps
returns-in-Some-Wraps c =
    let p = c.requires.0 in
    let s = c.stack.inside in
    let hs = called s.below s.call in
    let e : Entry = entry.Wraps c.in-Some-Wraps.field-0-0 in
    let st : c.args.stack.now ≡ hs ++ plain_held e ∷ [] = sym c.stack.view_is ∙ ap (topped hs) (c.in-Some-Wraps.is ∙ ap Some c.in-Some-Wraps.field-0-is) in
    let r = value_last p hs e (ap (λ es. top_await (term_of p es)) (sym st) ∙ c.requires.2) in
    absurd (cc)

pub returns-in-Some-clause-term : goal.returns-in-Some-clause-term
returns-in-Some-clause-term c = λ p o h.
    let s = c.stack.inside in
    let hs = s.below in
    let e : Entry = entry.Call c.in-Some.call in
    let st : c.args.stack.now ≡ hs ++ plain_held e ∷ [] = sym c.stack.view_is ∙ ap (topped (called hs s.call)) c.in-None.is ∙ ap (called hs) c.in-Some.is in
    ap (λ x. term_of p (topped (hs ++ plain_held (entry.Call c.fill-in-Some.new.call) ∷ []) x)) c.in-None.is
    ∙ value_given p hs c.in-Some.call c.fill-in-Some.new.call c.args.value o (subst (StackFits p) st h) c.fill-in-Some.ensures.place c.fill-in-Some.ensures.runs c.fill-in-Some.ensures.slots
    ∙ ap (λ es. after_answer (text_of p) (a_value c.args.value) (term_of p es)) (sym st)

pub returns-in-Some-clause-fits : goal.returns-in-Some-clause-fits
returns-in-Some-clause-fits c = λ p h g.
    let s = c.stack.inside in
    let hs = s.below in
    let e : Entry = entry.Call c.in-Some.call in
    let st : c.args.stack.now ≡ hs ++ plain_held e ∷ [] = sym c.stack.view_is ∙ ap (topped (called hs s.call)) c.in-None.is ∙ ap (called hs) c.in-Some.is in
    subst (StackFits p) (sym (ap (topped (hs ++ plain_held (entry.Call c.fill-in-Some.new.call) ∷ [])) c.in-None.is))
    (value_given_fits p hs c.in-Some.call c.fill-in-Some.new.call c.args.value (subst (StackFits p) st h) g c.fill-in-Some.ensures.place.0 c.fill-in-Some.ensures.runs c.fill-in-Some.ensures.slots)
