use Rattle.std.proofs.Common.{◌≡◌, ◌++◌, ◌∷◌, [], ap, sym, ◌∙◌, subst, List, None}
use Rattle.cml_step.specs.declared.call.Call.{Call}
use Rattle.cml_step.specs.declared.entry.Entry.{Entry}
use Rattle.cml_step.specs.declared.entry.Entry.TheVariants as entry
use Rattle.cml_step.specs.Callers.{calls_on, AllCallsFit}
use Rattle.cml_step.specs.Calls.{text_of, entry_of}
use Rattle.cml_step.specs.Machines.{PlainHeld, plain_held}
use Rattle.cml_step.specs.Shared.{topped, called}
use Rattle.cml_step.specs.Slices.{GoesIn}
use Rattle.cml_step.specs.Stacks.{StackFits, term_of}
use Rattle.cml_step.specs.Terms.{Term}
use Rattle.cml_step.proofs.StackLemmas.{fits_popped, stands_fits, pushed_is, none_over, term_length}
use Rattle.cml_step.proofs.steps.quick_steps.Goals as goal

pub quick_run-done-requires-clause-call : goal.quick_run-done-requires-clause-call
quick_run-done-requires-clause-call c =
    let p = c.args.program.now in
    let s = c.stack.inside in
    let hs = s.below in
    let e : Entry = entry.Call c.in-Some.call in
    let none : s.over ≡ None = none_over s.over (sym c.is_some.ensures ∙ c.if-is_some.false) in
    let st : c.args.stack.now ≡ hs ++ plain_held e ∷ [] = sym c.stack.view_is ∙ ap (topped (called hs s.call)) none ∙ ap (called hs) c.in-Some.is in
    (fits_popped p hs (plain_held e) (subst (StackFits p) st c.requires)).1

pub returns-in-Some-clause-fits : goal.returns-in-Some-clause-fits
returns-in-Some-clause-fits c =
    let p = c.args.program.now in
    let s = c.stack.inside in
    let hs = s.below in
    let e : Entry = entry.Call c.in-Some.call in
    let g : Entry = entry.Call c.quick_run-done.new.call in
    let none : s.over ≡ None = none_over s.over (sym c.is_some.ensures ∙ c.if-is_some.false) in
    let st : c.args.stack.now ≡ hs ++ plain_held e ∷ [] = sym c.stack.view_is ∙ ap (topped (called hs s.call)) none ∙ ap (called hs) c.in-Some.is in
    let new = c.lay_down.new.below in
    stands_fits p (topped (new ++ plain_held g ∷ []) s.over) new (plain_held g) (ap (topped (new ++ plain_held g ∷ [])) none)
    (c.in_ok-lay_down.ensures.fits p (fits_popped p hs (plain_held e) (subst (StackFits p) st c.requires)).0 c.quick_run-done.ensures.callers) c.quick_run-done.ensures.fits

pub returns-in-Some-clause-goes : goal.returns-in-Some-clause-goes
returns-in-Some-clause-goes c = λ self.
    let p = c.args.program.now in
    let s = c.stack.inside in
    let hs = s.below in
    let k = c.in-Some.call in
    let e : Entry = entry.Call k in
    let g : Entry = entry.Call c.quick_run-done.new.call in
    let none : s.over ≡ None = none_over s.over (sym c.is_some.ensures ∙ c.if-is_some.false) in
    let st : c.args.stack.now ≡ hs ++ plain_held e ∷ [] = sym c.stack.view_is ∙ ap (topped (called hs s.call)) none ∙ ap (called hs) c.in-Some.is in
    let new = c.lay_down.new.below in
    let all : List PlainHeld = topped (new ++ plain_held g ∷ []) s.over in
    subst (λ (t : Term). GoesIn (text_of p) self c.quick_run-done.result t (term_of p all)) (sym (pushed_is p hs c.args.stack.now (plain_held e) st))
    (subst (λ (t : Term). GoesIn (text_of p) self c.quick_run-done.result (entry_of p k ∷ term_of p hs) t)
    (sym (pushed_is p new all (plain_held g) (ap (topped (new ++ plain_held g ∷ [])) none) ∙ ap (λ t. entry_of p c.quick_run-done.new.call ∷ t) (c.in_ok-lay_down.ensures.term p)))
    (subst (λ (cs : List Call). GoesIn (text_of p) self c.quick_run-done.result
    (entry_of p k ∷ calls_on p cs (term_of p hs))
    (entry_of p c.quick_run-done.new.call ∷ calls_on p c.quick_run-done.new.callers.items (term_of p hs)))
    c.new-callers.ensures.items
    (c.quick_run-done.ensures.goes self (term_of p hs) (c.room_above-room.ensures (term_of p hs) (term_length p hs ∙ sym c.len-beneath.ensures.len)))))

pub quick_run-done-requires-clause-callers : goal.quick_run-done-requires-clause-callers
quick_run-done-requires-clause-callers c = subst (AllCallsFit c.args.program.now) (sym c.new-callers.ensures.items) tt
