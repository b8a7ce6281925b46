use Rattle.std.proofs.Common.{◌≡◌, ◌++◌, ◌∷◌, [], ap, sym, ◌∙◌, subst, refl, Err, List}
use Rattle.cml_step.specs.declared.entry.Entry.{Entry}
use Rattle.cml_step.specs.declared.entry.Entry.TheVariants as entry
use Rattle.cml_step.specs.Calls.{text_of, entry_of}
use Rattle.cml_step.specs.Machines.{PlainHeld, plain_held, held_entry}
use Rattle.cml_step.specs.Shared.{topped, called}
use Rattle.cml_step.specs.Stacks.{entry_view, term_of, StackFits, IsStep}
use Rattle.cml_step.specs.Steps.{next}
use Rattle.cml_step.specs.Terms.{Term}
use Rattle.cml_step.proofs.StackLemmas.{fits_popped, pushed_is, moved_failed, same_error, count_under, call_stands}
use Rattle.cml_step.proofs.stack.step.Goals as goal

pub step_of_entry-requires : goal.step_of_entry-requires
step_of_entry-requires c =
    let p = c.args.program.now in
    let s = c.stack.inside in
    let hs = called s.below s.call in
    let e : Entry = c.in-Some.entry in
    let st : c.args.stack.now ≡ hs ++ plain_held e ∷ [] = sym c.stack.view_is ∙ ap (topped hs) c.in-Some.is in
    record { fits = (fits_popped p hs (plain_held e) (subst (StackFits p) st c.requires.fits)).1 }

pub returns-in_err-did-in-Some-clause-meant : goal.returns-in_err-did-in-Some-clause-meant
returns-in_err-did-in-Some-clause-meant c =
    let p = c.args.program.now in
    let s = c.stack.inside in
    let hs = called s.below s.call in
    let e : Entry = c.in-Some.entry in
    let st : c.args.stack.now ≡ hs ++ plain_held e ∷ [] = sym c.stack.view_is ∙ ap (topped hs) c.in-Some.is in
    let new = plain_held c.step_of_entry.new.entry in
    same_error p c.from_residual.result c.in_err-did-in-Some.field-0.0 c.args.asked.now (next (text_of p) c.args.thread.0 (term_of p c.args.stack.now)) (hs ++ new ∷ []) c.from_residual.ensures.1
    (subst (λ (t : Term). IsStep p (Err c.in_err-did-in-Some.field-0.0) c.args.asked.now
    (next (text_of p) c.args.thread.0 t) (hs ++ new ∷ [])) (sym (pushed_is p hs c.args.stack.now (plain_held e) st))
    (moved_failed p c.in_err-did-in-Some.field-0.0 (held_entry p new) (term_of p hs) c.args.asked.now (next (text_of p) c.args.thread.0 (entry_view p e ∷ term_of p hs)) (hs ++ new ∷ [])
    (c.in_err-did-in-Some.ensures.moves (term_of p hs) (count_under p c.args.stack.now hs (plain_held e) c.len-entries.result st c.len-entries.ensures))))

pub after-requires-clause-stands : goal.after-requires-clause-stands
after-requires-clause-stands c =
    let p = c.args.program.now in
    let s = c.stack.inside in
    let hs = called s.below s.call in
    let e : Entry = c.in-Some.entry in
    let st : c.args.stack.now ≡ hs ++ plain_held e ∷ [] = sym c.stack.view_is ∙ ap (topped hs) c.in-Some.is in
    record {
      rest = hs;
      top = plain_held c.step_of_entry.new.entry;
      is = refl;
      beneath = (fits_popped p hs (plain_held e) (subst (StackFits p) st c.requires.fits)).0;
      stands = c.in_ok-did-in-Some.ensures.stands;
    }

pub step_of_call-requires : goal.step_of_call-requires
step_of_call-requires c =
    let p = c.args.program.now in
    let s = c.stack.inside in
    let hs = s.below in
    let e : Entry = entry.Call c.in-Some-call.call in
    let st : c.args.stack.now ≡ hs ++ plain_held e ∷ [] = sym c.stack.view_is ∙ ap (topped (called hs s.call)) c.in-None.is ∙ ap (called hs) c.in-Some-call.is in
    record { fits = (fits_popped p hs (plain_held e) (subst (StackFits p) st c.requires.fits)).1 }

pub returns-in_err-did-in-Some-call-clause-meant : goal.returns-in_err-did-in-Some-call-clause-meant
returns-in_err-did-in-Some-call-clause-meant c =
    let p = c.args.program.now in
    let s = c.stack.inside in
    let hs = s.below in
    let e : Entry = entry.Call c.in-Some-call.call in
    let st : c.args.stack.now ≡ hs ++ plain_held e ∷ [] = sym c.stack.view_is ∙ ap (topped (called hs s.call)) c.in-None.is ∙ ap (called hs) c.in-Some-call.is in
    let k = c.step_of_call.new.call in
    let all : List PlainHeld = topped (hs ++ plain_held (entry.Call k) ∷ []) s.over in
    same_error p c.from_residual-in_err-did-in-Some-call.result c.in_err-did-in-Some-call.field-0.0 c.args.asked.now (next (text_of p) c.args.thread.0 (term_of p c.args.stack.now)) all
    c.from_residual-in_err-did-in-Some-call.ensures.1
    (subst (λ (t : Term). IsStep p (Err c.in_err-did-in-Some-call.field-0.0) c.args.asked.now (next (text_of p) c.args.thread.0 t) all) (sym (pushed_is p hs c.args.stack.now (plain_held e) st))
    (moved_failed p c.in_err-did-in-Some-call.field-0.0 (entry_of p k) (term_of p hs) c.args.asked.now (next (text_of p) c.args.thread.0 (entry_of p c.in-Some-call.call ∷ term_of p hs)) all
    (c.in_err-did-in-Some-call.ensures.moves (term_of p hs))))

pub after-requires-in-Some-call-clause-stands : goal.after-requires-in-Some-call-clause-stands
after-requires-in-Some-call-clause-stands c =
    let p = c.args.program.now in
    let s = c.stack.inside in
    let hs = s.below in
    let e : Entry = entry.Call c.in-Some-call.call in
    let k = c.step_of_call.new.call in
    let st : c.args.stack.now ≡ hs ++ plain_held e ∷ [] = sym c.stack.view_is ∙ ap (topped (called hs s.call)) c.in-None.is ∙ ap (called hs) c.in-Some-call.is in
    record {
      rest = hs;
      top = plain_held (entry.Call k);
      is = ap (topped (hs ++ plain_held (entry.Call k) ∷ [])) c.in-None.is;
      beneath = (fits_popped p hs (plain_held e) (subst (StackFits p) st c.requires.fits)).0;
      stands = call_stands p c.in_ok-did-in-Some-call.did k c.step_of_call.ensures.fits;
    }

pub returns-in_ok-did-in-Some-clause-meant : goal.returns-in_ok-did-in-Some-clause-meant
returns-in_ok-did-in-Some-clause-meant c =
    let p = c.args.program.now in
    let s = c.stack.inside in
    let hs = called s.below s.call in
    let e : Entry = c.in-Some.entry in
    let st : c.args.stack.now ≡ hs ++ plain_held e ∷ [] = sym c.stack.view_is ∙ ap (topped hs) c.in-Some.is in
    subst (λ (t : Term). IsStep p c.after.result c.after.new.asked (next (text_of p) c.args.thread.0 t) c.after.new.stack) (sym (pushed_is p hs c.args.stack.now (plain_held e) st))
    (c.after.ensures.meant hs (plain_held c.step_of_entry.new.entry) (next (text_of p) c.args.thread.0 (entry_view p e ∷ term_of p hs)) refl
    (c.in_ok-did-in-Some.ensures.moves (term_of p hs) (count_under p c.args.stack.now hs (plain_held e) c.len-entries.result st c.len-entries.ensures)))

pub returns-in_ok-did-in-Some-call-clause-meant : goal.returns-in_ok-did-in-Some-call-clause-meant
returns-in_ok-did-in-Some-call-clause-meant c =
    let p = c.args.program.now in
    let s = c.stack.inside in
    let hs = s.below in
    let e : Entry = entry.Call c.in-Some-call.call in
    let st : c.args.stack.now ≡ hs ++ plain_held e ∷ [] = sym c.stack.view_is ∙ ap (topped (called hs s.call)) c.in-None.is ∙ ap (called hs) c.in-Some-call.is in
    subst (λ (t : Term). IsStep p c.after-in-Some-call.result c.after-in-Some-call.new.asked
    (next (text_of p) c.args.thread.0 t) c.after-in-Some-call.new.stack)
    (sym (pushed_is p hs c.args.stack.now (plain_held e) st))
    (c.after-in-Some-call.ensures.meant hs (plain_held (entry.Call c.step_of_call.new.call)) (next (text_of p) c.args.thread.0 (entry_of p c.in-Some-call.call ∷ term_of p hs))
    (ap (topped (hs ++ plain_held (entry.Call c.step_of_call.new.call) ∷ [])) c.in-None.is)
    (c.in_ok-did-in-Some-call.ensures.moves (term_of p hs)))
